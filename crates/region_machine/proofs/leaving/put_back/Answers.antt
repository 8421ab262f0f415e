use Rattle.region_machine.proofs.KeptRegistersStay.{stays_restored}
use Rattle.region_machine.proofs.leaving.put_back.Goals as goal

pub returns-then-branch-clause-stays : goal.returns-then-branch-clause-stays
returns-then-branch-clause-stays g c =
    rw c.restore-then-branch.ensures (stays_restored c.args.machine.now c.args.registers.now)
