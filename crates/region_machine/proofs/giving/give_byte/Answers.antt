use Rattle.region_machine.proofs.KeptRegistersStay.{stays_byte}
use Rattle.region_machine.proofs.giving.give_byte.Goals as goal

pub returns-clause-stays : goal.returns-clause-stays
returns-clause-stays g c =
    rw c.set_byte.ensures
    (stays_byte c.args.machine.now c.args.machine.now.setting.base c.args.address _)
