use Rattle.region_machine.proofs.KeptRegistersStay.{stays_register}
use Rattle.region_machine.proofs.giving.give_register.Goals as goal

pub returns-clause-stays : goal.returns-clause-stays
returns-clause-stays g c = rw c.set_register.ensures (stays_register c.args.machine.now c.args.register _)
