use Rattle.std.proofs.Common.{length}
use Rattle.region_machine.proofs.giving.+give_registers.Given as goal

abbrev pub decreases-give_registers : goal.decreases-give_registers
decreases-give_registers g l = length l.registers.now
