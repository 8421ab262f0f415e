use Rattle.std.proofs.Common.{length}
use Rattle.region_machine.proofs.clearing.+clear_registers.Given as goal

abbrev pub decreases-clear_registers : goal.decreases-clear_registers
decreases-clear_registers g l = length l.registers.now
