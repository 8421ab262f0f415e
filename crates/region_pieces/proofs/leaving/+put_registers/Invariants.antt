use Rattle.std.proofs.Common.{length}
use Rattle.region_pieces.proofs.leaving.+put_registers.Given as goal

abbrev pub decreases-put_registers : goal.decreases-put_registers
decreases-put_registers l = length l.registers.now
