use Rattle.std.proofs.Common.{◌≡◌, vec_len}
use Rattle.region_pieces.proofs.pieces.entry_registers.Given as goal

abbrev pub invariant-loop-register : goal.invariant-loop-register
invariant-loop-register g l = vec_len l.registers ≡ l.register
