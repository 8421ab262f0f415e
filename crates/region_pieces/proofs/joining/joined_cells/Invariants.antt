use Rattle.std.proofs.Common.{◌≡◌, vec_len}
use Rattle.region_pieces.proofs.joining.joined_cells.Given as goal

abbrev pub invariant-loop-at : goal.invariant-loop-at
invariant-loop-at l = vec_len l.cells ≡ l.at
