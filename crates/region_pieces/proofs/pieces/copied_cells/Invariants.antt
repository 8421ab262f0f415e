use Rattle.std.proofs.Common.{◌≡◌, vec_len}
use Rattle.region_pieces.proofs.pieces.copied_cells.Given as goal

abbrev pub invariant-loop-cell : goal.invariant-loop-cell
invariant-loop-cell l = vec_len l.copies ≡ l.cell-index
