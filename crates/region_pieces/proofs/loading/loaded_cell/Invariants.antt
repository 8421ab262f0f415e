use Rattle.std.proofs.Common.{◌≡◌, vec_len}
use Rattle.region_pieces.proofs.loading.loaded_cell.Given as goal

abbrev pub invariant-loop-offset : goal.invariant-loop-offset
invariant-loop-offset g l = vec_len l.cells ≡ l.offset
