use Rattle.std.proofs.Common.{◌+◌, ◌*◌}
use Rattle.kept_states.specs.Keeping.{mask_byte}
use Rattle.kept_states.specs.Laids.{LaidBelow}
use Rattle.kept_states.specs.Pieces.{Grows}
use Rattle.kept_states.proofs.laying.lay_mask_page.Given as goal

abbrev pub invariant-loop-place : goal.invariant-loop-place
invariant-loop-place l = record {
  laid : LaidBelow l.pieces l.laids.items (l.page * 16 + l.place) (mask_byte l.shadow);
  grows : Grows l.fn.pieces l.pieces;
}
