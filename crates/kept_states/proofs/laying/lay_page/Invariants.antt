use Rattle.std.proofs.Common.{◌+◌, ◌*◌}
use Rattle.kept_states.specs.Keeping.{memory_byte}
use Rattle.kept_states.specs.Laids.{LaidBelow}
use Rattle.kept_states.specs.Pieces.{Grows}
use Rattle.kept_states.proofs.laying.lay_page.Given as goal

abbrev pub invariant-loop-place : goal.invariant-loop-place
invariant-loop-place l = record {
  laid : LaidBelow l.pieces l.laids.items (l.page * 16 + l.place) (memory_byte l.machine);
  grows : Grows l.fn.pieces l.pieces;
}
