use Rattle.std.proofs.Common.{◌*◌, ◌-◌, ◌≤◌}
use Rattle.kept_states.specs.Keeping.{mask_byte}
use Rattle.kept_states.specs.Laids.{LaidBelow}
use Rattle.kept_states.specs.Pieces.{Grows}
use Rattle.kept_states.proofs.laying.lay_masks.Given as goal

abbrev pub invariant-loop-page : goal.invariant-loop-page
invariant-loop-page l = record {
  most : l.page ≤ 4096;
  laid : LaidBelow l.pieces l.laids.items (l.page * 16) (mask_byte l.shadow);
  grows : Grows l.fn.pieces l.pieces;
}

abbrev pub decreases-loop-page : goal.decreases-loop-page
decreases-loop-page l = 4096 - l.page
