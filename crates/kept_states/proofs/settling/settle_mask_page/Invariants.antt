use Rattle.std.proofs.Common.{◌≡◌, ◌+◌, ◌*◌, ◌≤◌, length, take}
use Rattle.kept_states.specs.Keeping.{mask_byte}
use Rattle.kept_states.specs.Laids.{LaidBelow}
use Rattle.kept_states.proofs.settling.settle_mask_page.Given as goal

abbrev pub invariant-loop-place : goal.invariant-loop-place
invariant-loop-place l = record {
  laid : l.laid ≤ length l.laids;
  below : LaidBelow l.pieces (take l.laid l.laids) (l.page * 16 + l.place) (mask_byte l.shadow);
  begins : l.shadow.base ≡ l.fn.shadow.base;
}
