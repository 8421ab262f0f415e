use Rattle.std.proofs.Common.{◌≡◌, ◌-◌, ◌*◌, ◌≤◌, length, take}
use Rattle.kept_states.specs.Keeping.{mask_byte}
use Rattle.kept_states.specs.Laids.{LaidBelow}
use Rattle.kept_states.proofs.settling.settle_masks.Given as goal

abbrev pub invariant-loop-page : goal.invariant-loop-page
invariant-loop-page l = record {
  done : l.done ≤ length l.laids;
  most : l.page ≤ 4096;
  below : LaidBelow l.pieces (take l.done l.laids) (l.page * 16) (mask_byte l.shadow);
  begins : l.shadow.base ≡ l.fn.shadow.base;
}

abbrev pub decreases-loop-page : goal.decreases-loop-page
decreases-loop-page l = 4096 - l.page
