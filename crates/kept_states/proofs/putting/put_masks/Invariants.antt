use Rattle.std.proofs.Common.{◌≤◌, length, drop}
use Rattle.kept_states.specs.Keeping.{AreLaidMasks, KeepsLabels}
use Rattle.kept_states.proofs.putting.put_masks.Given as goal

abbrev pub invariant-loop-index : goal.invariant-loop-index
invariant-loop-index l = record {
  inside : l.index ≤ length l.laids;
  masks : AreLaidMasks l.pieces (drop l.index l.laids) l.shadow;
  same : KeepsLabels l.fn.shadow l.shadow;
}

abbrev pub decreases-loop-index : goal.decreases-loop-index
decreases-loop-index l = l.index
