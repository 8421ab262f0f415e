use Rattle.std.proofs.Common.{◌≡◌, ◌+◌, ◌*◌, ℕ}
use Rattle.region_learn.specs.Learnt.{have_byte}
use Rattle.region_learn.specs.Private.Spans.{SpansBelow, in_memory}
use Rattle.region_learn.proofs.spans.ranges_of.Given as goal

abbrev pub invariant-loop-index : goal.invariant-loop-index
invariant-loop-index l = record {
  below : SpansBelow (l.base + l.index * 4096) l.ranges.items;
  bytes : (other : ℕ) → have_byte l.ranges.items other ≡ in_memory l.marks l.base (l.index * 4096) other;
}
