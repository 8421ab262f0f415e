use Rattle.std.proofs.Common.{◌≡◌, ◌+◌, ◌||◌, ℕ}
use Rattle.region_learn.specs.Learnt.{have_byte}
use Rattle.region_learn.specs.Private.Spans.{SpansBelow, in_page}
use Rattle.region_learn.proofs.spans.put_page.Given as goal

abbrev pub invariant-loop-place : goal.invariant-loop-place
invariant-loop-place l = record {
  below : SpansBelow (l.first + l.place) l.ranges.items;
  bytes : (other : ℕ) → have_byte l.ranges.items other
      ≡ (have_byte l.initial.ranges.items other || in_page l.page l.first l.place other);
}
