use Rattle.std.proofs.Common.{◌≡◌, length, nat_le, sum_by}
use Rattle.enclosure_regions.proofs.range_items.is_small.Given as goal

abbrev pub decreases-loop-rest : goal.decreases-loop-rest
decreases-loop-rest l = length l.rest

abbrev pub invariant-loop-rest : goal.invariant-loop-rest
invariant-loop-rest l = nat_le (sum_by (λ range. range.length) l.rest) l.left
    ≡ nat_le (sum_by (λ range. range.length) l.ranges) 65536
