use Rattle.std.proofs.Common.{◌≡◌, ◌<◌, ℕ, length}
use Rattle.shadow_masks.specs.Points.{listed_point, numbered_point}
use Rattle.shadow_masks.proofs.each_point.EachPoint.of.Given as goal

abbrev pub invariant-loop-place : goal.invariant-loop-place
invariant-loop-place l =
    (length l.points.items ≡ l.place)
    × ((other : ℕ) → other < l.place → listed_point l.points.items other ≡ numbered_point l.few other)
