-- The masks of the visits of points, as they are kept by point.
use Rattle.std.specs.Prelude.{◌≡◌, ◌++◌, ℕ, List, [], Option, Some, None, cond, replicate}
use Rattle.std.specs.Map.{lookup}
use Rattle.flow_base.specs.declared.points.Point.{Point}
use Rattle.flow_base.specs.PointOrders.{is_same}
use Rattle.measuring.specs.declared.point_visits.PointVisits.{PointVisits}
use Rattle.measuring.specs.declared.point_visits.VisitRun.{VisitRun}
use Rattle.measuring.specs.PointMasks.{point_masks}

abbrev pub masks_if_any : Option PointVisits → List ℕ
masks_if_any None = []
masks_if_any (Some visits) = point_masks visits

-- the masks of the visits of a point that are kept in runs, in order; of a point that is not kept there are none
abbrev pub kept_masks : List (Point × PointVisits) → Point → List ℕ
kept_masks entries point = masks_if_any (lookup (is_same point) entries)

-- the visits of a run are added to a point
abbrev pub Adds : List (Point × PointVisits) → List (Point × PointVisits) → Point → VisitRun → Type 0
Adds old new point run =
    (q : Point) → kept_masks new q ≡ kept_masks old q ++ cond (is_same q point) (replicate run.count run.mask) []
