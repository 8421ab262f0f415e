-- The masks that are kept of the visits of all points.
use Rattle.std.specs.Prelude.{◌≡◌, ◌++◌, ◌∷◌, [], ℕ, cond, replicate, List}
use Rattle.flow_base.specs.declared.points.Point.{Point}
use Rattle.flow_graph.specs.declared.events.Event.{Event}
use Rattle.flow_base.specs.PointOrders.{is_same}
use Rattle.acceptance_law.specs.RunCuts.{visit_masks}
use Rattle.measuring.specs.Counts.{count_of}
use Rattle.measuring.specs.declared.kept_visits.KeptVisits.{KeptVisits}
use Rattle.measuring.specs.KeptVisits.{kept_masks}

-- those that are kept in runs, and then as many 0 as are counted
abbrev pub all_masks : KeptVisits → Point → List ℕ
all_masks visits point = kept_masks visits.points.map.entries point ++ replicate (count_of visits.counts point) 0

-- what is kept are the masks of the visits of a list of events
abbrev pub HasVisits : KeptVisits → List Event → Type 0
HasVisits visits events = (point : Point) → all_masks visits point ≡ visit_masks point events

-- one visit more of a point
abbrev pub AddsVisit : KeptVisits → KeptVisits → Point → ℕ → Type 0
AddsVisit old new point mask =
    (q : Point) → all_masks new q ≡ all_masks old q ++ cond (is_same q point) (mask ∷ []) []

-- nothing is counted of a point any more, and the masks are as before
pub record Settles (old new : KeptVisits) (point : Point) : Type 0 where
  pub masks : (q : Point) → all_masks new q ≡ all_masks old q
  pub none : count_of new.counts point ≡ 0
