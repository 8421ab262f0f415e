-- United: what several runs have together.
use Rattle.std.specs.Prelude.{◌≡◌, ℕ, ◌++◌, List, [], ◌∷◌, bit_or}
use Rattle.flow_base.specs.declared.points.Point.{Point}
use Rattle.flow_graph.specs.declared.events.Event.{Event}
use Rattle.flow_graph.specs.declared.named_links.NamedLink.{NamedLink}
use Rattle.flow_graph.specs.EventGraphs.{is_among, named_links}
use Rattle.acceptance_law.specs.RunCuts.{visit_masks}

-- the masks of a point in two runs, visit by visit: the bits that either has, and where the one has no visit any more,
-- those of the other
unfoldable pub united_masks : List ℕ → List ℕ → List ℕ
united_masks [] others = others
united_masks (mask ∷ masks) [] = mask ∷ masks
united_masks (mask ∷ masks) (other ∷ others) = bit_or mask other ∷ united_masks masks others

-- the masks of a point in all runs, visit by visit
unfoldable pub joined_masks : Point → List (List Event) → List ℕ
joined_masks point [] = []
joined_masks point (events ∷ runs) = united_masks (visit_masks point events) (joined_masks point runs)

-- the links of the graphs of all runs
unfoldable pub all_links : List (List Event) → List NamedLink
all_links [] = []
all_links (events ∷ runs) = named_links events ++ all_links runs

-- Events that have of each point the masks of all runs, visit by visit, and that have the links of all runs. So the graph
-- of such events has the points that any of the runs has passed with a mask other than 0, as capacities the sums of the
-- bits of these masks, and the links and relays of all runs; and the cut of such events has these masks.
pub record IsUnited (runs : List (List Event)) (events : List Event) : Type 0 where
  pub masks : (point : Point) → visit_masks point events ≡ joined_masks point runs
  pub links : (link : NamedLink) → is_among (named_links events) link ≡ is_among (all_links runs) link
