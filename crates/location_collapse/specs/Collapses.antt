-- What a collapse of events as they come stands for.
use Rattle.std.specs.Prelude.{◌≡◌, ◌==◌, ◌&&◌, cond, Bool, true, false, List, [], ◌∷◌, Result, Ok, Err}
use Rattle.std.specs.Map.{keys_of}
use Rattle.flow_base.specs.declared.points.Point.{Point}
use Rattle.flow_graph.specs.declared.events.Event.{Event}
use Rattle.flow_graph.specs.declared.named_links.NamedLink.{NamedLink}
use Rattle.flow_graph.specs.EventGraphs.{bits_at, links_by}
use Rattle.flow_graph.specs.Keeping.{Keeps, is_known, is_there}
use Rattle.location_collapse.specs.KeptLinks.{has_flow, has_output}
use Rattle.location_collapse.specs.declared.collapses.Collapse.{Collapse}
use Rattle.location_collapse.specs.declared.faults.CollapseFault.{CollapseFault}
use Rattle.location_collapse.specs.declared.faults.CollapseFault.TheVariants.{Limit, Memory}

-- a collapse has exactly what a list of events makes: points with their capacities, and links
abbrev pub StandsFor : Collapse → List Event → Type 0
StandsFor collapse events = Keeps collapse.points.capacities.map.entries (keys_of collapse.links.named.map.entries) events

-- the points, the capacities and the links stay
pub record KeepsAll (old new : Collapse) : Type 0 where
  pub points : new.points.capacities.map.entries ≡ old.points.capacities.map.entries
  pub links : keys_of new.links.named.map.entries ≡ keys_of old.links.named.map.entries

-- whether the point has passed a mask other than 0
abbrev pub knows : Collapse → Point → Bool
knows collapse point = is_known collapse.points.capacities.map.entries point

abbrev pub has_ends : (Point → Bool) → NamedLink → Bool
has_ends has link = is_there has link.source && is_there has link.target

-- where these points have passed a mask, an event passes no bits and makes this link, if its ends are there
pub record MakesLink (has : Point → Bool) (event : Event) (link : NamedLink) : Type 0 where
  pub made : links_by has event ≡ cond (has_ends has link) (link ∷ []) []
  pub no_bits : (q : Point) → bits_at q event ≡ 0

-- the point is one of a region, and the links of an output that gives out again what it gave before have occurred
pub record HasAgainLinks (collapse : Collapse) (point : Point) : Type 0 where
  pub in_region : (point.region == 0) ≡ false
  pub flow : has_flow (keys_of collapse.links.named.map.entries) point point ≡ true
  pub output : has_output (keys_of collapse.links.named.map.entries) point.region point ≡ true

-- whether the answer is that a limit is exceeded
abbrev pub is_limit : Result (Unit {0}) CollapseFault → Bool
is_limit (Ok done) = false
is_limit (Err Limit) = true
is_limit (Err Memory) = false
