-- What is kept of a list of events while they come: the capacities of points, and links by the names of their ends.
use Rattle.std.specs.Prelude.{◌≡◌, ℕ, ◌&&◌, ◌||◌, nat_lt, Bool, true, false, List}
use Rattle.std.specs.Prelude.{Option, Some, None, unwrap_or}
use Rattle.std.specs.List.{list_all}
use Rattle.std.specs.Map.{lookup}
use Rattle.std.specs.Option.{is_some}
use Rattle.flow_base.specs.declared.points.Point.{Point}
use Rattle.flow_base.specs.PointOrders.{is_same}
use Rattle.flow_graph.specs.declared.events.Event.{Event}
use Rattle.flow_graph.specs.declared.named_links.NamedLink.{NamedLink}
use Rattle.flow_graph.specs.declared.named_links.NamedEnd.{NamedEnd}
use Rattle.flow_graph.specs.declared.named_links.NamedEnd.TheVariants.{Source, At, Relay, Sink}
use Rattle.flow_graph.specs.EventGraphs.{passed, named_links, is_among}

-- the capacity that is kept for a point, if any
abbrev pub capacity_in : List (Point × ℕ) → Point → Option ℕ
capacity_in capacities q = lookup (is_same q) capacities

-- the capacity of a point so far
abbrev pub count_in : List (Point × ℕ) → Point → ℕ
count_in capacities q = unwrap_or (capacity_in capacities q) 0

abbrev pub is_known : List (Point × ℕ) → Point → Bool
is_known capacities p = is_some (capacity_in capacities p)

abbrev pub is_positive : Option ℕ → Bool
is_positive None = true
is_positive (Some capacity) = nat_lt 0 capacity

-- a link may lead from one end to another: not into the source, not out of the sink, and from the source to a point
abbrev pub may_lead : NamedEnd → NamedEnd → Bool
may_lead Source (At p) = true
may_lead Source Source = false
may_lead Source (Relay r) = false
may_lead Source Sink = false
may_lead (At p) Source = false
may_lead (At p) (At q) = true
may_lead (At p) (Relay r) = true
may_lead (At p) Sink = true
may_lead (Relay r) Source = false
may_lead (Relay r) (At q) = true
may_lead (Relay r) (Relay s) = true
may_lead (Relay r) Sink = true
may_lead Sink target = false

-- an end that is there: a point has to be one of those that have passed a mask
abbrev pub is_there : (Point → Bool) → NamedEnd → Bool
is_there has Source = true
is_there has (At p) = has p
is_there has (Relay r) = true
is_there has Sink = true

-- a link between ends that there are, that may lead so
abbrev pub is_sound : (Point → Bool) → NamedLink → Bool
is_sound has link = is_there has link.source && (is_there has link.target && may_lead link.source link.target)

-- these capacities and links are exactly what a list of events makes
pub record Keeps (capacities : List (Point × ℕ)) (links : List NamedLink) (events : List Event) : Type 0 where
  pub positive : (q : Point) → is_positive (capacity_in capacities q) ≡ true
  pub counted : (q : Point) → count_in capacities q ≡ passed events q
  pub linked : (link : NamedLink) → is_among links link ≡ is_among (named_links events) link
  pub sound : list_all (is_sound (is_known capacities)) links ≡ true

-- these links are taken, and nothing else changes
pub record TakesLinks (old new more : List NamedLink) : Type 0 where
  pub linked : (link : NamedLink) → is_among new link ≡ (is_among old link || is_among more link)
  pub sound : (test : NamedLink → Bool) → list_all test old ≡ true → list_all test more ≡ true →
      list_all test new ≡ true
