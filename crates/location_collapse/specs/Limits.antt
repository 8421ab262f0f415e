-- The limits of a graph: at most 65,536 points, at most 1,048,576 links, and capacities below 2^48.
use Rattle.std.specs.Map.{keys_of}
use Rattle.std.specs.Prelude.{◌≡◌, ◌⊎◌, ℕ, ◌≤◌, ◌<◌, ◌^◌, ◌&&◌, nat_lt, Bool, true, false, List, length}
use Rattle.std.specs.List.{list_all, IsDistinct}
use Rattle.std.specs.Ordering.{eq_by_cmp}
use Rattle.flow_base.specs.declared.points.Point.{Point}
use Rattle.flow_base.specs.Words.{bit_count}
use Rattle.flow_base.specs.PointOrders.{is_same}
use Rattle.flow_graph.specs.declared.events.Event.{Event}
use Rattle.flow_graph.specs.declared.named_links.NamedLink.{NamedLink}
use Rattle.flow_graph.specs.EventGraphs.{passed, has_passed, link_cmp, named_links, is_among}
use Rattle.flow_graph.specs.Keeping.{is_known}

abbrev pub is_same_link : NamedLink → NamedLink → Bool
is_same_link first second = eq_by_cmp link_cmp first second

-- more different points than this have passed a mask other than 0
pub record HasMorePoints (events : List Event) (bound : ℕ) : Type 0 where
  pub points : List Point
  pub differ : IsDistinct is_same points
  pub passed : list_all (has_passed events) points ≡ true
  pub more : bound < length points

-- more different links than this occur
pub record HasMoreLinks (events : List Event) (bound : ℕ) : Type 0 where
  pub links : List NamedLink
  pub differ : IsDistinct is_same_link links
  pub occur : list_all (is_among (named_links events)) links ≡ true
  pub more : bound < length links

-- so many bits or more pass a point
pub record HasCapacity (events : List Event) (bound : ℕ) : Type 0 where
  pub point : Point
  pub reached : bound ≤ passed events point

-- the graph of the events has more than 65,536 points, more than 1,048,576 links, or a capacity of 2^48 or more
abbrev pub ExceedsLimit : List Event → Type 0
ExceedsLimit events = HasMorePoints events 65536 ⊎ (HasMoreLinks events 1048576 ⊎ HasCapacity events (2 ^ 48))

-- a point with its capacity, as it is kept
abbrev pub is_kept_capacity : Point × ℕ → Bool
is_kept_capacity entry = nat_lt 0 entry.1 && nat_lt entry.1 (2 ^ 48)

-- as many different points are kept as a graph may have
pub record HasAllPoints (capacities : List (Point × ℕ)) : Type 0 where
  pub differ : IsDistinct is_same (keys_of capacities)
  pub full : 65536 ≤ length capacities

-- a mask other than 0 passes a point that is not kept
pub record WantsPoint (capacities : List (Point × ℕ)) (point : Point) (mask : ℕ) : Type 0 where
  pub some : 0 < bit_count mask
  pub unknown : is_known capacities point ≡ false

-- and as many are kept as a graph may have
pub record LacksRoom (capacities : List (Point × ℕ)) (point : Point) (mask : ℕ) : Type 0 where
  pub wants : WantsPoint capacities point mask
  pub full : HasAllPoints capacities

-- as many different links are kept as a graph may have
pub record HasAllLinks (links : List NamedLink) : Type 0 where
  pub differ : IsDistinct is_same_link links
  pub full : 1048576 ≤ length links
