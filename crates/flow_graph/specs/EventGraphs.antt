-- The graph of a list of events, over the whole list.
use Rattle.std.specs.Prelude.{◌≡◌, ℕ, ◌^◌, ◌<◌, ◌==◌, ◌&&◌, ◌||◌, ◌++◌, cond, not, nat_eq, Bool, true}
use Rattle.std.specs.Prelude.{false, List, [], ◌∷◌, length, map, slice_index_or}
use Rattle.std.specs.List.{list_all, list_any, sum_by}
use Rattle.std.specs.List.Sorted.{IsStrictlySortedBy}
use Rattle.std.specs.Ordering.{eq_by_cmp}
use Rattle.std.specs.declared.cmp.Ordering.{Ordering}
use Rattle.flow_base.specs.declared.points.Point.{Point}
use Rattle.flow_base.specs.PointOrders.{is_same, point_cmp}
use Rattle.flow_base.specs.Words.{bit_count}
use Rattle.flow_graph.specs.declared.ends.Arc.{Arc}
use Rattle.flow_graph.specs.declared.ends.End.{End}
use Rattle.flow_graph.specs.declared.ends.End.TheVariants.{Source as SourceEnd, Point as PointEnd, Relay as RelayEnd}
use Rattle.flow_graph.specs.declared.ends.End.TheVariants.{Sink as SinkEnd}
use Rattle.flow_graph.specs.declared.events.Event.{Event}
use Rattle.flow_graph.specs.declared.events.Event.TheVariants.{Pass, Link, FromSecret, Implicit, Out}
use Rattle.flow_graph.specs.declared.graphs.Graph.{Graph}
use Rattle.flow_graph.specs.declared.nodes.Node.{Node}
use Rattle.flow_graph.specs.declared.named_links.NamedLink.{NamedLink}
use Rattle.flow_graph.specs.declared.named_links.NamedEnd.{NamedEnd}
use Rattle.flow_graph.specs.declared.named_links.NamedEnd.TheVariants.{Source, At, Relay, Sink}
use Rattle.flow_base.specs.Points.{nowhere}
use Rattle.flow_graph.specs.contracts.named_links.NamedLinkOrd.TheImpl as link_ord

-- the bits that an event passes at a point
abbrev pub bits_at : Point → Event → ℕ
bits_at q (Pass p mask) = cond (is_same p q) (bit_count mask) 0
bits_at q event = 0

-- all bits that pass a point: its capacity, and 0 where no mask other than 0 was passed
abbrev pub passed : List Event → Point → ℕ
passed events q = sum_by (bits_at q) events

abbrev pub has_passed : List Event → Point → Bool
has_passed before p = not (passed before p == 0)

abbrev pub one_if : Bool → NamedEnd → NamedEnd → List NamedLink
one_if b s t = cond b (record { source = s; target = t } ∷ []) []

-- where what decides a region's way flows on: for region 0 the sink
abbrev pub outlet_of : ℕ → NamedEnd
outlet_of region = cond (region == 0) Sink (Relay region)

-- the link that an event makes where these points have passed a mask: none where it names another point, or region 0
-- as the one that an output leaves
abbrev pub links_by : (Point → Bool) → Event → List NamedLink
links_by has (Pass p mask) = []
links_by has (Link s t) = one_if (has s && has t) (At s) (At t)
links_by has (FromSecret p) = one_if (has p) Source (At p)
links_by has (Implicit p r) = one_if (has p) (At p) (outlet_of r)
links_by has (Out r p) = one_if (has p && not (r == 0)) (Relay r) (At p)

-- the links that occur, in the order of the events
abbrev pub links_after : List Event → List Event → List NamedLink
links_after before [] = []
links_after before (e ∷ es) = links_by (has_passed before) e ++ links_after (before ++ e ∷ []) es

abbrev pub named_links : List Event → List NamedLink
named_links events = links_after [] events

abbrev pub link_cmp : NamedLink → NamedLink → Ordering
link_cmp = (link_ord.ghosts).cmp

abbrev pub is_among : List NamedLink → NamedLink → Bool
is_among list link = list_any (λ other. eq_by_cmp link_cmp other link) list

abbrev pub is_relay_of : ℕ → NamedEnd → Bool
is_relay_of region (Relay r) = nat_eq region r
is_relay_of region end = false

-- a link from or to the relay of a region
abbrev pub names_relay : ℕ → NamedLink → Bool
names_relay region link = is_relay_of region link.source || is_relay_of region link.target

-- the capacity of a point of a graph, and 0 of another point
abbrev pub capacity_at : List Node → Point → ℕ
capacity_at [] q = 0
capacity_at (node ∷ nodes) q = cond (is_same q node.point) node.capacity (capacity_at nodes q)

-- an end and a link of a graph by their names
abbrev pub named_end : List Node → End → NamedEnd
named_end points SourceEnd = Source
named_end points (PointEnd index) = At (slice_index_or (map (λ node. node.point) points) index nowhere)
named_end points (RelayEnd region) = Relay region
named_end points SinkEnd = Sink

abbrev pub named : List Node → Arc → NamedLink
named points link = record { source = named_end points link.source; target = named_end points link.target }

-- the points with their capacities, the relays and the links of a graph are those of the events
pub record IsGraphOf (events : List Event) (graph : Graph) : Type 0 where
  pub points : (q : Point) → capacity_at graph.points q ≡ passed events q
  pub relays : (region : ℕ) → list_any (nat_eq region) graph.relays ≡ list_any (names_relay region) (named_links events)
  pub links : (link : NamedLink) → is_among (map (named graph.points) graph.links) link ≡ is_among (named_links events) link

-- each ascending list of points that have passed a mask has fewer than 2^32
abbrev pub HasFewPoints : List Event → Type 0
HasFewPoints events = (points : List Point) → IsStrictlySortedBy point_cmp points → list_all (has_passed events)
    points ≡ true → length points < 2 ^ 32
