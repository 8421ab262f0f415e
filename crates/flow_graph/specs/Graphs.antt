-- What a graph keeps: three strictly ascending lists, positive capacities, and links between ends that there are.
use Rattle.std.specs.Prelude.{ℕ, ◌&&◌, nat_eq, nat_lt, Bool, true, false, List, [], ◌∷◌, length}
use Rattle.std.specs.List.{list_all, list_any}
use Rattle.std.specs.Ordering.{is_lt, nat_cmp}
use Rattle.std.specs.declared.cmp.Ordering.{Ordering}
use Rattle.flow_base.specs.PointOrders.{point_cmp}
use Rattle.flow_graph.specs.declared.ends.Arc.{Arc}
use Rattle.flow_graph.specs.declared.ends.End.{End}
use Rattle.flow_graph.specs.declared.ends.End.TheVariants.{Source, Point as PointEnd, Relay, Sink}
use Rattle.flow_graph.specs.declared.nodes.Node.{Node}
use Rattle.flow_graph.specs.contracts.ends.ArcOrd.TheImpl as arc_ord

-- the order of links: by source, then target, where the ends are the source, the points, the relays, the sink
abbrev pub arc_cmp : Arc → Arc → Ordering
arc_cmp = (arc_ord.ghosts).cmp

-- each item comes before the next one
abbrev pub ascend : {A : Type 0} → (A → A → Ordering) → List A → Bool
ascend cmp [] = true
ascend cmp (x ∷ []) = true
ascend cmp (x ∷ (y ∷ ys)) = is_lt (cmp x y) && ascend cmp (y ∷ ys)

abbrev pub node_cmp : Node → Node → Ordering
node_cmp first second = point_cmp first.point second.point

abbrev pub has_capacity : Node → Bool
has_capacity node = nat_lt 0 node.capacity

abbrev pub are_points : List Node → Bool
are_points points = list_all has_capacity points && ascend node_cmp points

abbrev pub are_relays : List ℕ → Bool
are_relays relays = ascend nat_cmp relays

abbrev pub are_arcs : List Arc → Bool
are_arcs links = ascend arc_cmp links

-- the relay is of a region, which a number below 65,536 names, and it is one of these
abbrev pub is_relay : List ℕ → ℕ → Bool
is_relay relays region = nat_lt region 65536 && list_any (nat_eq region) relays

-- what a link may lead from, and what it may lead to, where there are so many points and these relays
abbrev pub is_origin : ℕ → List ℕ → End → Bool
is_origin count relays Source = true
is_origin count relays (PointEnd index) = nat_lt index count
is_origin count relays (Relay region) = is_relay relays region
is_origin count relays Sink = false

abbrev pub is_target : ℕ → List ℕ → End → Bool
is_target count relays Source = false
is_target count relays (PointEnd index) = nat_lt index count
is_target count relays (Relay region) = is_relay relays region
is_target count relays Sink = true

-- from the source only a point is reached
abbrev pub is_point_end : End → Bool
is_point_end (PointEnd index) = true
is_point_end end = false

abbrev pub leads_on : End → End → Bool
leads_on Source target = is_point_end target
leads_on other target = true

abbrev pub is_link : ℕ → List ℕ → Arc → Bool
is_link count relays link =
    is_origin count relays link.source && (is_target count relays link.target && leads_on link.source link.target)

abbrev pub are_links : ℕ → List ℕ → List Arc → Bool
are_links count relays links = list_all (is_link count relays) links

-- three lists that a graph may have
abbrev pub is_graph : List Node → List ℕ → List Arc → Bool
is_graph points relays links =
    are_points points && (are_relays relays && (are_arcs links && are_links (length points) relays links))
