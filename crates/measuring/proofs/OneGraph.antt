-- Events have one graph.
use Rattle.std.proofs.Common.{◌≡◌, ℕ, ◌<◌, nat_eq, Bool, true, false, List, [], ◌∷◌, inl, inr, length, map, refl, sym, ap, ap₂, subst, ◌∙◌, ⊎_elim, arith}
use Rattle.std.specs.List.{list_all, list_any}
use Rattle.std.specs.Ordering.{eq_by_cmp, is_eq, is_lt, nat_cmp, ordering_then}
use Rattle.std.specs.declared.cmp.Ordering.{Ordering}
use Rattle.std.specs.declared.cmp.Ordering.TheVariants.{Less, Equal, Greater}
use Rattle.std.proofs.lemmas.Bool.{and_parts, cases_Bool, cond-false, cond-true, false≢true, ltb-true, or_cases, or_left, or_right}
use Rattle.std.proofs.lemmas.Cmp.{nat_cmp_total, tied_itself}
use Rattle.flow_base.specs.declared.points.Point.{Point}
use Rattle.flow_base.specs.PointOrders.{is_same, point_cmp}
use Rattle.flow_base.proofs.PointOrders.{nat_equal, point_total, one_if_same}
use Rattle.flow_graph.specs.contracts.ends.ArcOrd.TheImpl.Laws as arc_laws
use Rattle.flow_graph.specs.contracts.ends.EndOrd.TheImpl as end_ord
use Rattle.flow_graph.specs.declared.ends.Arc.{Arc}
use Rattle.flow_graph.specs.declared.ends.End.{End}
use Rattle.flow_graph.specs.declared.ends.End.TheVariants.{Source, Point as PointEnd, Relay, Sink}
use Rattle.flow_graph.specs.declared.events.Event.{Event}
use Rattle.flow_graph.specs.declared.graphs.Graph.{Graph}
use Rattle.flow_graph.specs.declared.named_links.NamedLink.{NamedLink}
use Rattle.flow_graph.specs.declared.nodes.Node.{Node}
use Rattle.flow_graph.specs.EventGraphs.{IsGraphOf, capacity_at, is_among, link_cmp, named}
use Rattle.flow_graph.specs.Graphs.{arc_cmp, are_arcs, are_links, are_points, are_relays, ascend, has_capacity, is_link, node_cmp}
use Rattle.flow_graph.proofs.LinksByIndex.{link_total}
use Rattle.flow_graph.proofs.SameGraphs.{same_graph}
use Rattle.measuring.proofs.NamedLinks.{links_alike_order}
use Rattle.measuring.proofs.SortedLists.{Holds, IsOrder, IsOrdered, all_holds, any_held, ascend_ordered, held_any, one_list, order_on}

-- ---- points

abbrev made : Point → ℕ → Node
made point capacity = record { point = point; capacity = capacity }

abbrev is_before : Node → Node → Bool
is_before first second = is_lt (node_cmp first second)

nodes_order : IsOrder is_before
nodes_order = order_on point_cmp point_total (λ node. node.point)

point_held : (nodes : List Node) (point : Point) (capacity : ℕ) → 0 < capacity → capacity_at nodes point ≡ capacity →
    Holds nodes (made point capacity)
point_held [] point capacity some is = absurd (omega (arith, some, is))
point_held (node ∷ nodes) point capacity some is =
    ⊎_elim
    (λ (same : is_same point node.point ≡ true).
    let own : node.capacity ≡ capacity =
    sym (cond-true (is_same point node.point) node.capacity (capacity_at nodes point) same) ∙ is in
    inl (ap₂ made (one_if_same point node.point same) (sym own)))
    (λ (other : is_same point node.point ≡ false).
    let later : capacity_at nodes point ≡ capacity =
    sym (cond-false (is_same point node.point) node.capacity (capacity_at nodes point) other) ∙ is in
    inr (point_held nodes point capacity some later))
    (cases_Bool (is_same point node.point))

itself : (point : Point) → is_same point point ≡ true
itself point = ap is_eq (tied_itself point_total point)

later_other : (first later : Node) → is_before first later ≡ true → is_same later.point first.point ≡ true → ⊥
later_other first later before same =
    let one : later.point ≡ first.point = one_if_same later.point first.point same in
    let less : is_lt (point_cmp first.point first.point) ≡ true =
    ap (λ (p : Point). is_lt (point_cmp first.point p)) (sym one) ∙ before in
    false≢true (sym (nodes_order.apart first) ∙ less)

held_point : (nodes : List Node) (node : Node) → IsOrdered is_before nodes → Holds nodes node →
    capacity_at nodes node.point ≡ node.capacity
held_point [] node ordered held = absurd held
held_point (first ∷ nodes) node ordered (inl same) =
    cond-true (is_same node.point first.point) first.capacity (capacity_at nodes node.point)
    (ap (λ (n : Node). is_same n.point first.point) same ∙ itself first.point)
    ∙ ap (λ (n : Node). n.capacity) (sym same)
held_point (first ∷ nodes) node ordered (inr later) =
    let before : is_before first node ≡ true = all_holds (is_before first) nodes node ordered.0 later in
    ⊎_elim
    (λ (same : is_same node.point first.point ≡ true). absurd (later_other first node before same))
    (λ (other : is_same node.point first.point ≡ false).
    cond-false (is_same node.point first.point) first.capacity (capacity_at nodes node.point) other
    ∙ held_point nodes node ordered.1 later)
    (cases_Bool (is_same node.point first.point))

points_hold : (one other : List Node) → list_all has_capacity one ≡ true → IsOrdered is_before one →
    ((point : Point) → capacity_at one point ≡ capacity_at other point) → (node : Node) → Holds one node →
    Holds other node
points_hold one other positive ordered alike node held =
    let some : 0 < node.capacity = ltb-true 0 node.capacity (all_holds has_capacity one node positive held) in
    point_held other node.point node.capacity some (sym (alike node.point) ∙ held_point one node ordered held)

one_point_list : (one other : List Node) → are_points one ≡ true → are_points other ≡ true →
    ((point : Point) → capacity_at one point ≡ capacity_at other point) → one ≡ other
one_point_list one other first second alike =
    let a = and_parts (list_all has_capacity one) (ascend node_cmp one) first in
    let b = and_parts (list_all has_capacity other) (ascend node_cmp other) second in
    let ordered = ascend_ordered node_cmp nodes_order one a.1 in
    let ordered_other = ascend_ordered node_cmp nodes_order other b.1 in
    one_list is_before nodes_order one other ordered ordered_other (points_hold one other a.0 ordered alike)
    (points_hold other one b.0 ordered_other (λ point. sym (alike point)))

-- ---- relays

pub relays_order : IsOrder (λ first second. is_lt (nat_cmp first second))
relays_order = order_on nat_cmp nat_cmp_total (λ region. region)

one_relay_list : (one other : List ℕ) → are_relays one ≡ true → are_relays other ≡ true →
    ((region : ℕ) → list_any (nat_eq region) one ≡ list_any (nat_eq region) other) → one ≡ other
one_relay_list one other first second alike =
    one_list (λ a b. is_lt (nat_cmp a b)) relays_order one other (ascend_ordered nat_cmp relays_order one first)
    (ascend_ordered nat_cmp relays_order other second)
    (λ region held. any_held other region (sym (alike region) ∙ held_any one region held))
    (λ region held. any_held one region (alike region ∙ held_any other region held))

-- ---- links

abbrev end_cmp : End → End → Ordering
end_cmp = (end_ord.ghosts).cmp

ends_equal : (s t : End) → end_cmp s t ≡ Equal → s ≡ t
ends_equal Source Source e = refl
ends_equal Source (PointEnd j) e = absurd (cc)
ends_equal Source (Relay r) e = absurd (cc)
ends_equal Source Sink e = absurd (cc)
ends_equal (PointEnd i) Source e = absurd (cc)
ends_equal (PointEnd i) (PointEnd j) e = ap (λ (n : ℕ). PointEnd n) (nat_equal i j e)
ends_equal (PointEnd i) (Relay r) e = absurd (cc)
ends_equal (PointEnd i) Sink e = absurd (cc)
ends_equal (Relay r) Source e = absurd (cc)
ends_equal (Relay r) (PointEnd j) e = absurd (cc)
ends_equal (Relay r) (Relay q) e = ap (λ (n : ℕ). Relay n) (nat_equal r q e)
ends_equal (Relay r) Sink e = absurd (cc)
ends_equal Sink Source e = absurd (cc)
ends_equal Sink (PointEnd j) e = absurd (cc)
ends_equal Sink (Relay r) e = absurd (cc)
ends_equal Sink Sink e = refl

then_both : (o r : Ordering) → ordering_then o r ≡ Equal → (o ≡ Equal) × (r ≡ Equal)
then_both Less r e = absurd (cc)
then_both Equal r e = (refl, e)
then_both Greater r e = absurd (cc)

equal_is : (o : Ordering) → is_eq o ≡ true → o ≡ Equal
equal_is Less e = absurd (false≢true e)
equal_is Equal e = refl
equal_is Greater e = absurd (false≢true e)

between : End → End → Arc
between source target = record { source = source; target = target }

arcs_equal : (a b : Arc) → arc_cmp a b ≡ Equal → a ≡ b
unfolding between
arcs_equal a b e =
    let parts = then_both (end_cmp a.source b.source) (end_cmp a.target b.target) e in
    ap₂ between (ends_equal a.source b.source parts.0) (ends_equal a.target b.target parts.1)

among_held : (nodes : List Node) (relays : List ℕ) (links : List Arc) (arc : Arc) → ascend node_cmp nodes ≡ true →
    list_all (is_link (length nodes) relays) links ≡ true → is_link (length nodes) relays arc ≡ true →
    is_among (map (named nodes) links) (named nodes arc) ≡ true → Holds links arc
among_held nodes relays [] arc up valid own among = absurd (false≢true among)
among_held nodes relays (first ∷ links) arc up valid own among =
    let parts = and_parts (is_link (length nodes) relays first) (list_all (is_link (length nodes) relays) links) valid
    in
    ⊎_elim
    (λ (same : eq_by_cmp link_cmp (named nodes first) (named nodes arc) ≡ true).
    let equal : link_cmp (named nodes first) (named nodes arc) ≡ Equal =
    equal_is (link_cmp (named nodes first) (named nodes arc)) same in
    inl (sym (arcs_equal first arc (links_alike_order nodes relays up first arc parts.0 own ∙ equal))))
    (λ (later : is_among (map (named nodes) links) (named nodes arc) ≡ true).
    inr (among_held nodes relays links arc up parts.1 own later))
    (or_cases (eq_by_cmp link_cmp (named nodes first) (named nodes arc))
    (is_among (map (named nodes) links) (named nodes arc)) among)

held_among : (nodes : List Node) (links : List Arc) (arc : Arc) → Holds links arc →
    is_among (map (named nodes) links) (named nodes arc) ≡ true
held_among nodes [] arc held = absurd held
held_among nodes (first ∷ links) arc (inl same) =
    or_left (eq_by_cmp link_cmp (named nodes first) (named nodes arc))
    (is_among (map (named nodes) links) (named nodes arc))
    (ap (λ (a : Arc). eq_by_cmp link_cmp (named nodes first) (named nodes a)) same
    ∙ ap is_eq (tied_itself link_total (named nodes first)))
held_among nodes (first ∷ links) arc (inr later) =
    or_right (eq_by_cmp link_cmp (named nodes first) (named nodes arc))
    (is_among (map (named nodes) links) (named nodes arc)) (held_among nodes links arc later)

arcs_order : IsOrder (λ first second. is_lt (arc_cmp first second))
arcs_order = order_on arc_cmp arc_laws.total-law (λ arc. arc)

AreAlike : List Node → List Arc → List Arc → Type 0
AreAlike nodes one other =
    (link : NamedLink) → is_among (map (named nodes) one) link ≡ is_among (map (named nodes) other) link

links_hold : (nodes : List Node) (relays : List ℕ) (one other : List Arc) → ascend node_cmp nodes ≡ true →
    are_links (length nodes) relays one ≡ true → are_links (length nodes) relays other ≡ true →
    AreAlike nodes one other → (arc : Arc) → Holds one arc → Holds other arc
unfolding AreAlike
links_hold nodes relays one other up valid also alike arc held =
    among_held nodes relays other arc up also (all_holds (is_link (length nodes) relays) one arc valid held)
    (sym (alike (named nodes arc)) ∙ held_among nodes one arc held)

one_link_list : (nodes : List Node) (relays : List ℕ) (one other : List Arc) → ascend node_cmp nodes ≡ true →
    are_links (length nodes) relays one ≡ true → are_links (length nodes) relays other ≡ true →
    are_arcs one ≡ true → are_arcs other ≡ true → AreAlike nodes one other → one ≡ other
unfolding AreAlike
one_link_list nodes relays one other up valid also ordered ordered_other alike =
    one_list (λ a b. is_lt (arc_cmp a b)) arcs_order one other (ascend_ordered arc_cmp arcs_order one ordered)
    (ascend_ordered arc_cmp arcs_order other ordered_other)
    (links_hold nodes relays one other up valid also alike)
    (links_hold nodes relays other one up also valid (λ link. sym (alike link)))

-- ---- one graph

pub one_graph : (events : List Event) (graph other : Graph) → IsGraphOf events graph → IsGraphOf events other →
    graph ≡ other
unfolding AreAlike
one_graph events graph other one second =
    let points : graph.points ≡ other.points =
    one_point_list graph.points other.points graph.points_ascend other.points_ascend
    (λ point. one.points point ∙ sym (second.points point)) in
    let relays : graph.relays ≡ other.relays =
    one_relay_list graph.relays other.relays graph.relays_ascend other.relays_ascend
    (λ region. one.relays region ∙ sym (second.relays region)) in
    let valid : are_links (length other.points) other.relays graph.links ≡ true =
    subst (λ (r : List ℕ). are_links (length other.points) r graph.links ≡ true) relays
    (subst (λ (p : List Node). are_links (length p) graph.relays graph.links ≡ true) points graph.links_are_valid) in
    let alike : AreAlike other.points graph.links other.links =
    λ link. ap (λ (p : List Node). is_among (map (named p) graph.links) link) (sym points)
    ∙ (one.links link ∙ sym (second.links link)) in
    let up : ascend node_cmp other.points ≡ true =
    (and_parts (list_all has_capacity other.points) (ascend node_cmp other.points) other.points_ascend).1 in
    let links : graph.links ≡ other.links =
    one_link_list other.points other.relays graph.links other.links up valid other.links_are_valid graph.links_ascend
    other.links_ascend alike in
    same_graph graph other points relays links
