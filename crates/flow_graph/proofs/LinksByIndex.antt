-- The links of a graph, by the indices of their points, against the links by name.
use Rattle.std.proofs.Common.{◌≡◌, ℕ, ◌||◌, nat_eq}
use Rattle.std.proofs.Common.{true, List, [], ◌∷◌, length, map, refl, ap, ◌∙◌}
use Rattle.std.specs.List.{list_all, list_any}
use Rattle.std.specs.List.Sorted.{IsStrictlySortedBy}
use Rattle.std.specs.Cmp.{IsTotalOrder}
use Rattle.std.specs.Ordering.{is_eq, is_lt, ordering_then}
use Rattle.std.specs.declared.cmp.Ordering.{Ordering}
use Rattle.std.specs.declared.cmp.Ordering.TheVariants.{Less, Equal}
use Rattle.std.proofs.lemmas.Bool.{and_parts, and_from, or_left, or_right, lt-ltb, eq-eqb}
use Rattle.std.proofs.lemmas.Map.Keys.{sorted_head, sorted_tail}
use Rattle.flow_base.specs.declared.points.Point.{Point}
use Rattle.flow_base.specs.PointOrders.{point_cmp}
use Rattle.flow_graph.specs.declared.ends.End.{End}
use Rattle.flow_graph.specs.declared.nodes.Node.{Node}
use Rattle.flow_graph.specs.declared.named_links.NamedLink.{NamedLink}
use Rattle.flow_graph.specs.declared.named_links.NamedEnd.{NamedEnd}
use Rattle.flow_graph.specs.declared.named_links.NamedEnd.TheVariants.{Source, At, Relay, Sink}
use Rattle.flow_graph.specs.contracts.ends.EndOrd.TheImpl as end_ord
use Rattle.flow_graph.specs.contracts.named_links.NamedEndOrd.TheImpl as named_end_ord
use Rattle.flow_graph.specs.contracts.named_links.NamedLinkOrd.TheImpl.Laws.{total-law}
use Rattle.flow_graph.specs.Graphs.{arc_cmp, ascend, is_relay, is_origin, is_target, is_link, are_links}
use Rattle.flow_graph.specs.Graphs.{leads_on}
use Rattle.flow_graph.specs.EventGraphs.{link_cmp, is_among, named_end, named, is_relay_of}
use Rattle.flow_graph.specs.EventGraphs.{names_relay}
use Rattle.flow_graph.specs.Builders.{index_in, end_at, arc_at}
use Rattle.flow_graph.specs.Keeping.{is_there, may_lead, is_sound}
use Rattle.flow_graph.proofs.Indices.{is_in, index_order, index_inside, same_at_index, nat_cmp_itself}
use Rattle.flow_base.specs.Points.{nowhere}

abbrev end_cmp : End → End → Ordering
end_cmp = (end_ord.ghosts).cmp

abbrev pub named_end_cmp : NamedEnd → NamedEnd → Ordering
named_end_cmp = (named_end_ord.ghosts).cmp

pub link_total : IsTotalOrder link_cmp
link_total = total-law

end_order : (names : List Point) → IsStrictlySortedBy point_cmp names → (s t : NamedEnd) → is_there (is_in names) s ≡
    true → is_there (is_in names) t ≡ true →
    end_cmp (end_at names s) (end_at names t) ≡ named_end_cmp s t
end_order names ordered Source Source a b = refl
end_order names ordered Source (At q) a b = refl
end_order names ordered Source (Relay r) a b = refl
end_order names ordered Source Sink a b = refl
end_order names ordered (At p) Source a b = refl
end_order names ordered (At p) (At q) a b = index_order names ordered p q a b
end_order names ordered (At p) (Relay r) a b = refl
end_order names ordered (At p) Sink a b = refl
end_order names ordered (Relay r) Source a b = refl
end_order names ordered (Relay r) (At q) a b = refl
end_order names ordered (Relay r) (Relay t) a b = refl
end_order names ordered (Relay r) Sink a b = refl
end_order names ordered Sink Source a b = refl
end_order names ordered Sink (At q) a b = refl
end_order names ordered Sink (Relay r) a b = refl
end_order names ordered Sink Sink a b = refl

arc_order : (names : List Point) → IsStrictlySortedBy point_cmp names → (j k : NamedLink) → is_sound (is_in names) j ≡
    true → is_sound (is_in names) k ≡ true →
    arc_cmp (arc_at names j) (arc_at names k) ≡ link_cmp j k
arc_order names ordered j k a b =
    let js = and_parts (is_there (is_in names) j.source) _ a in
    let ks = and_parts (is_there (is_in names) k.source) _ b in
    let jt = and_parts (is_there (is_in names) j.target) _ js.1 in
    let kt = and_parts (is_there (is_in names) k.target) _ ks.1 in
    ap (λ o. ordering_then o (end_cmp (end_at names j.target) (end_at names k.target)))
    (end_order names ordered j.source k.source js.0 ks.0)
    ∙ ap (λ o. ordering_then (named_end_cmp j.source k.source) o) (end_order names ordered j.target k.target jt.0 kt.0)

pub arcs_ascend : (names : List Point) → IsStrictlySortedBy point_cmp names → (links : List NamedLink) → IsStrictlySortedBy
    link_cmp links →
    list_all (is_sound (is_in names)) links ≡ true → ascend arc_cmp (map (arc_at names) links) ≡ true
arcs_ascend names ordered [] sorted sound = refl
arcs_ascend names ordered (j ∷ []) sorted sound = refl
arcs_ascend names ordered (j ∷ (k ∷ ks)) sorted sound =
    let first = and_parts (is_sound (is_in names) j) (list_all (is_sound (is_in names)) (k ∷ ks)) sound in
    let second = and_parts (is_sound (is_in names) k) (list_all (is_sound (is_in names)) ks) first.1 in
    let less : link_cmp j k ≡ Less = (sorted_head link_cmp j (k ∷ ks) sorted).0 in
    and_from (is_lt (arc_cmp (arc_at names j) (arc_at names k))) (ascend arc_cmp (map (arc_at names) (k ∷ ks)))
    (ap is_lt (arc_order names ordered j k first.0 second.0 ∙ less))
    (arcs_ascend names ordered (k ∷ ks) (sorted_tail link_cmp j (k ∷ ks) sorted) first.1)

-- ---- each link is one

nat_eq_itself : (r : ℕ) → nat_eq r r ≡ true
nat_eq_itself r = eq-eqb r r refl

origin_there : (names : List Point) (relays : List ℕ) (s t : NamedEnd) → is_there (is_in names) s ≡ true → may_lead s t ≡
    true →
    ((r : ℕ) → is_relay_of r s ≡ true → is_relay relays r ≡ true) → is_origin (length names) relays (end_at names s) ≡
    true
origin_there names relays Source t there may known = refl
origin_there names relays (At p) t there may known = lt-ltb (index_in names p) (length names)
    (index_inside names p there)
origin_there names relays (Relay r) t there may known = known r (nat_eq_itself r)
origin_there names relays Sink t there may known = absurd (cc)

target_there : (names : List Point) (relays : List ℕ) (s t : NamedEnd) → is_there (is_in names) t ≡ true → may_lead s t ≡
    true →
    ((r : ℕ) → is_relay_of r t ≡ true → is_relay relays r ≡ true) → is_target (length names) relays (end_at names t) ≡
    true
target_there names relays Source Source there may known = absurd (cc)
target_there names relays (At p) Source there may known = absurd (cc)
target_there names relays (Relay r) Source there may known = absurd (cc)
target_there names relays Sink Source there may known = absurd (cc)
target_there names relays s (At p) there may known = lt-ltb (index_in names p) (length names)
    (index_inside names p there)
target_there names relays s (Relay r) there may known = known r (nat_eq_itself r)
target_there names relays s Sink there may known = refl

leads_there : (names : List Point) (s t : NamedEnd) → may_lead s t ≡ true → leads_on (end_at names s) (end_at names t) ≡
    true
leads_there names Source (At p) may = refl
leads_there names Source Source may = absurd (cc)
leads_there names Source (Relay r) may = absurd (cc)
leads_there names Source Sink may = absurd (cc)
leads_there names (At p) t may = refl
leads_there names (Relay r) t may = refl
leads_there names Sink t may = absurd (cc)

link_there : (names : List Point) (relays : List ℕ) (j : NamedLink) → is_sound (is_in names) j ≡ true →
    ((r : ℕ) → names_relay r j ≡ true → is_relay relays r ≡ true) →
    is_link (length names) relays (arc_at names j) ≡ true
link_there names relays j sound known =
    let s = and_parts (is_there (is_in names) j.source) _ sound in
    let t = and_parts (is_there (is_in names) j.target) (may_lead j.source j.target) s.1 in
    and_from (is_origin (length names) relays (end_at names j.source)) _
    (origin_there names relays j.source j.target s.0 t.1
    (λ r e. known r (or_left (is_relay_of r j.source) (is_relay_of r j.target) e)))
    (and_from (is_target (length names) relays (end_at names j.target)) _
    (target_there names relays j.source j.target t.0 t.1
    (λ r e. known r (or_right (is_relay_of r j.source) (is_relay_of r j.target) e)))
    (leads_there names j.source j.target t.1))

pub links_there : (names : List Point) (relays : List ℕ) (links : List NamedLink) → list_all (is_sound (is_in names)) links
    ≡ true →
    ((r : ℕ) → list_any (names_relay r) links ≡ true → is_relay relays r ≡ true) → are_links (length names) relays
    (map (arc_at names) links) ≡ true
links_there names relays [] sound known = refl
links_there names relays (j ∷ js) sound known =
    let parts = and_parts (is_sound (is_in names) j) (list_all (is_sound (is_in names)) js) sound in
    and_from (is_link (length names) relays (arc_at names j)) (are_links (length names) relays (map (arc_at names) js))
    (link_there names relays j parts.0 (λ r e. known r (or_left (names_relay r j) (list_any (names_relay r) js) e)))
    (links_there names relays js parts.1 (λ r e. known r (or_right (names_relay r j) (list_any (names_relay r) js) e)))

-- ---- a link by its indices names the link that it came from

end_same : (nodes : List Node) (s : NamedEnd) → is_there (is_in (map (λ n. n.point) nodes)) s ≡ true →
    named_end_cmp (named_end nodes (end_at (map (λ n. n.point) nodes) s)) s ≡ Equal
end_same nodes Source there = refl
end_same nodes (At p) there = same_at_index (map (λ n. n.point) nodes) p nowhere there
end_same nodes (Relay r) there = nat_cmp_itself r
end_same nodes Sink there = refl

link_same : (nodes : List Node) (j : NamedLink) → is_sound (is_in (map (λ n. n.point) nodes)) j ≡ true →
    link_cmp (named nodes (arc_at (map (λ n. n.point) nodes) j)) j ≡ Equal
link_same nodes j sound =
    let s = and_parts (is_there (is_in (map (λ n. n.point) nodes)) j.source) _ sound in
    let t = and_parts (is_there (is_in (map (λ n. n.point) nodes)) j.target) (may_lead j.source j.target) s.1 in
    ap (λ o. ordering_then o (named_end_cmp (named_end nodes (end_at (map (λ n. n.point) nodes) j.target)) j.target))
    (end_same nodes j.source s.0)
    ∙ end_same nodes j.target t.0

pub named_among : (nodes : List Node) (links : List NamedLink) (j : NamedLink) →
    list_all (is_sound (is_in (map (λ n. n.point) nodes))) links ≡ true →
    is_among (map (named nodes) (map (arc_at (map (λ n. n.point) nodes)) links)) j ≡ is_among links j
named_among nodes [] j sound = refl
named_among nodes (k ∷ ks) j sound =
    let parts = and_parts (is_sound (is_in (map (λ n. n.point) nodes)) k)
    (list_all (is_sound (is_in (map (λ n. n.point) nodes))) ks) sound in
    let same : link_cmp (named nodes (arc_at (map (λ n. n.point) nodes) k)) j ≡ link_cmp k j =
    link_total.congr (named nodes (arc_at (map (λ n. n.point) nodes) k)) k j (link_same nodes k parts.0) in
    ap (λ o. is_eq o || is_among (map (named nodes) (map (arc_at (map (λ n. n.point) nodes)) ks)) j) same
    ∙ ap (λ b. is_eq (link_cmp k j) || b) (named_among nodes ks j parts.1)
