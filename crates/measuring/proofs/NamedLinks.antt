-- The links of a graph are different ones by the names of their ends.
use Rattle.std.proofs.Common.{◌≡◌, ℕ, ◌≤◌, ◌<◌, ◌||◌, Bool, true, false, List, [], ◌∷◌}
use Rattle.std.proofs.Common.{length, map, nat_lt, refl, sym, ap, ◌∙◌, ⊎_elim, arith}
use Rattle.std.specs.Prelude.{slice_index_or}
use Rattle.std.specs.List.{list_all, AllByRecursion, IsDistinct}
use Rattle.std.specs.Ordering.{is_eq, is_lt, nat_cmp, ordering_then}
use Rattle.std.specs.declared.cmp.Ordering.{Ordering}
use Rattle.std.specs.declared.cmp.Ordering.TheVariants.{Less, Equal, Greater}
use Rattle.std.proofs.lemmas.Bool.{and_parts, and_from, false≢true, ltb-true, cases_lt}
use Rattle.std.specs.List.Sorted.{IsStrictlySortedBy}
use Rattle.std.specs.Cmp.{nat_cmp_is}
use Rattle.std.specs.Ordering.{ordering_reverse}
use Rattle.std.proofs.lemmas.Cmp.{tied_itself}
use Rattle.std.proofs.lemmas.Map.Keys.{Less-from_sorted}
use Rattle.flow_graph.specs.contracts.ends.ArcOrd.TheImpl.Laws as arc_laws
use Rattle.flow_graph.proofs.Indices.{nat_cmp_itself}
use Rattle.flow_base.proofs.PointOrders.{point_total}
use Rattle.std.proofs.lemmas.List.{length-map}
use Rattle.flow_base.specs.declared.points.Point.{Point}
use Rattle.flow_base.specs.PointOrders.{point_cmp}
use Rattle.flow_graph.specs.declared.ends.Arc.{Arc}
use Rattle.flow_graph.specs.declared.ends.End.{End}
use Rattle.flow_graph.specs.declared.ends.End.TheVariants.{Source, Point as PointEnd, Relay, Sink}
use Rattle.flow_graph.specs.contracts.ends.EndOrd.TheImpl as end_ord
use Rattle.flow_graph.specs.contracts.named_links.NamedEndOrd.TheImpl as named_end_ord
use Rattle.flow_graph.specs.declared.named_links.NamedLink.{NamedLink}
use Rattle.flow_graph.specs.declared.named_links.NamedEnd.{NamedEnd}
use Rattle.flow_graph.specs.declared.nodes.Node.{Node}
use Rattle.flow_graph.specs.EventGraphs.{is_among, link_cmp, named}
use Rattle.flow_graph.specs.EventGraphs.{named_end}
use Rattle.flow_graph.specs.Graphs.{arc_cmp, ascend, is_link, is_origin}
use Rattle.flow_graph.specs.Graphs.{is_target, leads_on, node_cmp}
use Rattle.location_collapse.specs.Limits.{is_same_link}
use Rattle.location_collapse.proofs.EqualityByOrder.{links_alike}
use Rattle.measuring.proofs.Splits.{above, nodes_chain}
use Rattle.flow_base.specs.Points.{nowhere}

behind : {A : Type 0} (cmp : A → A → Ordering) (x : A) (xs : List A) → ascend cmp (x ∷ xs) ≡ true → ascend cmp xs ≡ true
behind cmp x [] up = refl
behind cmp x (y ∷ ys) up = (and_parts (is_lt (cmp x y)) (ascend cmp (y ∷ ys)) up).1

abbrev end_cmp : End → End → Ordering
end_cmp = (end_ord.ghosts).cmp

abbrev named_end_cmp : NamedEnd → NamedEnd → Ordering
named_end_cmp = (named_end_ord.ghosts).cmp

less_is : (o : Ordering) → is_lt o ≡ true → o ≡ Less
less_is Less less = refl
less_is Equal less = absurd (false≢true less)
less_is Greater less = absurd (false≢true less)

all_less : (n : Node) (ns : List Node) → list_all (λ m. is_lt (node_cmp n m)) ns ≡ true →
    AllByRecursion (λ y. point_cmp n.point y ≡ Less) (map (λ m. m.point) ns)
all_less n [] all = tt
all_less n (m ∷ ms) all =
    let parts = and_parts (is_lt (node_cmp n m)) (list_all (λ k. is_lt (node_cmp n k)) ms) all in
    (less_is (node_cmp n m) parts.0, all_less n ms parts.1)

names_sorted : (nodes : List Node) → ascend node_cmp nodes ≡ true → IsStrictlySortedBy point_cmp
    (map (λ m. m.point) nodes)
unfolding IsStrictlySortedBy
names_sorted [] up = tt
names_sorted (n ∷ ns) up =
    (all_less n ns (above node_cmp nodes_chain n ns up), names_sorted ns (behind node_cmp n ns up))

in_range : ℕ → End → Bool
in_range count Source = true
in_range count (PointEnd index) = nat_lt index count
in_range count (Relay region) = true
in_range count Sink = true

origin_in : (count : ℕ) (relays : List ℕ) (end : End) → is_origin count relays end ≡ true → in_range count end ≡ true
unfolding in_range
origin_in count relays Source valid = refl
origin_in count relays (PointEnd index) valid = valid
origin_in count relays (Relay region) valid = refl
origin_in count relays Sink valid = refl

target_in : (count : ℕ) (relays : List ℕ) (end : End) → is_target count relays end ≡ true → in_range count end ≡ true
unfolding in_range
target_in count relays Source valid = refl
target_in count relays (PointEnd index) valid = valid
target_in count relays (Relay region) valid = refl
target_in count relays Sink valid = refl

indices : (names : List Point) → IsStrictlySortedBy point_cmp names → (i j : ℕ) → i < length names → j < length names →
    nat_cmp i j ≡ point_cmp (slice_index_or names i nowhere) (slice_index_or names j nowhere)
indices names sorted i j a b =
    ⊎_elim
    (λ (less : i < j). nat_cmp_less i j less ∙ sym (Less-from_sorted point_cmp names i j nowhere sorted less b))
    (λ (rest : j ≤ i). ⊎_elim
    (λ (more : j < i). nat_cmp-more i j more
    ∙ (ap ordering_reverse (sym (Less-from_sorted point_cmp names j i nowhere sorted more a))
    ∙ sym (point_total.antisymm (slice_index_or names i nowhere) (slice_index_or names j nowhere))))
    (λ (same : i ≤ j). let e : i ≡ j = omega (arith, rest, same) in
    ap (λ k. nat_cmp k j) e ∙ (nat_cmp_itself j ∙ (sym (tied_itself point_total (slice_index_or names j nowhere))
    ∙ ap (λ k. point_cmp (slice_index_or names k nowhere) (slice_index_or names j nowhere)) (sym e))))
    (cases_lt j i))
    (cases_lt i j)
  where
    nat_cmp_less : (x y : ℕ) → x < y → nat_cmp x y ≡ Less
    nat_cmp_less x y less = sym (nat_cmp_is x y Less less)

    nat_cmp-more : (x y : ℕ) → y < x → nat_cmp x y ≡ Greater
    nat_cmp-more x y more = sym (nat_cmp_is x y Greater more)

ends_alike : (nodes : List Node) → ascend node_cmp nodes ≡ true → (s t : End) → in_range (length nodes) s ≡ true →
    in_range (length nodes) t ≡ true → end_cmp s t ≡ named_end_cmp (named_end nodes s) (named_end nodes t)
unfolding in_range
ends_alike nodes up Source Source a b = refl
ends_alike nodes up Source (PointEnd j) a b = refl
ends_alike nodes up Source (Relay r) a b = refl
ends_alike nodes up Source Sink a b = refl
ends_alike nodes up (PointEnd i) Source a b = refl
ends_alike nodes up (PointEnd i) (PointEnd j) a b =
    let count = length-map nodes (λ m. m.point) in
    let first = ltb-true i (length nodes) a in
    let second = ltb-true j (length nodes) b in
    indices (map (λ m. m.point) nodes) (names_sorted nodes up) i j (omega (arith, count, first))
    (omega (arith, count, second))
ends_alike nodes up (PointEnd i) (Relay r) a b = refl
ends_alike nodes up (PointEnd i) Sink a b = refl
ends_alike nodes up (Relay r) Source a b = refl
ends_alike nodes up (Relay r) (PointEnd j) a b = refl
ends_alike nodes up (Relay r) (Relay t) a b = refl
ends_alike nodes up (Relay r) Sink a b = refl
ends_alike nodes up Sink Source a b = refl
ends_alike nodes up Sink (PointEnd j) a b = refl
ends_alike nodes up Sink (Relay r) a b = refl
ends_alike nodes up Sink Sink a b = refl

pub links_alike_order : (nodes : List Node) (relays : List ℕ) → ascend node_cmp nodes ≡ true → (a b : Arc) →
    is_link (length nodes) relays a ≡ true → is_link (length nodes) relays b ≡ true →
    arc_cmp a b ≡ link_cmp (named nodes a) (named nodes b)
links_alike_order nodes relays up a b first second =
    let one = and_parts (is_origin (length nodes) relays a.source) _ first in
    let two = and_parts (is_origin (length nodes) relays b.source) _ second in
    let three = and_parts (is_target (length nodes) relays a.target) (leads_on a.source a.target) one.1 in
    let four = and_parts (is_target (length nodes) relays b.target) (leads_on b.source b.target) two.1 in
    ap (λ o. ordering_then o (end_cmp a.target b.target)) (ends_alike nodes up a.source b.source
    (origin_in (length nodes) relays a.source one.0) (origin_in (length nodes) relays b.source two.0))
    ∙ ap (λ o. ordering_then (named_end_cmp (named_end nodes a.source) (named_end nodes b.source)) o)
    (ends_alike nodes up a.target b.target (target_in (length nodes) relays a.target three.0)
    (target_in (length nodes) relays b.target four.0))

arcs_chain : (x y z : Arc) → is_lt (arc_cmp x y) ≡ true → is_lt (arc_cmp y z) ≡ true → is_lt (arc_cmp x z) ≡ true
arcs_chain x y z first second =
    ap is_lt (arc_laws.total-law.trans x y z (less_is (arc_cmp x y) first) (less_is (arc_cmp y z) second))

less_unequal : (o : Ordering) → is_lt o ≡ true → is_eq o ≡ false
less_unequal Less less = refl
less_unequal Equal less = absurd (false≢true less)
less_unequal Greater less = refl

links_apart : (nodes : List Node) (relays : List ℕ) → ascend node_cmp nodes ≡ true → (a : Arc) →
    is_link (length nodes) relays a ≡ true → (links : List Arc) → list_all (λ b. is_lt (arc_cmp a b)) links ≡ true →
    list_all (is_link (length nodes) relays) links ≡ true →
    AllByRecursion (λ y. is_same_link (named nodes a) y ≡ false) (map (named nodes) links)
links_apart nodes relays up a own [] less valid = tt
links_apart nodes relays up a own (b ∷ links) less valid =
    let first = and_parts (is_lt (arc_cmp a b)) (list_all (λ c. is_lt (arc_cmp a c)) links) less in
    let second = and_parts (is_link (length nodes) relays b) (list_all (is_link (length nodes) relays) links) valid in (
      ap is_eq (sym (links_alike_order nodes relays up a b own second.0)) ∙ less_unequal (arc_cmp a b) first.0,
      links_apart nodes relays up a own links first.1 second.1,
    )

pub links_differ : (nodes : List Node) (relays : List ℕ) → ascend node_cmp nodes ≡ true → (links : List Arc) →
    ascend arc_cmp links ≡ true → list_all (is_link (length nodes) relays) links ≡ true →
    IsDistinct is_same_link (map (named nodes) links)
unfolding IsDistinct
links_differ nodes relays up [] ordered valid = tt
links_differ nodes relays up (a ∷ links) ordered valid =
    let parts = and_parts (is_link (length nodes) relays a) (list_all (is_link (length nodes) relays) links) valid in (
      links_apart nodes relays up a parts.0 links (above arc_cmp arcs_chain a links ordered) parts.1,
      links_differ nodes relays up links (behind arc_cmp a links ordered) parts.1,
    )

pub own_links : (links more : List NamedLink) → ((link : NamedLink) → is_among links link ≡ true → is_among more link ≡
    true) → list_all (is_among more) links ≡ true
own_links [] more within = refl
own_links (link ∷ links) more within =
    and_from (is_among more link) (list_all (is_among more) links)
    (within link (ap (λ b. b || is_among links link) (links_alike.refl link)))
    (own_links links more (λ other own. within other (behind_is (is_same_link link other) (is_among links other) own)))
  where
    behind_is : (a b : Bool) → b ≡ true → (a || b) ≡ true
    behind_is true b own = refl
    behind_is false b own = own
