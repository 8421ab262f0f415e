-- A side of the graph of some events, by the names of its points: no link of the events leaves it.
use Rattle.std.proofs.Common.{◌≡◌, ℕ, zero, suc, ◌<◌, ◌==◌, ◌&&◌, ◌||◌, ◌++◌, ◌∷◌, [], cond, not}
use Rattle.std.proofs.Common.{nat_eq, nat_lt}
use Rattle.std.proofs.Common.{Bool, true, false, List, length, map, get_or, refl, sym, ap, ◌∙◌, arith}
use Rattle.std.proofs.Common.{inl, inr}
use Rattle.std.specs.List.{AllByRecursion, list_all, list_any}
use Rattle.std.specs.List.Sorted.{IsStrictlySortedBy}
use Rattle.std.specs.Ordering.{is_eq, is_lt, nat_cmp, ordering_then, ordering_reverse}
use Rattle.std.specs.declared.cmp.Ordering.{Ordering}
use Rattle.std.specs.declared.cmp.Ordering.TheVariants.{Less, Equal, Greater}
use Rattle.std.proofs.lemmas.Bool.{and_parts, cases_Bool, cond-true, cond-false, eq-eqb, eqb-true, lt-ltb, le-ltb}
use Rattle.std.proofs.lemmas.Bool.{ltb-true, ne_eqb, eqb-false, cases_order}
use Rattle.std.proofs.lemmas.Bool.{or_cases, or_left, or_parts, or_right}
use Rattle.std.proofs.lemmas.List.{length-map}
use Rattle.flow_base.specs.declared.points.Point.{Point}
use Rattle.flow_base.specs.PointOrders.{point_cmp, is_same}
use Rattle.flow_base.proofs.PointOrders.{point_total, is_equal}
use Rattle.flow_graph.specs.declared.ends.Arc.{Arc}
use Rattle.flow_graph.specs.declared.ends.End.{End}
use Rattle.flow_graph.specs.declared.ends.End.TheVariants.{Source as SourceEnd, Point as PointEnd, Relay as RelayEnd}
use Rattle.flow_graph.specs.declared.ends.End.TheVariants.{Sink as SinkEnd}
use Rattle.flow_graph.specs.declared.events.Event.{Event}
use Rattle.flow_graph.specs.declared.events.Event.TheVariants.{Pass, Link, FromSecret, Implicit, Out}
use Rattle.flow_graph.specs.declared.graphs.Graph.{Graph}
use Rattle.flow_graph.specs.declared.nodes.Node.{Node}
use Rattle.flow_graph.specs.declared.named_links.NamedEnd.{NamedEnd}
use Rattle.flow_graph.specs.declared.named_links.NamedEnd.TheVariants.{Source, At, Relay, Sink}
use Rattle.flow_graph.specs.declared.named_links.NamedLink.{NamedLink}
use Rattle.flow_graph.specs.EventGraphs.{has_passed, one_if, outlet_of, links_after, named_links, link_cmp}
use Rattle.flow_graph.specs.EventGraphs.{is_among, is_relay_of, names_relay, named_end, named, IsGraphOf}
use Rattle.flow_graph.specs.Graphs.{ascend, node_cmp, has_capacity, is_origin, is_target, is_link}
use Rattle.flow_graph.proofs.LinksByIndex.{link_total, named_end_cmp}
use Rattle.max_flow.specs.declared.answers.Half.{Half}
use Rattle.max_flow.specs.declared.answers.Half.TheVariants.{Neither}
use Rattle.max_flow.specs.Flows.{IsSideOf, entered_in, has_first, has_second, leads_out, left_in, relay_in}
use Rattle.max_flow.proofs.NamedSides.{not_and, or_false}
use Rattle.acceptance_law.specs.Sides.{halves_at, named_side}
use Rattle.acceptance_law.specs.ClosedEvents.{starts_in, ends_in, IsClosedLink, IsClosedFor}
use Rattle.acceptance_law.proofs.GraphEvents.{itself, same_itself, all_more}
use Rattle.flow_base.specs.Points.{nowhere}

-- ---- ascending points are apart

is_less : (o : Ordering) → is_lt o ≡ true → o ≡ Less
is_less Less e = refl
is_less Equal e = absurd (cc)
is_less Greater e = absurd (cc)

all_less : (p q : Point) (points : List Point) → point_cmp p q ≡ Less →
    AllByRecursion (λ x. point_cmp q x ≡ Less) points → AllByRecursion (λ x. point_cmp p x ≡ Less) points
all_less p q points less all =
    all_more (λ x. point_cmp q x ≡ Less) (λ x. point_cmp p x ≡ Less) (λ x h. point_total.trans p q x less h) points all

abbrev pub points_of : List Node → List Point
points_of nodes = map (λ node. node.point) nodes

pub points_sorted : (nodes : List Node) → ascend node_cmp nodes ≡ true → IsStrictlySortedBy point_cmp (points_of nodes)
unfolding IsStrictlySortedBy
points_sorted [] ascends = tt
points_sorted (node ∷ []) ascends = (tt, tt)
points_sorted (node ∷ (next ∷ nodes)) ascends =
    let parts = and_parts (is_lt (node_cmp node next)) (ascend node_cmp (next ∷ nodes)) ascends in
    let rest = points_sorted (next ∷ nodes) parts.1 in
    let less : point_cmp node.point next.point ≡ Less = is_less (node_cmp node next) parts.0 in
    ((less, all_less node.point next.point (points_of nodes) less rest.0), rest)

pub graph_sorted : (graph : Graph) → IsStrictlySortedBy point_cmp (points_of graph.points)
graph_sorted graph =
    points_sorted graph.points
    (and_parts (list_all has_capacity graph.points) (ascend node_cmp graph.points) graph.points_ascend).1

pub name_later : (p : Point) (points : List Point) (i : ℕ) → AllByRecursion (λ x. point_cmp p x ≡ Less) points →
    i < length points → point_cmp p (get_or points i nowhere) ≡ Less
name_later p [] i all below = absurd (omega arith)
name_later p (x ∷ points) zero all below = all.0
name_later p (x ∷ points) (suc i) all below = name_later p points i all.1 (omega arith)

pub less_apart : (p q : Point) → point_cmp q p ≡ Less → is_same p q ≡ false
less_apart p q less =
    ap is_eq (point_total.antisymm p q ∙ ap ordering_reverse less)

-- ---- the halves of the point with an index

pub half_named : (nodes : List Node) (halves : List Half) (i : ℕ) → IsStrictlySortedBy point_cmp (points_of nodes) →
    i < length nodes → length halves ≡ length nodes →
    get_or halves i Neither ≡ halves_at nodes halves (get_or (points_of nodes) i nowhere)
unfolding IsStrictlySortedBy
half_named [] halves i sorted below same = absurd (omega arith)
half_named (node ∷ nodes) [] i sorted below same = absurd (omega arith)
half_named (node ∷ nodes) (half ∷ halves) zero sorted below same =
    sym (cond-true (is_same node.point node.point) half (halves_at nodes halves node.point) (same_itself node.point))
half_named (node ∷ nodes) (half ∷ halves) (suc i) sorted below same =
    let point = get_or (points_of nodes) i nowhere in
    let later : point_cmp node.point point ≡ Less =
    name_later node.point (points_of nodes) i sorted.0
    (let c : length (points_of nodes) ≡ length nodes = length-map nodes (λ n. n.point) in omega (arith, c)) in
    half_named nodes halves i sorted.1 (omega arith) (omega arith)
    ∙ sym (cond-false (is_same point node.point) half (halves_at nodes halves point)
    (less_apart point node.point later))

-- ---- the ends of links by their names

pub left_named : (graph : Graph) (halves : List Half) (relays : List Bool) → length halves ≡ length graph.points →
    (end : End) → is_origin (length graph.points) graph.relays end ≡ true →
    left_in graph halves relays end ≡ starts_in (named_side graph halves relays) (named_end graph.points end)
left_named graph halves relays same SourceEnd is = refl
left_named graph halves relays same (PointEnd i) is = ap has_second (half_named graph.points halves i
    (graph_sorted graph) (ltb-true i (length graph.points) is) same)
left_named graph halves relays same (RelayEnd region) is = refl
left_named graph halves relays same SinkEnd is = refl

pub entered_named : (graph : Graph) (halves : List Half) (relays : List Bool) → length halves ≡ length graph.points →
    (end : End) → is_target (length graph.points) graph.relays end ≡ true →
    entered_in graph halves relays end ≡ ends_in (named_side graph halves relays) (named_end graph.points end)
entered_named graph halves relays same SourceEnd is = refl
entered_named graph halves relays same (PointEnd i) is = ap has_first (half_named graph.points halves i
    (graph_sorted graph) (ltb-true i (length graph.points) is) same)
entered_named graph halves relays same (RelayEnd region) is = refl
entered_named graph halves relays same SinkEnd is = refl

-- ---- the links of a graph

-- each link of the graph, by its names
named_stay : (graph : Graph) (halves : List Half) (relays : List Bool) → length halves ≡ length graph.points →
    (links : List Arc) → list_all (is_link (length graph.points) graph.relays) links ≡ true →
    list_any (leads_out graph halves relays) links ≡ false →
    IsClosedFor (named_side graph halves relays) (map (named graph.points) links)
named_stay graph halves relays same [] valid stay = tt
named_stay graph halves relays same (link ∷ links) valid stay =
    let both = and_parts (is_link (length graph.points) graph.relays link)
    (list_all (is_link (length graph.points) graph.relays) links) valid in
    let origin = and_parts (is_origin (length graph.points) graph.relays link.source) _ both.0 in
    let target = and_parts (is_target (length graph.points) graph.relays link.target) _ origin.1 in
    let out = or_parts (leads_out graph halves relays link) (list_any (leads_out graph halves relays) links) stay in (
      (λ inside. sym (entered_named graph halves relays same link.target target.0)
          ∙ not_and _ _ out.0 (left_named graph halves relays same link.source origin.0 ∙ inside)),
      named_stay graph halves relays same links both.1 out.1,
    )

-- ---- links that are the same

nat_cmp_same : (a b : ℕ) → nat_cmp a b ≡ Equal → a ≡ b
nat_cmp_same a b e = elim (cases_order a b) [
  | inl same ↦ same
  | inr (inl less) ↦
      let no : nat_cmp a b ≡ Less = cond-true (nat_lt a b) Less _ (lt-ltb a b less) in absurd (cc)
  | inr (inr more) ↦
      let no : nat_cmp a b ≡ Greater = cond-false (nat_lt a b) Less _ (le-ltb a b (omega arith))
      ∙ cond-false (nat_eq a b) Equal Greater (ne_eqb a b (λ s. omega (arith, s, more))) in absurd (cc)
]

pub halves_alike : (p q : Point) → point_cmp p q ≡ Equal → (nodes : List Node) (halves : List Half) →
    halves_at nodes halves p ≡ halves_at nodes halves q
halves_alike p q e [] halves = refl
halves_alike p q e (node ∷ nodes) [] = refl
halves_alike p q e (node ∷ nodes) (half ∷ halves) =
    ap (λ o. cond (is_eq o) half (halves_at nodes halves p)) (point_total.congr p q node.point e)
    ∙ ap (λ h. cond (is_same q node.point) half h) (halves_alike p q e nodes halves)

alike_end : (graph : Graph) (halves : List Half) (relays : List Bool) → (s t : NamedEnd) → named_end_cmp s t ≡ Equal →
    (starts_in (named_side graph halves relays) s ≡ starts_in (named_side graph halves relays) t)
    × (ends_in (named_side graph halves relays) s ≡ ends_in (named_side graph halves relays) t)
alike_end graph halves relays Source Source e = (refl, refl)
alike_end graph halves relays Source (At q) e = absurd (cc)
alike_end graph halves relays Source (Relay r) e = absurd (cc)
alike_end graph halves relays Source Sink e = absurd (cc)
alike_end graph halves relays (At p) Source e = absurd (cc)
alike_end graph halves relays (At p) (At q) e =
    let same = halves_alike p q e graph.points halves in (ap has_second same, ap has_first same)
alike_end graph halves relays (At p) (Relay r) e = absurd (cc)
alike_end graph halves relays (At p) Sink e = absurd (cc)
alike_end graph halves relays (Relay r) Source e = absurd (cc)
alike_end graph halves relays (Relay r) (At q) e = absurd (cc)
alike_end graph halves relays (Relay r) (Relay s) e =
    let same = ap (relay_in graph.relays relays) (nat_cmp_same r s e) in (same, same)
alike_end graph halves relays (Relay r) Sink e = absurd (cc)
alike_end graph halves relays Sink Source e = absurd (cc)
alike_end graph halves relays Sink (At q) e = absurd (cc)
alike_end graph halves relays Sink (Relay r) e = absurd (cc)
alike_end graph halves relays Sink Sink e = (refl, refl)

then_parts : (o r : Ordering) → ordering_then o r ≡ Equal → (o ≡ Equal) × (r ≡ Equal)
then_parts Less r e = absurd (cc)
then_parts Equal r e = (refl, e)
then_parts Greater r e = absurd (cc)

alike_closed : (graph : Graph) (halves : List Half) (relays : List Bool) (j k : NamedLink) → link_cmp j k ≡ Equal →
    IsClosedLink (named_side graph halves relays) j → IsClosedLink (named_side graph halves relays) k
alike_closed graph halves relays j k e closed =
    let both = then_parts (named_end_cmp j.source k.source) (named_end_cmp j.target k.target) e in
    let source = alike_end graph halves relays j.source k.source both.0 in
    let target = alike_end graph halves relays j.target k.target both.1 in
    λ inside. sym target.1 ∙ closed (source.0 ∙ inside)

among_closed : (graph : Graph) (halves : List Half) (relays : List Bool) (links : List NamedLink) (k : NamedLink) →
    IsClosedFor (named_side graph halves relays) links → is_among links k ≡ true →
    IsClosedLink (named_side graph halves relays) k
among_closed graph halves relays [] k closed among = absurd (cc)
among_closed graph halves relays (j ∷ links) k closed among =
    elim (or_cases (is_eq (link_cmp j k)) (is_among links k) among) [
      | inl same ↦ alike_closed graph halves relays j k (is_equal (link_cmp j k) same) closed.0
      | inr later ↦ among_closed graph halves relays links k closed.1 later
    ]

pub link_itself : (j : NamedLink) → is_eq (link_cmp j j) ≡ true
link_itself j = ap is_eq (itself (link_cmp j j) (link_total.antisymm j j))

each_among : (P : NamedLink → Type 0) (links : List NamedLink) →
    ((k : NamedLink) → is_among links k ≡ true → P k) → AllByRecursion P links
each_among P [] holds = tt
each_among P (j ∷ links) holds = (
  holds j (or_left (is_eq (link_cmp j j)) (is_among links j) (link_itself j)),
  each_among P links (λ k among. holds k (or_right (is_eq (link_cmp j k)) (is_among links k) among)),
)

pub side_closed : (events : List Event) (graph : Graph) (halves : List Half) (relays : List Bool) →
    IsGraphOf events graph → IsSideOf graph halves relays →
    IsClosedFor (named_side graph halves relays) (named_links events)
side_closed events graph halves relays is side =
    let closed = named_stay graph halves relays side.points_count graph.links graph.links_are_valid side.closed in
    each_among (IsClosedLink (named_side graph halves relays)) (named_links events)
    (λ k among. among_closed graph halves relays (map (named graph.points) graph.links) k closed (is.links k ∙ among))

-- ---- there is no relay of what is outside regions

or_later : (a b : Bool) → (a || b) ≡ false → b ≡ false
or_later true b none = absurd (cc)
or_later false b none = none

one_unnamed : (region : ℕ) (there : Bool) (s t : NamedEnd) (rest : List NamedLink) → is_relay_of region s ≡ false →
    is_relay_of region t ≡ false → list_any (names_relay region) rest ≡ false →
    list_any (names_relay region) (one_if there s t ++ rest) ≡ false
one_unnamed region true s t rest none also later = or_false _ _ (or_false _ _ none also) later
one_unnamed region false s t rest none also later = later

outlet_unnamed : (region : ℕ) (outside : Bool) → (region == 0) ≡ outside →
    is_relay_of 0 (cond outside Sink (Relay region)) ≡ false
outlet_unnamed region true is = refl
outlet_unnamed region false is = ne_eqb 0 region (λ e. eqb-false region 0 is (sym e))

out_unnamed : (region : ℕ) (there outside : Bool) (t : NamedEnd) (rest : List NamedLink) → (region == 0) ≡ outside →
    is_relay_of 0 t ≡ false → list_any (names_relay 0) rest ≡ false →
    list_any (names_relay 0) (one_if (there && not outside) (Relay region) t ++ rest) ≡ false
out_unnamed region true true t rest is none later = later
out_unnamed region false true t rest is none later = later
out_unnamed region there false t rest is none later =
    one_unnamed 0 (there && true) (Relay region) t rest (ne_eqb 0 region (λ e. eqb-false region 0 is (sym e))) none
    later

none_named : (before events : List Event) → list_any (names_relay 0) (links_after before events) ≡ false
none_named before [] = refl
none_named before (Pass point mask ∷ events) = none_named (before ++ Pass point mask ∷ []) events
none_named before (Link source target ∷ events) =
    one_unnamed 0 (has_passed before source && has_passed before target) (At source) (At target) _ refl refl
    (none_named (before ++ Link source target ∷ []) events)
none_named before (FromSecret point ∷ events) =
    one_unnamed 0 (has_passed before point) Source (At point) _ refl refl
    (none_named (before ++ FromSecret point ∷ []) events)
none_named before (Implicit point region ∷ events) =
    one_unnamed 0 (has_passed before point) (At point) (outlet_of region) _ refl
    (outlet_unnamed region (region == 0) refl)
    (none_named (before ++ Implicit point region ∷ []) events)
none_named before (Out region point ∷ events) =
    out_unnamed region (has_passed before point) (region == 0) (At point) _ refl refl
    (none_named (before ++ Out region point ∷ []) events)

missing_relay : (regions : List ℕ) (answers : List Bool) (region : ℕ) → list_any (nat_eq region) regions ≡ false →
    relay_in regions answers region ≡ false
missing_relay [] answers region none = refl
missing_relay (other ∷ regions) [] region none = refl
missing_relay (other ∷ regions) (answer ∷ answers) region none = elim (cases_Bool (nat_eq other region)) [
  | inl same ↦
      let here : nat_eq region other ≡ true = eq-eqb region other (sym (eqb-true other region same)) in
      let there : list_any (nat_eq region) (other ∷ regions) ≡ true =
      or_left (nat_eq region other) (list_any (nat_eq region) regions) here in
      absurd (cc)
  | inr different ↦
      cond-false (nat_eq other region) answer (relay_in regions answers region) different
      ∙ missing_relay regions answers region (or_later (nat_eq region other) (list_any (nat_eq region) regions) none)
]

pub side_outside : (events : List Event) (graph : Graph) (halves : List Half) (relays : List Bool) →
    IsGraphOf events graph → (named_side graph halves relays).relay 0 ≡ false
side_outside events graph halves relays is =
    missing_relay graph.relays relays 0 (is.relays 0 ∙ none_named [] events)
