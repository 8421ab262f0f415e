-- The graph of events that exceed no limit is within the limits.
use Rattle.std.proofs.Common.{◌≡◌, ℕ, ◌≤◌, ◌<◌, ◌^◌, ◌==◌, ◌||◌, cond, not, Bool, true, false, List, [], ◌∷◌}
use Rattle.std.proofs.Common.{length, map, refl, sym, ap, ◌∙◌, inl, inr, ⊎_elim, arith}
use Rattle.std.specs.List.{list_all, AllByRecursion, IsDistinct}
use Rattle.std.specs.Ordering.{is_lt}
use Rattle.std.specs.declared.cmp.Ordering.{Ordering}
use Rattle.std.proofs.lemmas.Bool.{and_parts, and_from, false≢true, lt-ltb, ltb-true, cases_lt, ne_eqb, eq-eqb}
use Rattle.std.proofs.lemmas.Bool.{eqb-true}
use Rattle.std.proofs.lemmas.List.{length-map}
use Rattle.std.proofs.lemmas.List.Folds.{list_all-map}
use Rattle.cut_file.proofs.Following.{is_true, is_so}
use Rattle.std.specs.Map.{keys_of}
use Rattle.flow_base.specs.declared.points.Point.{Point}
use Rattle.flow_base.specs.PointOrders.{is_same}
use Rattle.flow_graph.specs.declared.events.Event.{Event}
use Rattle.flow_graph.specs.declared.graphs.Graph.{Graph}
use Rattle.flow_graph.specs.declared.nodes.Node.{Node}
use Rattle.flow_graph.specs.EventGraphs.{IsGraphOf, capacity_at, has_passed, named}
use Rattle.flow_graph.specs.EventGraphs.{named_links}
use Rattle.flow_graph.specs.Graphs.{ascend, has_capacity}
use Rattle.flow_graph.specs.Graphs.{node_cmp}
use Rattle.location_collapse.specs.Limits.{ExceedsLimit}
use Rattle.location_collapse.specs.Collapses.{StandsFor}
use Rattle.location_collapse.proofs.CollapseLimits.{not_exceeding}
use Rattle.flow_base.proofs.PointEquality.{points_alike}
use Rattle.max_flow.specs.Flows.{IsWithinLimits, is_small}
use Rattle.measuring.specs.declared.recordings.Recording.{Recording}
use Rattle.measuring.specs.Measured.{is_point_in}
use Rattle.measuring.specs.Recordings.{HasEvents}
use Rattle.measuring.proofs.NamedLinks.{links_differ, own_links}
use Rattle.flow_base.proofs.PointOrders.{below_other}
use Rattle.measuring.proofs.RunCut.{nodes_up}
use Rattle.measuring.proofs.CutNames.{own_points}
use Rattle.measuring.proofs.Splits.{above, nodes_chain, all_weaker}

-- ---- points

differ_by : (n : Node) (ns : List Node) → list_all (λ m. is_lt (node_cmp n m)) ns ≡ true →
    AllByRecursion (λ y. is_same n.point y ≡ false) (map (λ m. m.point) ns)
differ_by n [] all = tt
differ_by n (m ∷ ms) all =
    let parts = and_parts (is_lt (node_cmp n m)) (list_all (λ k. is_lt (node_cmp n k)) ms) all in
    (below_other n.point m.point parts.0, differ_by n ms parts.1)

behind : {A : Type 0} (cmp : A → A → Ordering) (x : A) (xs : List A) → ascend cmp (x ∷ xs) ≡ true → ascend cmp xs ≡ true
behind cmp x [] up = refl
behind cmp x (y ∷ ys) up = (and_parts (is_lt (cmp x y)) (ascend cmp (y ∷ ys)) up).1

points_differ : (nodes : List Node) → ascend node_cmp nodes ≡ true → IsDistinct is_same (map (λ m. m.point) nodes)
unfolding IsDistinct
points_differ [] up = tt
points_differ (n ∷ ns) up =
    (differ_by n ns (above node_cmp nodes_chain n ns up), points_differ ns (behind node_cmp n ns up))

some_chosen : (b : Bool) (n m : ℕ) → (b ≡ true → not (n == 0) ≡ true) → (b ≡ false → not (m == 0) ≡ true) →
    not (cond b n m == 0) ≡ true
some_chosen true n m own later = own refl
some_chosen false n m own later = later refl

or_rest : (a b : Bool) → a ≡ false → (a || b) ≡ true → b ≡ true
or_rest true b none holds = absurd (false≢true (sym none))
or_rest false b none holds = holds

-- each point of the graph has a capacity
pub some_capacity : (nodes : List Node) (q : Point) → list_all has_capacity nodes ≡ true → is_point_in nodes q ≡ true →
    not (capacity_at nodes q == 0) ≡ true
some_capacity [] q all there = absurd (false≢true there)
some_capacity (n ∷ ns) q all there =
    let parts = and_parts (has_capacity n) (list_all has_capacity ns) all in
    let some : 0 < n.capacity = ltb-true 0 n.capacity parts.0 in
    some_chosen (is_same q n.point) n.capacity (capacity_at ns q)
    (λ same. ap not (ne_eqb n.capacity 0 (λ zero. omega (arith, some, zero))))
    (λ other. some_capacity ns q parts.1 (or_rest (is_same n.point q) (is_point_in ns q) (points_alike.symm n.point q
    ∙ other) there))

points_passed : (events : List Event) (graph : Graph) → IsGraphOf events graph →
    list_all (has_passed events) (map (λ m. m.point) graph.points) ≡ true
points_passed events graph of =
    let parts = and_parts (list_all has_capacity graph.points) (ascend node_cmp graph.points)
    (is_so _ graph.points_ascend) in
    list_all-map (has_passed events) (λ m. m.point) graph.points
    ∙ all_weaker (λ m. is_point_in graph.points m.point) (λ m. has_passed events m.point)
    (λ m there. ap (λ n. not (n == 0)) (sym (of.points m.point)) ∙ some_capacity graph.points m.point parts.0 there)
    graph.points (own_points graph.points graph.points (λ q own. own))

few_points : (events : List Event) (graph : Graph) → IsGraphOf events graph → (ExceedsLimit events → ⊥) →
    length graph.points ≤ 65536
few_points events graph of none =
    ⊎_elim
    (λ (more : 65536 < length graph.points). absurd (none (inl (record {
      points = map (λ m. m.point) graph.points;
      differ = points_differ graph.points (nodes_up graph);
      passed = points_passed events graph of;
      more = let count = length-map graph.points (λ m. m.point) in omega (arith, more, count);
    }))))
    (λ (few : length graph.points ≤ 65536). few)
    (cases_lt 65536 (length graph.points))

-- ---- capacities

other_chosen : (b : Bool) (n m : ℕ) → b ≡ false → cond b n m ≡ m
other_chosen true n m none = absurd (false≢true (sym none))
other_chosen false n m none = refl

own_chosen : (b : Bool) (n m : ℕ) → b ≡ true → cond b n m ≡ n
own_chosen true n m own = refl
own_chosen false n m own = absurd (false≢true own)

all_both : {A : Type 0} (p q r : A → Bool) → ((x : A) → p x ≡ true → q x ≡ true → r x ≡ true) → (xs : List A) →
    list_all p xs ≡ true → list_all q xs ≡ true → list_all r xs ≡ true
all_both p q r both [] a b = refl
all_both p q r both (x ∷ xs) a b =
    let first = and_parts (p x) (list_all p xs) a in
    let second = and_parts (q x) (list_all q xs) b in
    and_from (r x) (list_all r xs) (both x first.0 second.0) (all_both p q r both xs first.1 second.1)

-- the capacity of a point of an ascending list is that which stands beside it
capacities_own : (nodes : List Node) → ascend node_cmp nodes ≡ true →
    list_all (λ x. capacity_at nodes x.point == x.capacity) nodes ≡ true
capacities_own [] up = refl
capacities_own (n ∷ ns) up =
    and_from (capacity_at (n ∷ ns) n.point == n.capacity)
    (list_all (λ x. capacity_at (n ∷ ns) x.point == x.capacity) ns)
    (eq-eqb (capacity_at (n ∷ ns) n.point) n.capacity (own_chosen (is_same n.point n.point) n.capacity
    (capacity_at ns n.point) (points_alike.refl n.point)))
    (all_both (λ x. is_lt (node_cmp n x)) (λ x. capacity_at ns x.point == x.capacity)
    (λ x. capacity_at (n ∷ ns) x.point == x.capacity)
    (λ x less own. ap (λ c. c == x.capacity) (other_chosen (is_same x.point n.point) n.capacity
    (capacity_at ns x.point) (points_alike.symm x.point n.point ∙ below_other n.point x.point less)) ∙ own)
    ns (above node_cmp nodes_chain n ns up) (capacities_own ns (behind node_cmp n ns up)))

small_capacities : (events : List Event) (graph : Graph) → IsGraphOf events graph → (ExceedsLimit events → ⊥) →
    list_all is_small graph.points ≡ true
small_capacities events graph of none =
    all_weaker (λ x. capacity_at graph.points x.point == x.capacity) is_small
    (λ x own. ⊎_elim
    (λ (small : x.capacity < 2 ^ 48). lt-ltb x.capacity (2 ^ 48) small)
    (λ (large : 2 ^ 48 ≤ x.capacity). absurd (none (inr (inr (record {
      point = x.point;
      reached =
          let same = eqb-true (capacity_at graph.points x.point) x.capacity own in
          let passes = of.points x.point in omega (arith, large, same, passes);
    })))))
    (cases_lt x.capacity (2 ^ 48))) graph.points (capacities_own graph.points (nodes_up graph))

-- ---- links

few_links : (events : List Event) (graph : Graph) → IsGraphOf events graph → (ExceedsLimit events → ⊥) →
    length graph.links ≤ 1048576
few_links events graph of none =
    ⊎_elim
    (λ (more : 1048576 < length graph.links). absurd (none (inr (inl (record {
      links = map (named graph.points) graph.links;
      differ = links_differ graph.points graph.relays (nodes_up graph) graph.links (is_so _ graph.links_ascend)
          (is_so _ graph.links_are_valid);
      occur = own_links (map (named graph.points) graph.links) (named_links events)
          (λ link own. sym (of.links link) ∙ own);
      more = let count = length-map graph.links (named graph.points) in omega (arith, more, count);
    })))))
    (λ (few : length graph.links ≤ 1048576). few)
    (cases_lt 1048576 (length graph.links))

pub within_limits : (events : List Event) (graph : Graph) → IsGraphOf events graph → (ExceedsLimit events → ⊥) →
    IsWithinLimits graph
within_limits events graph of none = record {
  points = few_points events graph of none;
  links = few_links events graph of none;
  capacities = is_true _ (small_capacities events graph of none);
}

-- what a recording has that is not full exceeds no limit
pub recorded_exceeds_none : (recording : Recording) → recording.collapse.is_full ≡ false → (events : List Event) →
    StandsFor recording.collapse events → ExceedsLimit events → ⊥
recorded_exceeds_none recording within events keeps =
    not_exceeding recording.collapse.points.capacities.map.entries (keys_of recording.collapse.links.named.map.entries) events keeps
    (is_so _ recording.collapse.points.small) recording.collapse.points.few recording.collapse.links.few

-- so is the graph of what a recording has that exceeds no limit
pub recorded_within : (recording : Recording) → recording.collapse.is_full ≡ false → HasEvents recording →
    (graph : Graph) → ((events : List Event) → StandsFor recording.collapse events → IsGraphOf events graph) →
    IsWithinLimits graph
recorded_within recording within has graph of =
    let keeps = has.records.graph within in
    within_limits has.events graph (of has.events keeps)
    (recorded_exceeds_none recording within has.events keeps)
