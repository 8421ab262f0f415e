-- The points that a side of a run's graph splits can stand in a cut.
use Rattle.std.proofs.Common.{◌≡◌, ℕ, zero, suc, ◌+◌, ◌<◌, ◌≤◌, ◌^◌, ◌==◌, ◌||◌, Bool, true, false, List, [], ◌∷◌, ◌++◌}
use Rattle.std.proofs.Common.{length, refl, sym, ap, ◌∙◌, subst, cond, not, arith, ⊎_elim}
use Rattle.std.specs.List.{list_all, list_any, sum_by, AllByRecursion}
use Rattle.std.proofs.lemmas.Bool.{and_parts, cases_Bool, cond-true, false≢true}
use Rattle.std.proofs.lemmas.List.Sums.{sum_by-cons}
use Rattle.flow_base.specs.declared.points.Point.{Point}
use Rattle.flow_base.specs.Points.{is_output_slot}
use Rattle.flow_base.specs.PointOrders.{is_same}
use Rattle.flow_base.specs.Words.{bit_count}
use Rattle.flow_base.proofs.PointEquality.{points_alike}
use Rattle.flow_base.proofs.PointOrders.{one_if_same}
use Rattle.flow_graph.specs.declared.events.Event.{Event}
use Rattle.flow_graph.specs.declared.events.Event.TheVariants.{Pass, Link, FromSecret, Implicit, Out}
use Rattle.flow_graph.specs.declared.graphs.Graph.{Graph}
use Rattle.flow_graph.specs.declared.nodes.Node.{Node}
use Rattle.flow_graph.specs.EventGraphs.{IsGraphOf, bits_at, capacity_at, passed}
use Rattle.max_flow.specs.declared.answers.Half.{Half}
use Rattle.max_flow.specs.Flows.{IsSideOf, has_first, side_capacity}
use Rattle.acceptance_law.specs.RunCuts.{is_inner, visit_masks}
use Rattle.acceptance_law.specs.Sides.{halves_at, is_split, named_side}
use Rattle.acceptance_law.specs.VisitLaws.{FitCuts}
use Rattle.acceptance_law.proofs.GraphCapacities.{capacity_law}
use Rattle.measuring.specs.declared.kept_visits.KeptVisits.{KeptVisits}
use Rattle.measuring.specs.Cutting.{FitsCut}
use Rattle.measuring.specs.Measured.{has_slot, is_point_in}
use Rattle.measuring.specs.Splits.{skipped, split_points}
use Rattle.measuring.specs.Visits.{HasVisits}
use Rattle.measuring.proofs.CutNames.{own_points, split_listed}
use Rattle.measuring.proofs.GraphWithinLimits.{some_capacity}
use Rattle.measuring.proofs.RunCut.{capacities_some, nodes_up}
use Rattle.measuring.proofs.Splits.{all_weaker}

or_later : (a b : Bool) → b ≡ true → (a || b) ≡ true
or_later true b later = refl
or_later false b later = later

-- what holds of each point that is named holds of each point
each_named : (P : Point → Type 0) (points : List Point) →
    ((q : Point) → list_any (λ p. is_same p q) points ≡ true → P q) → AllByRecursion P points
each_named P [] named = tt
each_named P (point ∷ points) named = (
  named point (ap (λ b. b || list_any (λ p. is_same p point) points) (points_alike.refl point)),
  each_named P points (λ q later. named q (or_later (is_same point q) (list_any (λ p. is_same p q) points) later)),
)

-- ---- a split point is one of the graph's

found_by : (same rest : Bool) (half others : Half) → has_first (cond same half others) ≡ true →
    (has_first others ≡ true → rest ≡ true) → (same || rest) ≡ true
found_by true rest half others inside later = refl
found_by false rest half others inside later = later inside

-- a point with a half in the side is one of the graph's
has_node : (nodes : List Node) (halves : List Half) (q : Point) → has_first (halves_at nodes halves q) ≡ true →
    is_point_in nodes q ≡ true
has_node [] halves q inside = absurd (false≢true inside)
has_node (node ∷ nodes) [] q inside = absurd (false≢true inside)
has_node (node ∷ nodes) (half ∷ halves) q inside =
    found_by (is_same node.point q) (is_point_in nodes q) half (halves_at nodes halves q)
    (ap (λ b. has_first (cond b half (halves_at nodes halves q))) (points_alike.symm node.point q) ∙ inside)
    (λ later. has_node nodes halves q later)

-- what is counted at a point is at most the sum over all
in_sum : (f : Point → ℕ) (nodes : List Node) (q : Point) → is_point_in nodes q ≡ true →
    f q ≤ sum_by (λ node. f node.point) nodes
in_sum f [] q there = absurd (false≢true there)
in_sum f (node ∷ nodes) q there =
    let whole = sum_by-cons (λ (n : Node). f n.point) node nodes in
    ⊎_elim
    (λ (same : is_same node.point q ≡ true).
    let own = ap f (one_if_same node.point q same) in omega (arith, whole, own))
    (λ (other : is_same node.point q ≡ false).
    let rest = in_sum f nodes q (sym (ap (λ b. b || is_point_in nodes q) other) ∙ there) in omega (arith, whole, rest))
    (cases_Bool (is_same node.point q))

-- ---- what passes bits at a point visits it

visited_first : (b : Bool) (bits more mask : ℕ) (masks : List ℕ) → 0 < cond b bits 0 + more →
    (0 < more → 0 < length masks) → 0 < length (cond b (mask ∷ []) [] ++ masks)
visited_first true bits more mask masks some later = omega arith
visited_first false bits more mask masks some later = later (omega (arith, some))

passed_visits : (q : Point) (events : List Event) → 0 < passed events q → 0 < length (visit_masks q events)
unfolding visit_masks
passed_visits q [] some = absurd (omega (arith, some))
passed_visits q (Pass p mask ∷ events) some =
    let whole = sum_by-cons (bits_at q) (Pass p mask) events in
    visited_first (is_same q p) (bit_count mask) (passed events q) mask (visit_masks q events)
    (subst (λ b. 0 < cond b (bit_count mask) 0 + passed events q) (points_alike.symm p q) (omega (arith, some, whole)))
    (λ later. passed_visits q events later)
passed_visits q (Link source target ∷ events) some =
    passed_visits q events (let whole = sum_by-cons (bits_at q) (Link source target) events in omega (arith, some, whole))
passed_visits q (FromSecret p ∷ events) some =
    passed_visits q events (let whole = sum_by-cons (bits_at q) (FromSecret p) events in omega (arith, some, whole))
passed_visits q (Implicit p region ∷ events) some =
    passed_visits q events (let whole = sum_by-cons (bits_at q) (Implicit p region) events in omega (arith, some, whole))
passed_visits q (Out region p ∷ events) some =
    passed_visits q events (let whole = sum_by-cons (bits_at q) (Out region p) events in omega (arith, some, whole))

-- a point of a graph was visited
node_visited : (events : List Event) (graph : Graph) → IsGraphOf events graph → (q : Point) →
    is_point_in graph.points q ≡ true → 0 < length (visit_masks q events)
node_visited events graph of q there =
    passed_visits q events (let some = some_capacity graph.points q (capacities_some graph) there in
    let same = of.points q in some_bits (capacity_at graph.points q) (passed events q) some same)
  where
    some_bits : (n m : ℕ) → not (n == 0) ≡ true → n ≡ m → 0 < m
    some_bits zero m some same = absurd (false≢true some)
    some_bits (suc n) m some same = omega (arith, same)

-- so its slot is one that a turn passes
pub nodes_known : (events : List Event) (graph : Graph) → FitCuts events → IsGraphOf events graph →
    list_all has_slot graph.points ≡ true
nodes_known events graph fit of =
    all_weaker (λ m. is_point_in graph.points m.point) has_slot
    (λ m there. fit.slots m.point (node_visited events graph of m.point there)) graph.points
    (own_points graph.points graph.points (λ q own. own))

-- ---- one split point

module _ (visits : KeptVisits) (graph : Graph) (halves : List Half) (relays : List Bool) (events : List Event)
    (fit : FitCuts events) (has : HasVisits visits events) (of : IsGraphOf events graph)
    (side : IsSideOf graph halves relays) (small : side_capacity graph halves relays < 2 ^ 32) where
  within : (q : Point) → is_split (named_side graph halves relays) q ≡ true → is_point_in graph.points q ≡ true →
      passed events q < 2 ^ 32
  within q split there =
      let whole = capacity_law events graph halves relays of side in
      let part = in_sum (λ p. cond (is_split (named_side graph halves relays) p) (passed events p) 0) graph.points q
      there in
      let own = cond-true (is_split (named_side graph halves relays) q) (passed events q) 0 split in
      omega (arith, small, whole, part, own)

  few : (q : Point) → is_split (named_side graph halves relays) q ≡ true → is_point_in graph.points q ≡ true →
      length (visit_masks q events) < 2 ^ 32
  few q split there =
      ⊎_elim
      (λ (output : is_output_slot q.slot ≡ true).
      let most = fit.outputs q output in let bits = within q split there in omega (arith, most, bits))
      (λ (inner : is_output_slot q.slot ≡ false). fit.few q inner)
      (cases_Bool (is_output_slot q.slot))

  fits : (q : Point) → list_any (λ p. is_same p q) (split_points (skipped graph.relays relays) graph.points halves) ≡
      true → FitsCut visits q
  fits q named =
      let split : is_split (named_side graph halves relays) q ≡ true =
      (and_parts (is_split (named_side graph halves relays) q) (not (is_inner (skipped graph.relays relays) q))
      (sym (split_listed (skipped graph.relays relays) graph.points halves q (nodes_up graph)) ∙ named)).0 in
      let there = has_node graph.points halves q (and_parts (has_first (halves_at graph.points halves q)) _ split).0 in
      record {
        slot = fit.slots q (node_visited events graph of q there);
        few = subst (λ masks. length masks < 2 ^ 32) (sym (has q)) (few q split there);
      }

-- the events of a run fit into a cut, and so do the points that a side splits whose capacity is below 2^32
pub points_fit : (visits : KeptVisits) (graph : Graph) (halves : List Half) (relays : List Bool) (events : List Event) →
    FitCuts events → HasVisits visits events → IsGraphOf events graph → IsSideOf graph halves relays →
    side_capacity graph halves relays < 2 ^ 32 →
    AllByRecursion (FitsCut visits) (split_points (skipped graph.relays relays) graph.points halves)
points_fit visits graph halves relays events fit has of side small =
    each_named (FitsCut visits) (split_points (skipped graph.relays relays) graph.points halves)
    (fits visits graph halves relays events fit has of side small)
