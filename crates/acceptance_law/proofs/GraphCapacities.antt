-- The capacity of a side is the sum of the bits that pass its split points.
use Rattle.std.proofs.Common.{◌≡◌, ℕ, zero, suc, ◌+◌, ◌≤◌, ◌<◌, ◌&&◌, ◌∷◌, [], cond, not}
use Rattle.std.proofs.Common.{Bool, true, false, List, length, map, get_or, sym, ap, ◌∙◌, arith, inl, inr}
use Rattle.std.proofs.Common.{refl}
use Rattle.std.specs.List.{sum_by}
use Rattle.std.specs.List.Sorted.{IsStrictlySortedBy}
use Rattle.std.proofs.lemmas.Bool.{and_parts, cases_Bool, cond-true, cond-false}
use Rattle.std.proofs.lemmas.List.{length-map}
use Rattle.std.proofs.lemmas.List.Sums.{sum_by-cons}
use Rattle.flow_base.specs.declared.points.Point.{Point}
use Rattle.flow_base.specs.Words.{bit_count}
use Rattle.flow_graph.specs.declared.events.Event.{Event}
use Rattle.flow_graph.specs.declared.events.Event.TheVariants.{Pass, Link, FromSecret, Implicit, Out}
use Rattle.flow_graph.specs.declared.graphs.Graph.{Graph}
use Rattle.flow_graph.specs.declared.nodes.Node.{Node}
use Rattle.flow_graph.specs.EventGraphs.{bits_at, passed, capacity_at, IsGraphOf}
use Rattle.flow_base.specs.PointOrders.{point_cmp, is_same}
use Rattle.flow_base.proofs.PointOrders.{is_equal}
use Rattle.max_flow.specs.declared.answers.Half.{Half}
use Rattle.max_flow.specs.declared.answers.Half.TheVariants.{Neither}
use Rattle.max_flow.specs.Flows.{IsSideOf, capacities, has_first, has_second, is_cut, side_capacity}
use Rattle.max_flow.specs.Private.Networks.{sum_below}
use Rattle.max_flow.proofs.NamedFlows.{sum_first, where_places}
use Rattle.max_flow.proofs.Sums.{sum_same, sum_add, sum_item}
use Rattle.acceptance_law.specs.Sides.{NamedSide, halves_at, named_side, is_split}
use Rattle.acceptance_law.specs.GraphLaws.{split_bits, CapacityLaw}
use Rattle.acceptance_law.proofs.GraphEvents.{same_itself}
use Rattle.acceptance_law.proofs.GraphSides.{points_of, graph_sorted, half_named, name_later, less_apart, halves_alike}
use Rattle.flow_base.specs.Points.{nowhere}

-- the name of the point with an index
abbrev pub name_at : Graph → ℕ → Point
name_at graph i = get_or (points_of graph.points) i nowhere

-- ---- the capacity of a point

capacity_is_at : (nodes : List Node) (i : ℕ) → IsStrictlySortedBy point_cmp (points_of nodes) → i < length nodes →
    capacity_at nodes (get_or (points_of nodes) i nowhere) ≡ get_or (map (λ node. node.capacity) nodes) i 0
unfolding IsStrictlySortedBy
capacity_is_at [] i sorted below = absurd (omega arith)
capacity_is_at (node ∷ nodes) zero sorted below =
    cond-true (is_same node.point node.point) node.capacity (capacity_at nodes node.point) (same_itself node.point)
capacity_is_at (node ∷ nodes) (suc i) sorted below =
    let point = get_or (points_of nodes) i nowhere in
    cond-false (is_same point node.point) node.capacity (capacity_at nodes point)
    (less_apart point node.point (name_later node.point (points_of nodes) i sorted.0
    (let c : length (points_of nodes) ≡ length nodes = length-map nodes (λ n. n.point) in omega (arith, c))))
    ∙ capacity_is_at nodes i sorted.1 (omega arith)

-- ---- the capacity of a side

abbrev pub split_at : Graph → NamedSide → List Event → ℕ → ℕ
split_at graph side events i = cond (is_split side (name_at graph i)) (passed events (name_at graph i)) 0

pub sum_of_side_capacity : (events : List Event) (graph : Graph) (halves : List Half) (relays : List Bool) →
    IsGraphOf events graph → IsSideOf graph halves relays →
    side_capacity graph halves relays
    ≡ sum_below (length graph.points) (split_at graph (named_side graph halves relays) events)
sum_of_side_capacity events graph halves relays is side =
    let same : length halves ≡ length graph.points = side.points_count in
    sym (where_places is_cut halves (capacities graph) Neither
    (length-map graph.points (λ node. node.capacity) ∙ sym same))
    ∙ (ap (λ n. sum_below n (λ i. cond (is_cut (get_or halves i Neither)) (get_or (capacities graph) i 0) 0)) same
    ∙ sum_same (length graph.points)
    (λ i. cond (is_cut (get_or halves i Neither)) (get_or (capacities graph) i 0) 0)
    (split_at graph (named_side graph halves relays) events)
    (λ i below.
    ap (λ h. cond (is_cut h) (get_or (capacities graph) i 0) 0)
    (half_named graph.points halves i (graph_sorted graph) below same)
    ∙ ap (λ n. cond (is_split (named_side graph halves relays) (name_at graph i)) n 0)
    (sym (capacity_is_at graph.points i (graph_sorted graph) below) ∙ is.points (name_at graph i))))

-- the same over the list of the points
sum_listed : (f : Point → ℕ) (nodes : List Node) →
    sum_below (length nodes) (λ i. f (get_or (points_of nodes) i nowhere)) ≡ sum_by (λ node. f node.point) nodes
unfolding sum_below
sum_listed f [] = refl
sum_listed f (node ∷ nodes) =
    let first = sum_first (length nodes) (λ i. f (get_or (points_of (node ∷ nodes)) i nowhere)) in
    let rest = sum_listed f nodes in
    let all = sum_by-cons (λ (n : Node). f n.point) node nodes in
    first ∙ ap (λ n. f node.point + n) rest ∙ sym all

pub capacity_law : CapacityLaw
capacity_law events graph halves relays is side =
    sum_of_side_capacity events graph halves relays is side
    ∙ sum_listed (λ point. cond (is_split (named_side graph halves relays) point) (passed events point) 0) graph.points

-- ---- one event

pub split_more : (graph : Graph) (side : NamedSide) (event : Event) (events : List Event) (i : ℕ) →
    split_at graph side (event ∷ events) i
    ≡ cond (is_split side (name_at graph i)) (bits_at (name_at graph i) event) 0 + split_at graph side events i
split_more graph side event events i =
    both (is_split side (name_at graph i)) (bits_at (name_at graph i) event) (passed events (name_at graph i))
    (passed (event ∷ events) (name_at graph i)) (sum_by-cons (bits_at (name_at graph i)) event events)
  where
    both : (b : Bool) (m n k : ℕ) → k ≡ m + n → cond b k 0 ≡ cond b m 0 + cond b n 0
    both true m n k e = e
    both false m n k e = omega arith

-- a point with a half in the side is one of the graph's
found_half : (nodes : List Node) (halves : List Half) (point : Point) →
    has_first (halves_at nodes halves point) ≡ true →
    (i : ℕ) × ((i < length nodes) × (is_same point (get_or (points_of nodes) i nowhere) ≡ true))
found_half [] halves point inside = absurd (cc)
found_half (node ∷ nodes) [] point inside = absurd (cc)
found_half (node ∷ nodes) (half ∷ halves) point inside = elim (cases_Bool (is_same point node.point)) [
  | inl same ↦ (0, (omega arith, same))
  | inr other ↦
      let later = found_half nodes halves point
      (ap has_first (sym (cond-false (is_same point node.point) half (halves_at nodes halves point) other)) ∙ inside) in
      (suc later.0, (let below : later.0 < length nodes = later.1.0 in omega (arith, below), later.1.1))
]

split_alike : (graph : Graph) (halves : List Half) (relays : List Bool) (p q : Point) → is_same p q ≡ true →
    is_split (named_side graph halves relays) p ≡ is_split (named_side graph halves relays) q
split_alike graph halves relays p q same =
    let alike = halves_alike p q (is_equal (point_cmp p q) same) graph.points halves in
    ap (λ half. has_first half && not (has_second half)) alike

event_within : (graph : Graph) (halves : List Half) (relays : List Bool) (event : Event) →
    split_bits (named_side graph halves relays) event
    ≤ sum_below (length graph.points) (λ i. cond (is_split (named_side graph halves relays) (name_at graph i))
    (bits_at (name_at graph i) event) 0)
event_within graph halves relays (Pass point mask) =
    elim (cases_Bool (is_split (named_side graph halves relays) point)) [
      | inl split ↦
          let found = found_half graph.points halves point (and_parts _ _ split).0 in
          let here : cond (is_split (named_side graph halves relays) point) (bit_count mask) 0 ≡ bit_count mask =
          cond-true (is_split (named_side graph halves relays) point) (bit_count mask) 0 split in
          let there : cond (is_split (named_side graph halves relays) (name_at graph found.0))
          (cond (is_same point (name_at graph found.0)) (bit_count mask) 0) 0 ≡ bit_count mask =
          cond-true (is_split (named_side graph halves relays) (name_at graph found.0))
          (cond (is_same point (name_at graph found.0)) (bit_count mask) 0) 0
          (sym (split_alike graph halves relays point (name_at graph found.0) found.1.1) ∙ split)
          ∙ cond-true (is_same point (name_at graph found.0)) (bit_count mask) 0 found.1.1 in
          let item = sum_item (length graph.points)
          (λ i. cond (is_split (named_side graph halves relays) (name_at graph i))
          (bits_at (name_at graph i) (Pass point mask)) 0) found.0 found.1.0 in
          omega (arith, here, there, item)
      | inr whole ↦
          let none : cond (is_split (named_side graph halves relays) point) (bit_count mask) 0 ≡ 0 =
          cond-false (is_split (named_side graph halves relays) point) (bit_count mask) 0 whole in
          omega (arith, none)
    ]
event_within graph halves relays (Link source target) = omega arith
event_within graph halves relays (FromSecret point) = omega arith
event_within graph halves relays (Implicit point region) = omega arith
event_within graph halves relays (Out region point) = omega arith

-- ---- all events

split_within : (graph : Graph) (halves : List Half) (relays : List Bool) (events : List Event) →
    sum_by (split_bits (named_side graph halves relays)) events
    ≤ sum_below (length graph.points) (split_at graph (named_side graph halves relays) events)
split_within graph halves relays [] = omega arith
split_within graph halves relays (event ∷ events) =
    let all : sum_by (split_bits (named_side graph halves relays)) (event ∷ events)
    ≡ split_bits (named_side graph halves relays) event + sum_by (split_bits (named_side graph halves relays)) events =
    sum_by-cons (split_bits (named_side graph halves relays)) event events in
    let one = event_within graph halves relays event in
    let rest = split_within graph halves relays events in
    let sums : sum_below (length graph.points) (split_at graph (named_side graph halves relays) (event ∷ events))
    ≡ sum_below (length graph.points) (λ i. cond (is_split (named_side graph halves relays) (name_at graph i))
    (bits_at (name_at graph i) event) 0)
    + sum_below (length graph.points) (split_at graph (named_side graph halves relays) events) =
    sum_same (length graph.points) (split_at graph (named_side graph halves relays) (event ∷ events))
    (λ i. cond (is_split (named_side graph halves relays) (name_at graph i)) (bits_at (name_at graph i) event) 0
    + split_at graph (named_side graph halves relays) events i)
    (λ i below. split_more graph (named_side graph halves relays) event events i)
    ∙ sum_add (length graph.points)
    (λ i. cond (is_split (named_side graph halves relays) (name_at graph i)) (bits_at (name_at graph i) event) 0)
    (split_at graph (named_side graph halves relays) events) in
    omega (arith, all, one, rest, sums)

pub split_bits_within : (events : List Event) (graph : Graph) (halves : List Half) (relays : List Bool) →
    IsGraphOf events graph → IsSideOf graph halves relays →
    sum_by (split_bits (named_side graph halves relays)) events ≤ side_capacity graph halves relays
split_bits_within events graph halves relays is side =
    let whole = sum_of_side_capacity events graph halves relays is side in
    let part = split_within graph halves relays events in
    omega (arith, whole, part)
