-- Within the limits the side of all first halves is small, so each sum that the solver makes fits in a number.
use Rattle.std.proofs.Common.{◌≡◌, ℕ, zero, suc, ◌+◌, ◌-◌, ◌*◌, ◌%◌, ◌^◌, ◌≤◌, ◌<◌, ◌&&◌, cond}
use Rattle.std.proofs.Common.{eqb, ltb, Bool, true, false, List, [], ◌∷◌, length, map, get_or, slice_index, refl, sym}
use Rattle.std.proofs.Common.{ap, ◌∙◌, ⊎_elim, arith, length-append}
use Rattle.std.specs.List.{list_all}
use Rattle.std.proofs.lemmas.Bool.{cases_Bool, and_parts, and_from, ltb-true, eqb-true, eq-eqb}
use Rattle.std.proofs.lemmas.Bool.{lt-ltb, cond-true, cond-false}
use Rattle.std.proofs.lemmas.List.{length-map, get_or-append_right}
use Rattle.flow_graph.specs.declared.ends.Arc.{Arc}
use Rattle.flow_graph.specs.declared.ends.End.{End}
use Rattle.flow_graph.specs.declared.ends.End.TheVariants.{Source, Point, Relay, Sink}
use Rattle.flow_graph.specs.declared.graphs.Graph.{Graph}
use Rattle.flow_graph.specs.Graphs.{is_origin, is_target, is_link, leads_on}
use Rattle.max_flow.specs.Private.Networks.{capacity_of, leaves, sum_below}
use Rattle.max_flow.specs.Private.Rooms.{HasSmallSide}
use Rattle.max_flow.specs.Private.GraphNetworks.{halves_from, network_of}
use Rattle.max_flow.specs.Building.{tail_of, head_of}
use Rattle.max_flow.specs.Flows.{is_small, IsWithinLimits}
use Rattle.max_flow.proofs.Graphs.{length_halves, all_map}

-- the source and the first halves, where there are so many points
is_first : ℕ → ℕ → Bool
is_first count v = eqb (v % 2) 0 && ltb v (2 + 2 * count)

sum_bound : (n m : ℕ) (f : ℕ → ℕ) → ((i : ℕ) → i < n → f i ≤ m) → sum_below n f ≤ n * m
unfolding sum_below
sum_bound zero m f h = omega arith
sum_bound (suc n) m f h =
    let earlier : sum_below n f ≤ n * m = sum_bound n m f (λ i below. h i (omega arith)) in
    let here : f n ≤ m = h n (omega arith) in
    let e : suc n * m ≡ n * m + m = grind arith in
    omega (arith, earlier, here, e)

-- what holds of both ends of each link holds at each place of the two lists
all_pairs : (Q : ℕ → ℕ → Type 0) (f g : Arc → ℕ) (test : Arc → Bool) →
    ((link : Arc) → test link ≡ true → Q (f link) (g link)) →
    (links : List Arc) → list_all test links ≡ true → (i : ℕ) → i < length links → Q (get_or (map f links) i 0)
    (get_or (map g links) i 0)
all_pairs Q f g test h [] all i below = absurd (omega arith)
all_pairs Q f g test h (link ∷ links) all zero below = h link (and_parts (test link) (list_all test links) all).0
all_pairs Q f g test h (link ∷ links) all (suc i) below =
    all_pairs Q f g test h links (and_parts (test link) (list_all test links) all).1 i (omega arith)

-- a link from the source leads to a first half, and no other link leaves this set
first_link : (count : ℕ) (relays : List ℕ) (source target : End) → is_origin count relays source ≡ true →
    is_target count relays target ≡ true →
    leads_on source target ≡ true → is_first count (tail_of count source) ≡ true → is_first count
    (head_of count target) ≡ true
unfolding is_first
first_link count relays Source (Point i) from to on first =
    let below : i < count = ltb-true i count to in
    and_from (eqb ((2 + 2 * i) % 2) 0) (ltb (2 + 2 * i) (2 + 2 * count)) (eq-eqb ((2 + 2 * i) % 2) 0 (omega arith))
    (lt-ltb (2 + 2 * i) (2 + 2 * count) (omega arith))
first_link count relays Source Source from to on first = absurd (cc)
first_link count relays Source (Relay r) from to on first = absurd (cc)
first_link count relays Source Sink from to on first = absurd (cc)
first_link count relays (Point i) target from to on first =
    let even : (3 + 2 * i) % 2 ≡ 0 = eqb-true ((3 + 2 * i) % 2) 0 (and_parts _ _ first).0 in absurd (omega arith)
first_link count relays (Relay r) target from to on first =
    let below : 2 + 2 * count + r < 2 + 2 * count = ltb-true (2 + 2 * count + r) (2 + 2 * count)
    (and_parts _ _ first).1 in absurd (omega arith)
first_link count relays Sink target from to on first = absurd (cc)

first_closed : (graph : Graph) (i : ℕ) → length (network_of graph).limits ≤ i → i < length (network_of graph).tails →
    is_first (length graph.points) (slice_index (network_of graph).tails i) ≡ true → is_first (length graph.points)
    (slice_index (network_of graph).heads i) ≡ true
first_closed graph i from below =
    let limits : length (network_of graph).limits ≡ length graph.points = length-map graph.points
    (λ node. node.capacity) in
    let tails : length (network_of graph).tails ≡ length graph.points + length graph.links =
    length-append (halves_from 2 (length graph.points)) _ ∙ omega (
      arith,
      length_halves 2 (length graph.points),
      length-map graph.links (λ link. tail_of (length graph.points) link.source),
    ) in
    let t : slice_index (network_of graph).tails i ≡ get_or (map (λ link. tail_of (length graph.points) link.source)
    graph.links) (i - length graph.points) 0 =
    get_or-append_right (halves_from 2 (length graph.points)) _ (length graph.points) i 0
    (length_halves 2 (length graph.points)) (omega (arith, limits, from)) in
    let h : slice_index (network_of graph).heads i ≡ get_or (map (λ link. head_of (length graph.points) link.target)
    graph.links) (i - length graph.points) 0 =
    get_or-append_right (halves_from 3 (length graph.points)) _ (length graph.points) i 0
    (length_halves 3 (length graph.points)) (omega (arith, limits, from)) in
    let pair = all_pairs (λ a b. is_first (length graph.points) a ≡ true → is_first (length graph.points) b ≡ true)
    (λ link. tail_of (length graph.points) link.source) (λ link. head_of (length graph.points) link.target)
    (is_link (length graph.points) graph.relays)
    (λ link is. first_link (length graph.points) graph.relays link.source link.target (and_parts _ _ is).0
    (and_parts _ _ (and_parts _ _ is).1).0 (and_parts _ _ (and_parts _ _ is).1).1)
    graph.links graph.links_are_valid (i - length graph.points) (omega (arith, limits, tails, from, below)) in
    λ first. ap (is_first (length graph.points)) h ∙ pair (sym (ap (is_first (length graph.points)) t) ∙ first)

pub small_side : (graph : Graph) → IsWithinLimits graph → HasSmallSide (network_of graph)
unfolding is_first capacity_of
small_side graph within =
    let limits : length (network_of graph).limits ≡ length graph.points = length-map graph.points
    (λ node. node.capacity) in
    let few : length graph.points ≤ 65536 = within.points in
    let each : (i : ℕ) → i < length (network_of graph).limits →
    cond (leaves (network_of graph) (is_first (length graph.points)) i) (slice_index (network_of graph).limits i)
    0 ≤ 2 ^ 48 - 1 =
    λ i below.
    let small : slice_index (network_of graph).limits i < 2 ^ 48 =
    all_map (λ n. n < 2 ^ 48) (λ node. node.capacity) is_small (λ node is. ltb-true node.capacity (2 ^ 48) is)
    graph.points within.capacities i (omega (arith, limits, below)) in
    ⊎_elim
    (λ (e : leaves (network_of graph) (is_first (length graph.points)) i ≡ true). let c =
    cond-true (leaves (network_of graph) (is_first (length graph.points)) i)
    (slice_index (network_of graph).limits i) 0 e in omega (arith, c, small))
    (λ (e : leaves (network_of graph) (is_first (length graph.points)) i ≡ false). let c =
    cond-false (leaves (network_of graph) (is_first (length graph.points)) i)
    (slice_index (network_of graph).limits i) 0 e in omega (arith, c))
    (cases_Bool (leaves (network_of graph) (is_first (length graph.points)) i)) in
    let all : sum_below (length (network_of graph).limits)
    (λ i. cond (leaves (network_of graph) (is_first (length graph.points)) i)
    (slice_index (network_of graph).limits i) 0) ≤ length (network_of graph).limits * (2 ^ 48 - 1) =
    sum_bound (length (network_of graph).limits) (2 ^ 48 - 1)
    (λ i. cond (leaves (network_of graph) (is_first (length graph.points)) i)
    (slice_index (network_of graph).limits i) 0) each in
    record {
      first = is_first (length graph.points);
      is_side = record {
        source = lt-ltb 0 (2 + 2 * length graph.points) (omega arith);
        sink = refl;
        closed = first_closed graph;
      };
      small = omega (arith, all, limits, few);
    }
