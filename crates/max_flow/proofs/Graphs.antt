-- The network of a graph is one: its edges join nodes that there are, and none enters the source.
use Rattle.std.proofs.Common.{◌≡◌, ◌≢◌, ℕ, zero, suc, ◌+◌, ◌-◌, ◌*◌, ◌^◌, ◌≤◌, ◌<◌, ◌++◌, ◌∷◌, [], Bool, true}
use Rattle.std.proofs.Common.{List, length, map, get_or, take, slice_index, refl, sym, ◌∙◌, subst, ⊎_elim}
use Rattle.std.proofs.Common.{arith, length-append, add-one, append_assoc, ap}
use Rattle.std.specs.List.{list_all}
use Rattle.std.proofs.lemmas.Bool.{cases_lt, cases_eq, and_parts, ltb-true}
use Rattle.std.proofs.lemmas.List.{length-map, get_or_append_left, get_or-append_right, get_or_push, length_push, take_more, map-append, get_or-map}
use Rattle.flow_graph.specs.declared.ends.Arc.{Arc}
use Rattle.flow_graph.specs.declared.ends.End.{End}
use Rattle.flow_graph.specs.declared.ends.End.TheVariants.{Source, Point, Relay, Sink}
use Rattle.flow_graph.specs.declared.graphs.Graph.{Graph}
use Rattle.flow_graph.specs.Graphs.{is_origin, is_target, is_link}
use Rattle.max_flow.specs.Private.Networks.{IsNet}
use Rattle.max_flow.specs.Private.Rooms.{AreFew}
use Rattle.max_flow.specs.Private.GraphNetworks.{halves_from, network_of}
use Rattle.max_flow.specs.Building.{tail_of, head_of}

pub length_halves : (start n : ℕ) → length (halves_from start n) ≡ n
unfolding halves_from
length_halves start zero = refl
length_halves start (suc n) =
    let earlier : length (halves_from start n) ≡ n = length_halves start n in
    length_push (halves_from start n) (start + 2 * n) ∙ omega arith

pub halves_more : (start n : ℕ) → halves_from start (n + 1) ≡ halves_from start n ++ (start + 2 * n) ∷ []
unfolding halves_from
halves_more start n = rw add-one refl

pub half_at : (start n k : ℕ) → k < n → get_or (halves_from start n) k 0 ≡ start + 2 * k
unfolding halves_from
half_at start zero k below = absurd (omega arith)
half_at start (suc n) k below =
    let count : length (halves_from start n) ≡ n = length_halves start n in
    ⊎_elim
    (λ (e : k ≡ n). rw e (get_or_push (halves_from start n) (start + 2 * n) 0 n count))
    (λ (ne : k ≢ n). get_or_append_left (halves_from start n) ((start + 2 * n) ∷ []) 0 k (omega arith) ∙
    half_at start n k (omega arith))
    (cases_eq k n)

-- one item more, put at the end of a list to which the first items of another were put by a function
pub map_more : {X : Type 0} (f : X → ℕ) (xs : List X) (before now later : List ℕ) (i : ℕ) (d : X) → i < length xs →
    now ≡ before ++ map f (take i xs) → later ≡ now ++ f (get_or xs i d) ∷ [] → later ≡ before ++ map f (take (i + 1) xs)
map_more f xs before now later i d below so put =
    rw (take_more xs i d below, map-append) (put ∙ (ap (λ n. n ++ f (get_or xs i d) ∷ []) so ∙ append_assoc before (map f (take i xs)) (f (get_or xs i d) ∷ [])))

-- what holds of each end holds of each number in the list of ends
pub all_map : {X : Type 0} (P : ℕ → Type 0) (f : X → ℕ) (test : X → Bool) →
    ((link : X) → test link ≡ true → P (f link)) →
    (links : List X) → list_all test links ≡ true → (i : ℕ) → i < length links → P (get_or (map f links) i 0)
all_map P f test h [] all i below = absurd (omega arith)
all_map P f test h (link ∷ links) all zero below = h link (and_parts (test link) (list_all test links) all).0
all_map P f test h (link ∷ links) all (suc i) below =
    all_map P f test h links (and_parts (test link) (list_all test links) all).1 i (omega arith)

pub ends_hold : (P : ℕ → Type 0) (start n : ℕ) (f : Arc → ℕ) (test : Arc → Bool) (links : List Arc) →
    ((k : ℕ) → k < n → P (start + 2 * k)) → ((link : Arc) → test link ≡ true → P (f link)) → list_all test links ≡
    true →
    (i : ℕ) → i < length (halves_from start n ++ map f links) → P (slice_index (halves_from start n ++ map f links) i)
ends_hold P start n f test links first others all i below =
    let count : length (halves_from start n) ≡ n = length_halves start n in
    let both : length (halves_from start n ++ map f links) ≡ length (halves_from start n) + length (map f links) =
    length-append (halves_from start n) (map f links) in
    let mapped : length (map f links) ≡ length links = length-map links f in
    ⊎_elim
    (λ (half : i < n).
    let e : get_or (halves_from start n ++ map f links) i 0 ≡ start + 2 * i =
    get_or_append_left (halves_from start n) (map f links) 0 i (omega arith) ∙ half_at start n i half in
    subst P (sym e) (first i half))
    (λ (link : n ≤ i).
    let e : get_or (halves_from start n ++ map f links) i 0 ≡ get_or (map f links) (i - n) 0 =
    get_or-append_right (halves_from start n) (map f links) n i 0 count link in
    subst P (sym e) (all_map P f test others links all (i - n) (omega arith)))
    (cases_lt i n)

tail_inside : (count : ℕ) (relays : List ℕ) (end : End) → is_origin count relays end ≡ true → tail_of count end < 2 +
    2 * count + 65536
tail_inside count relays Source is = omega arith
tail_inside count relays (Point i) is = let below : i < count = ltb-true i count is in omega arith
tail_inside count relays (Relay r) is = let below : r < 65536 = ltb-true r 65536 (and_parts _ _ is).0 in omega arith
tail_inside count relays Sink is = omega arith

head_inside : (count : ℕ) (relays : List ℕ) (end : End) → is_target count relays end ≡ true →
    (head_of count end < 2 + 2 * count + 65536) × (0 < head_of count end)
head_inside count relays Source is = absurd (cc)
head_inside count relays (Point i) is = let below : i < count = ltb-true i count is in (omega arith, omega arith)
head_inside count relays (Relay r) is = let below : r < 65536 = ltb-true r 65536 (and_parts _ _ is).0 in
    (omega arith, omega arith)
head_inside count relays Sink is = (omega arith, omega arith)

-- one of the numbers that fit in 32 bits
pub few_at : {X : Type 0} (f : X → ℕ) (xs : List X) (i : ℕ) (d : X) (n : ℕ) → i < length xs → AreFew (map f xs) →
    n ≡ f (get_or xs i d) → n < 2 ^ 32
few_at f xs i d n below few is =
    let count : length (map f xs) ≡ length xs = length-map xs f in
    let each : slice_index (map f xs) i < 2 ^ 32 = few i (omega (arith, count, below)) in
    let same : slice_index (map f xs) i ≡ f (get_or xs i d) = get_or-map f xs i d 0 below in
    omega (arith, each, same, is)

pub tails_few : (graph : Graph) → length graph.points ≤ 65536 →
    AreFew (map (λ link. tail_of (length graph.points) link.source) graph.links)
tails_few graph few i below =
    let count : length (map (λ link. tail_of (length graph.points) link.source) graph.links) ≡ length graph.links =
    length-map graph.links (λ link. tail_of (length graph.points) link.source) in
    all_map (λ v. v < 2 ^ 32) (λ link. tail_of (length graph.points) link.source)
    (is_link (length graph.points) graph.relays)
    (λ link is. let inside : tail_of (length graph.points) link.source < 2 + 2 * length graph.points + 65536 =
    tail_inside (length graph.points) graph.relays link.source (and_parts _ _ is).0 in omega (arith, inside, few))
    graph.links graph.links_are_valid i (omega (arith, count, below))

pub heads_few : (graph : Graph) → length graph.points ≤ 65536 →
    AreFew (map (λ link. head_of (length graph.points) link.target) graph.links)
heads_few graph few i below =
    let count : length (map (λ link. head_of (length graph.points) link.target) graph.links) ≡ length graph.links =
    length-map graph.links (λ link. head_of (length graph.points) link.target) in
    all_map (λ v. v < 2 ^ 32) (λ link. head_of (length graph.points) link.target)
    (is_link (length graph.points) graph.relays)
    (λ link is. let inside : head_of (length graph.points) link.target < 2 + 2 * length graph.points + 65536 =
    (head_inside (length graph.points) graph.relays link.target (and_parts _ _ (and_parts _ _ is).1).0).0 in
    omega (arith, inside, few))
    graph.links graph.links_are_valid i (omega (arith, count, below))

pub edges_count : (graph : Graph) → length (network_of graph).tails ≡ length graph.points + length graph.links
edges_count graph =
    length-append (halves_from 2 (length graph.points)) _
    ∙ omega (
      arith,
      length_halves 2 (length graph.points),
      length-map graph.links
          (λ link. tail_of (length graph.points) link.source),
    )

pub graph_net : (graph : Graph) → IsNet (network_of graph)
graph_net graph =
    let count : ℕ = length graph.points in
    let tails : length (network_of graph).tails ≡ length graph.points + length graph.links =
    length-append (halves_from 2 (length graph.points)) _ ∙ omega (
      arith,
      length_halves 2 (length graph.points),
      length-map graph.links (λ link. tail_of (length graph.points) link.source),
    ) in
    let heads : length (network_of graph).heads ≡ length graph.points + length graph.links =
    length-append (halves_from 3 (length graph.points)) _ ∙ omega (
      arith,
      length_halves 3 (length graph.points),
      length-map graph.links (λ link. head_of (length graph.points) link.target),
    ) in
    let limits : length (network_of graph).limits ≡ length graph.points = length-map graph.points
    (λ node. node.capacity) in
    record {
      same = heads ∙ sym tails;
      limited = omega (arith, tails, limits);
      some = omega arith;
      tails_inside = ends_hold (λ v. v < 2 + 2 * length graph.points + 65536) 2 (length graph.points)
          (λ link. tail_of (length graph.points) link.source)
          (is_link (length graph.points) graph.relays) graph.links
          (λ k below. omega arith)
          (λ link is. tail_inside (length graph.points) graph.relays link.source (and_parts _ _ is).0)
          graph.links_are_valid;
      heads_inside = λ i below. ends_hold (λ v. v < 2 + 2 * length graph.points + 65536) 3 (length graph.points)
          (λ link. head_of (length graph.points) link.target)
          (is_link (length graph.points) graph.relays) graph.links
          (λ k inside. omega arith)
          (λ link is. (head_inside (length graph.points) graph.relays link.target
          (and_parts _ _ (and_parts _ _ is).1).0).0)
          graph.links_are_valid i (omega (arith, tails, heads));
      not_into_source = λ i below. ends_hold (λ v. v ≢ 0) 3 (length graph.points)
          (λ link. head_of (length graph.points) link.target)
          (is_link (length graph.points) graph.relays) graph.links
          (λ k inside. λ e. omega arith)
          (λ link is. let some : 0 < head_of (length graph.points) link.target =
          (head_inside (length graph.points) graph.relays link.target (and_parts _ _ (and_parts _ _ is).1).0).1 in
          λ e. omega arith)
          graph.links_are_valid i (omega (arith, tails, heads));
    }
