-- A flow of a graph is one of its network: what flows into and out of an end, by its name, is what flows into and out of
-- its nodes, by their numbers.
use Rattle.std.proofs.Common.{◌≡◌, ◌≢◌, ℕ, zero, suc, ◌+◌, ◌-◌, ◌*◌, ◌/◌, ◌≤◌, ◌<◌, ◌++◌, ◌∷◌, [], ◌⊎◌, cond, eqb, Bool}
use Rattle.std.proofs.Common.{true, inl, inr, List, length, map, get_or, slice_index, refl, sym, ap, ◌∙◌, ⊎_elim, arith}
use Rattle.std.proofs.Common.{length-append}
use Rattle.std.specs.List.{list_all}
use Rattle.std.proofs.lemmas.Bool.{cases_lt, cases_eq, and_parts, ltb-true, ne_eqb, eq-eqb, cond-true, cond-false}
use Rattle.std.proofs.lemmas.List.{length-map, get_or_append_left}
use Rattle.flow_graph.specs.declared.ends.Arc.{Arc}
use Rattle.flow_graph.specs.declared.ends.End.{End}
use Rattle.flow_graph.specs.declared.ends.End.TheVariants.{Source, Point, Relay, Sink}
use Rattle.flow_graph.specs.declared.graphs.Graph.{Graph}
use Rattle.flow_graph.specs.Graphs.{is_origin, is_target, is_link}
use Rattle.max_flow.specs.Flows.{IsFlowOf, at_point, at_relay, at_source, flow_into, flow_out, flow_value, sum_where}
use Rattle.max_flow.specs.Building.{tail_of, head_of}
use Rattle.max_flow.specs.Private.GraphNetworks.{halves_from, network_of}
use Rattle.max_flow.specs.Private.Networks.{IsFlow, at_node, source_flow, sum_below}
use Rattle.max_flow.proofs.Graphs.{all_map, edges_count, graph_net, half_at, length_halves}
use Rattle.max_flow.proofs.Sums.{sum_zero, sum_changed}

-- ---- sums

-- the first item apart
pub sum_first : (n : ℕ) (f : ℕ → ℕ) → sum_below (suc n) f ≡ f 0 + sum_below n (λ i. f (suc i))
unfolding sum_below
sum_first zero f = omega arith
sum_first (suc n) f =
    let earlier : sum_below (suc n) f ≡ f 0 + sum_below n (λ i. f (suc i)) = sum_first n f in
    omega (arith, earlier)

-- where only the item k is not 0
pub sum_single : (n : ℕ) (f : ℕ → ℕ) (k : ℕ) → k < n → ((i : ℕ) → i < n → i ≢ k → f i ≡ 0) → sum_below n f ≡ f k
sum_single n f k below h =
    let changed : sum_below n f + 0 ≡ sum_below n (λ i. 0) + f k = sum_changed n f (λ i. 0) k below h in
    let none : sum_below n (λ i. 0) ≡ 0 = sum_zero n (λ i. 0) (λ i under. refl) in
    omega (arith, changed, none)

-- the sum of the numbers whose items pass, place by place
pub where_places : {A : Type 0} (test : A → Bool) (items : List A) (numbers : List ℕ) (d : A) → length numbers ≡
    length items →
    sum_below (length items) (λ i. cond (test (get_or items i d)) (get_or numbers i 0) 0) ≡ sum_where test items numbers
unfolding sum_below
where_places test [] numbers d same = refl
where_places test (item ∷ items) [] d same = absurd (omega (arith, same))
where_places test (item ∷ items) (number ∷ numbers) d same =
    sum_first (length items) (λ i. cond (test (get_or (item ∷ items) i d)) (get_or (number ∷ numbers) i 0) 0)
    ∙ ap (λ n. cond (test item) number 0 + n) (where_places test items numbers d (omega (arith, same)))

-- ---- what the edges bring to a node

at_cons : (key : ℕ) (keys : List ℕ) (number : ℕ) (numbers : List ℕ) (v : ℕ) →
    at_node (key ∷ keys) (number ∷ numbers) v ≡ cond (eqb key v) number 0 + at_node keys numbers v
unfolding at_node
at_cons key keys number numbers v =
    sum_first (length keys) (λ i. cond (eqb (get_or (key ∷ keys) i 0) v) (get_or (number ∷ numbers) i 0) 0)

pub at_none : (keys numbers : List ℕ) (v : ℕ) → ((i : ℕ) → i < length keys → slice_index keys i ≢ v) →
    at_node keys numbers v ≡ 0
unfolding at_node
at_none keys numbers v other =
    sum_zero (length keys) (λ i. cond (eqb (slice_index keys i) v) (slice_index numbers i) 0)
    (λ i below. cond-false (eqb (slice_index keys i) v) (slice_index numbers i) 0
    (ne_eqb (slice_index keys i) v (other i below)))

pub at_append : (keys more numbers others : List ℕ) (v : ℕ) → length numbers ≡ length keys →
    at_node (keys ++ more) (numbers ++ others) v ≡ at_node keys numbers v + at_node more others v
at_append [] more [] others v same =
    let none : at_node [] [] v ≡ 0 = at_none [] [] v (λ i below e. omega (arith, below)) in
    let rest : at_node ([] ++ more) ([] ++ others) v ≡ at_node more others v = refl in
    omega (arith, none, rest)
at_append [] more (number ∷ numbers) others v same = absurd (omega (arith, same))
at_append (key ∷ keys) more [] others v same = absurd (omega (arith, same))
at_append (key ∷ keys) more (number ∷ numbers) others v same =
    let longer : at_node (key ∷ (keys ++ more)) (number ∷ (numbers ++ others)) v ≡ cond (eqb key v) number 0 +
    at_node (keys ++ more) (numbers ++ others) v = at_cons key (keys ++ more) number (numbers ++ others) v in
    let shorter : at_node (key ∷ keys) (number ∷ numbers) v ≡ cond (eqb key v) number 0 + at_node keys numbers v =
    at_cons key keys number numbers v in
    let rest : at_node (keys ++ more) (numbers ++ others) v ≡ at_node keys numbers v + at_node more others v =
    at_append keys more numbers others v (omega (arith, same)) in
    omega (arith, longer, shorter, rest)

-- over links that are valid
pub at_named : (key : Arc → ℕ) (test valid : Arc → Bool) (v : ℕ) →
    ((link : Arc) → valid link ≡ true → eqb (key link) v ≡ test link) → (links : List Arc) (numbers : List ℕ) →
    length numbers ≡ length links → list_all valid links ≡ true →
    at_node (map key links) numbers v ≡ sum_where test links numbers
unfolding at_node sum_below
at_named key test valid v h [] numbers same all = refl
at_named key test valid v h (link ∷ links) [] same all = absurd (omega (arith, same))
at_named key test valid v h (link ∷ links) (number ∷ numbers) same all =
    let parts = and_parts (valid link) (list_all valid links) all in
    at_cons (key link) (map key links) number numbers v
    ∙ (ap (λ b. cond b number 0 + at_node (map key links) numbers v) (h link parts.0)
    ∙ ap (λ n. cond (test link) number 0 + n) (at_named key test valid v h links numbers (omega (arith, same)) parts.1))

halves_one : (start n i v : ℕ) (numbers : List ℕ) → i < n → v ≡ start + 2 * i →
    at_node (halves_from start n) numbers v ≡ slice_index numbers i
unfolding at_node
halves_one start n i v numbers below is =
    let count : length (halves_from start n) ≡ n = length_halves start n in
    sum_single (length (halves_from start n))
    (λ k. cond (eqb (slice_index (halves_from start n) k) v) (slice_index numbers k) 0) i (omega (arith, count, below))
    (λ k under ne. cond-false (eqb (slice_index (halves_from start n) k) v) (slice_index numbers k) 0
    (ne_eqb (slice_index (halves_from start n) k) v
    (λ e. let at : slice_index (halves_from start n) k ≡ start + 2 * k = half_at start n k (omega (arith, count, under)) in
    ne (omega (arith, at, e, is)))))
    ∙ cond-true (eqb (slice_index (halves_from start n) i) v) (slice_index numbers i) 0
    (eq-eqb (slice_index (halves_from start n) i) v (half_at start n i below ∙ sym is))

halves_none : (start n v : ℕ) (numbers : List ℕ) → ((k : ℕ) → k < n → start + 2 * k ≢ v) →
    at_node (halves_from start n) numbers v ≡ 0
halves_none start n v numbers other =
    let count : length (halves_from start n) ≡ n = length_halves start n in
    at_none (halves_from start n) numbers v (λ k below e.
    let at : slice_index (halves_from start n) k ≡ start + 2 * k = half_at start n k (omega (arith, count, below)) in
    other k (omega (arith, count, below)) (sym at ∙ e))

-- ---- which ends have the number of a node

even : (i j : ℕ) → eqb (2 + 2 * i) (2 + 2 * j) ≡ eqb i j
even i j = ⊎_elim
    (λ (e : i ≡ j). eq-eqb (2 + 2 * i) (2 + 2 * j) (omega (arith, e)) ∙ sym (eq-eqb i j e))
    (λ (ne : i ≢ j). ne_eqb (2 + 2 * i) (2 + 2 * j) (λ e. ne (omega (arith, e))) ∙ sym (ne_eqb i j ne))
    (cases_eq i j)

odd : (i j : ℕ) → eqb (3 + 2 * i) (3 + 2 * j) ≡ eqb i j
odd i j = ⊎_elim
    (λ (e : i ≡ j). eq-eqb (3 + 2 * i) (3 + 2 * j) (omega (arith, e)) ∙ sym (eq-eqb i j e))
    (λ (ne : i ≢ j). ne_eqb (3 + 2 * i) (3 + 2 * j) (λ e. ne (omega (arith, e))) ∙ sym (ne_eqb i j ne))
    (cases_eq i j)

later : (n i j : ℕ) → eqb (n + i) (n + j) ≡ eqb i j
later n i j = ⊎_elim
    (λ (e : i ≡ j). eq-eqb (n + i) (n + j) (omega (arith, e)) ∙ sym (eq-eqb i j e))
    (λ (ne : i ≢ j). ne_eqb (n + i) (n + j) (λ e. ne (omega (arith, e))) ∙ sym (ne_eqb i j ne))
    (cases_eq i j)

head_point : (count i : ℕ) → i < count → (end : End) → eqb (head_of count end) (2 + 2 * i) ≡ at_point i end
head_point count i below Source = ne_eqb 0 (2 + 2 * i) (λ e. omega (arith, e))
head_point count i below (Point j) = even j i
head_point count i below (Relay r) = ne_eqb (2 + 2 * count + r) (2 + 2 * i) (λ e. omega (arith, e, below))
head_point count i below Sink = ne_eqb 1 (2 + 2 * i) (λ e. omega (arith, e))

tail_point : (count i : ℕ) → i < count → (end : End) → eqb (tail_of count end) (3 + 2 * i) ≡ at_point i end
tail_point count i below Source = ne_eqb 0 (3 + 2 * i) (λ e. omega (arith, e))
tail_point count i below (Point j) = odd j i
tail_point count i below (Relay r) = ne_eqb (2 + 2 * count + r) (3 + 2 * i) (λ e. omega (arith, e, below))
tail_point count i below Sink = ne_eqb 1 (3 + 2 * i) (λ e. omega (arith, e))

head_relay : (count r : ℕ) (relays : List ℕ) (end : End) → is_target count relays end ≡ true →
    eqb (head_of count end) (2 + 2 * count + r) ≡ at_relay r end
head_relay count r relays Source is = ne_eqb 0 (2 + 2 * count + r) (λ e. omega (arith, e))
head_relay count r relays (Point j) is =
    let below : j < count = ltb-true j count is in
    ne_eqb (2 + 2 * j) (2 + 2 * count + r) (λ e. omega (arith, e, below))
head_relay count r relays (Relay other) is = later (2 + 2 * count) other r
head_relay count r relays Sink is = ne_eqb 1 (2 + 2 * count + r) (λ e. omega (arith, e))

tail_relay : (count r : ℕ) (relays : List ℕ) (end : End) → is_origin count relays end ≡ true →
    eqb (tail_of count end) (2 + 2 * count + r) ≡ at_relay r end
tail_relay count r relays Source is = ne_eqb 0 (2 + 2 * count + r) (λ e. omega (arith, e))
tail_relay count r relays (Point j) is =
    let below : j < count = ltb-true j count is in
    ne_eqb (3 + 2 * j) (2 + 2 * count + r) (λ e. omega (arith, e, below))
tail_relay count r relays (Relay other) is = later (2 + 2 * count) other r
tail_relay count r relays Sink is = ne_eqb 1 (2 + 2 * count + r) (λ e. omega (arith, e))

tail_source : (count : ℕ) (end : End) → eqb (tail_of count end) 0 ≡ at_source end
tail_source count Source = refl
tail_source count (Point j) = ne_eqb (3 + 2 * j) 0 (λ e. omega (arith, e))
tail_source count (Relay r) = ne_eqb (2 + 2 * count + r) 0 (λ e. omega (arith, e))
tail_source count Sink = refl

-- the first half of a point is no node that a link leaves, and the second half none that it enters
tail_even : (count i : ℕ) → i < count → (end : End) → tail_of count end ≢ 2 + 2 * i
tail_even count i below Source e = omega (arith, e)
tail_even count i below (Point j) e = omega (arith, e)
tail_even count i below (Relay r) e = omega (arith, e, below)
tail_even count i below Sink e = omega (arith, e)

head_odd : (count i : ℕ) → i < count → (end : End) → head_of count end ≢ 3 + 2 * i
head_odd count i below Source e = omega (arith, e)
head_odd count i below (Point j) e = omega (arith, e)
head_odd count i below (Relay r) e = omega (arith, e, below)
head_odd count i below Sink e = omega (arith, e)

-- ---- what flows through the nodes of a graph

abbrev tails_in : Graph → List ℕ
tails_in graph = map (λ link. tail_of (length graph.points) link.source) graph.links

abbrev heads_in : Graph → List ℕ
heads_in graph = map (λ link. head_of (length graph.points) link.target) graph.links

-- numbers for the points and the links
pub record AreFor (graph : Graph) (points links : List ℕ) : Type 0 where
  pub points_count : length points ≡ length graph.points
  pub links_count : length links ≡ length graph.links

out_parts : (graph : Graph) (points links : List ℕ) (v : ℕ) → AreFor graph points links →
    at_node (network_of graph).tails (points ++ links) v ≡ at_node (halves_from 2 (length graph.points)) points v +
    at_node (tails_in graph) links v
out_parts graph points links v counts = at_append (halves_from 2 (length graph.points)) (tails_in graph) points links v
    (counts.points_count ∙ sym (length_halves 2 (length graph.points)))

into_parts : (graph : Graph) (points links : List ℕ) (v : ℕ) → AreFor graph points links →
    at_node (network_of graph).heads (points ++ links) v ≡ at_node (halves_from 3 (length graph.points)) points v +
    at_node (heads_in graph) links v
into_parts graph points links v counts = at_append (halves_from 3 (length graph.points)) (heads_in graph) points links v
    (counts.points_count ∙ sym (length_halves 3 (length graph.points)))

links_none : (key : Arc → ℕ) (graph : Graph) (links : List ℕ) (v : ℕ) → ((link : Arc) → key link ≢ v) →
    at_node (map key graph.links) links v ≡ 0
links_none key graph links v other =
    let count : length (map key graph.links) ≡ length graph.links = length-map graph.links key in
    at_none (map key graph.links) links v (λ i below. all_map (λ n. n ≢ v) key
    (is_link (length graph.points) graph.relays) (λ link is. other link) graph.links graph.links_are_valid i
    (omega (arith, count, below)))

pub out_first : (graph : Graph) (points links : List ℕ) (i : ℕ) → AreFor graph points links → i < length graph.points →
    at_node (network_of graph).tails (points ++ links) (2 + 2 * i) ≡ slice_index points i
out_first graph points links i counts below =
    let parts = out_parts graph points links (2 + 2 * i) counts in
    let one : at_node (halves_from 2 (length graph.points)) points (2 + 2 * i) ≡ slice_index points i =
    halves_one 2 (length graph.points) i (2 + 2 * i) points below refl in
    let none : at_node (tails_in graph) links (2 + 2 * i) ≡ 0 =
    links_none (λ link. tail_of (length graph.points) link.source) graph links (2 + 2 * i)
    (λ link. tail_even (length graph.points) i below link.source) in
    omega (arith, parts, one, none)

pub into_first : (graph : Graph) (points links : List ℕ) (i : ℕ) → AreFor graph points links → i < length graph.points →
    at_node (network_of graph).heads (points ++ links) (2 + 2 * i) ≡ flow_into graph links (at_point i)
into_first graph points links i counts below =
    let parts = into_parts graph points links (2 + 2 * i) counts in
    let none : at_node (halves_from 3 (length graph.points)) points (2 + 2 * i) ≡ 0 =
    halves_none 3 (length graph.points) (2 + 2 * i) points (λ k under e. omega (arith, e)) in
    let all : at_node (heads_in graph) links (2 + 2 * i) ≡ flow_into graph links (at_point i) =
    at_named (λ link. head_of (length graph.points) link.target) (λ link. at_point i link.target)
    (is_link (length graph.points) graph.relays) (2 + 2 * i)
    (λ link is. head_point (length graph.points) i below link.target) graph.links links counts.links_count
    graph.links_are_valid in
    omega (arith, parts, none, all)

pub into_second : (graph : Graph) (points links : List ℕ) (i : ℕ) → AreFor graph points links →
    i < length graph.points →
    at_node (network_of graph).heads (points ++ links) (3 + 2 * i) ≡ slice_index points i
into_second graph points links i counts below =
    let parts = into_parts graph points links (3 + 2 * i) counts in
    let one : at_node (halves_from 3 (length graph.points)) points (3 + 2 * i) ≡ slice_index points i =
    halves_one 3 (length graph.points) i (3 + 2 * i) points below refl in
    let none : at_node (heads_in graph) links (3 + 2 * i) ≡ 0 =
    links_none (λ link. head_of (length graph.points) link.target) graph links (3 + 2 * i)
    (λ link. head_odd (length graph.points) i below link.target) in
    omega (arith, parts, one, none)

pub out_second : (graph : Graph) (points links : List ℕ) (i : ℕ) → AreFor graph points links →
    i < length graph.points →
    at_node (network_of graph).tails (points ++ links) (3 + 2 * i) ≡ flow_out graph links (at_point i)
out_second graph points links i counts below =
    let parts = out_parts graph points links (3 + 2 * i) counts in
    let none : at_node (halves_from 2 (length graph.points)) points (3 + 2 * i) ≡ 0 =
    halves_none 2 (length graph.points) (3 + 2 * i) points (λ k under e. omega (arith, e)) in
    let all : at_node (tails_in graph) links (3 + 2 * i) ≡ flow_out graph links (at_point i) =
    at_named (λ link. tail_of (length graph.points) link.source) (λ link. at_point i link.source)
    (is_link (length graph.points) graph.relays) (3 + 2 * i)
    (λ link is. tail_point (length graph.points) i below link.source) graph.links links counts.links_count
    graph.links_are_valid in
    omega (arith, parts, none, all)

pub into_relay : (graph : Graph) (points links : List ℕ) (r : ℕ) → AreFor graph points links →
    at_node (network_of graph).heads (points ++ links) (2 + 2 * length graph.points + r) ≡ flow_into graph links
    (at_relay r)
into_relay graph points links r counts =
    let parts = into_parts graph points links (2 + 2 * length graph.points + r) counts in
    let none : at_node (halves_from 3 (length graph.points)) points (2 + 2 * length graph.points + r) ≡ 0 =
    halves_none 3 (length graph.points) (2 + 2 * length graph.points + r) points (λ k under e. omega (arith, e, under)) in
    let all : at_node (heads_in graph) links (2 + 2 * length graph.points + r) ≡ flow_into graph links (at_relay r) =
    at_named (λ link. head_of (length graph.points) link.target) (λ link. at_relay r link.target)
    (is_link (length graph.points) graph.relays) (2 + 2 * length graph.points + r)
    (λ link is. head_relay (length graph.points) r graph.relays link.target (and_parts _ _ (and_parts _ _ is).1).0)
    graph.links links counts.links_count graph.links_are_valid in
    omega (arith, parts, none, all)

pub out_relay : (graph : Graph) (points links : List ℕ) (r : ℕ) → AreFor graph points links →
    at_node (network_of graph).tails (points ++ links) (2 + 2 * length graph.points + r) ≡ flow_out graph links
    (at_relay r)
out_relay graph points links r counts =
    let parts = out_parts graph points links (2 + 2 * length graph.points + r) counts in
    let none : at_node (halves_from 2 (length graph.points)) points (2 + 2 * length graph.points + r) ≡ 0 =
    halves_none 2 (length graph.points) (2 + 2 * length graph.points + r) points (λ k under e. omega (arith, e, under)) in
    let all : at_node (tails_in graph) links (2 + 2 * length graph.points + r) ≡ flow_out graph links (at_relay r) =
    at_named (λ link. tail_of (length graph.points) link.source) (λ link. at_relay r link.source)
    (is_link (length graph.points) graph.relays) (2 + 2 * length graph.points + r)
    (λ link is. tail_relay (length graph.points) r graph.relays link.source (and_parts _ _ is).0) graph.links links
    counts.links_count graph.links_are_valid in
    omega (arith, parts, none, all)

-- ---- flows

pub value_same : (graph : Graph) (points links : List ℕ) → AreFor graph points links →
    source_flow (network_of graph) (points ++ links) ≡ flow_value graph points links
value_same graph points links counts =
    let parts = out_parts graph points links 0 counts in
    let none : at_node (halves_from 2 (length graph.points)) points 0 ≡ 0 =
    halves_none 2 (length graph.points) 0 points (λ k under e. omega (arith, e)) in
    let all : at_node (tails_in graph) links 0 ≡ flow_out graph links at_source =
    at_named (λ link. tail_of (length graph.points) link.source) (λ link. at_source link.source)
    (is_link (length graph.points) graph.relays) 0
    (λ link is. tail_source (length graph.points) link.source) graph.links links counts.links_count
    graph.links_are_valid in
    omega (arith, parts, none, all)

counts_of : (graph : Graph) (points links : List ℕ) → IsFlowOf graph points links → AreFor graph points links
counts_of graph points links flow = record { points_count = flow.points_count; links_count = flow.links_count }

pub flow_value_same : (graph : Graph) (points links : List ℕ) → IsFlowOf graph points links →
    source_flow (network_of graph) (points ++ links) ≡ flow_value graph points links
flow_value_same graph points links flow = value_same graph points links (counts_of graph points links flow)

-- the number of a node that there is, below the relays: of a first half or of a second one
half_of : (v : ℕ) → 2 ≤ v → (v ≡ 2 + 2 * ((v - 2) / 2)) ⊎ (v ≡ 3 + 2 * ((v - 2) / 2))
half_of v from = ⊎_elim
    (λ (e : v ≡ 2 + 2 * ((v - 2) / 2)). inl e)
    (λ (ne : v ≢ 2 + 2 * ((v - 2) / 2)). inr (omega arith))
    (cases_eq v (2 + 2 * ((v - 2) / 2)))

balanced_half : (graph : Graph) (points links : List ℕ) → IsFlowOf graph points links → (v : ℕ) → 2 ≤ v →
    v < 2 + 2 * length graph.points →
    at_node (network_of graph).heads (points ++ links) v ≡ at_node (network_of graph).tails (points ++ links) v
balanced_half graph points links flow v from below =
    let counts = counts_of graph points links flow in
    let i : ℕ = (v - 2) / 2 in
    ⊎_elim
    (λ (e : v ≡ 2 + 2 * ((v - 2) / 2)).
    let inside : (v - 2) / 2 < length graph.points = omega arith in
    ap (at_node (network_of graph).heads (points ++ links)) e ∙ (into_first graph points links ((v - 2) / 2) counts inside
    ∙ (flow.into_points ((v - 2) / 2) inside ∙ (sym (out_first graph points links ((v - 2) / 2) counts inside)
    ∙ ap (at_node (network_of graph).tails (points ++ links)) (sym e)))))
    (λ (e : v ≡ 3 + 2 * ((v - 2) / 2)).
    let inside : (v - 2) / 2 < length graph.points = omega arith in
    ap (at_node (network_of graph).heads (points ++ links)) e ∙ (into_second graph points links ((v - 2) / 2) counts inside
    ∙ (sym (flow.out_of_points ((v - 2) / 2) inside) ∙ (sym (out_second graph points links ((v - 2) / 2) counts inside)
    ∙ ap (at_node (network_of graph).tails (points ++ links)) (sym e)))))
    (half_of v from)

-- a flow of the graph is one of its network
pub network_flow : (graph : Graph) (points links : List ℕ) → IsFlowOf graph points links →
    IsFlow (network_of graph) (points ++ links)
network_flow graph points links flow =
    let counts = counts_of graph points links flow in
    let limits : length (network_of graph).limits ≡ length graph.points = length-map graph.points
    (λ node. node.capacity) in
    record {
      count = length-append points links ∙ omega (
        arith,
        flow.points_count,
        flow.links_count,
        edges_count graph,
      );
      within = λ i below.
          let here : slice_index points i ≤ slice_index (network_of graph).limits i =
          flow.within i (omega (arith, limits, below)) in
          let same : slice_index (points ++ links) i ≡ slice_index points i =
          get_or_append_left points links 0 i (omega (arith, limits, below, flow.points_count)) in
          omega (arith, here, same);
      balanced = λ v from below. ⊎_elim
          (λ (low : v < 2 + 2 * length graph.points). balanced_half graph points links flow v from low)
          (λ (high : 2 + 2 * length graph.points ≤ v).
          let back : v ≡ 2 + 2 * length graph.points + (v - (2 + 2 * length graph.points)) = omega arith in
          ap (at_node (network_of graph).heads (points ++ links)) back
          ∙ (into_relay graph points links (v - (2 + 2 * length graph.points)) counts
          ∙ (flow.through_relays (v - (2 + 2 * length graph.points))
          ∙ (sym (out_relay graph points links (v - (2 + 2 * length graph.points)) counts)
          ∙ ap (at_node (network_of graph).tails (points ++ links)) (sym back)))))
          (cases_lt v (2 + 2 * length graph.points));
    }

-- nothing flows at a node that is none of the network
no_node : (graph : Graph) (flow : List ℕ) (v : ℕ) → (network_of graph).nodes ≤ v →
    at_node (network_of graph).heads flow v ≡ at_node (network_of graph).tails flow v
no_node graph flow v past =
    let net = graph_net graph in
    let same : length (network_of graph).heads ≡ length (network_of graph).tails = net.same in
    at_none (network_of graph).heads flow v (λ i below e.
    let inside : slice_index (network_of graph).heads i < (network_of graph).nodes =
    net.heads_inside i (omega (arith, same, below)) in omega (arith, inside, e, past))
    ∙ sym (at_none (network_of graph).tails flow v (λ i below e.
    let inside : slice_index (network_of graph).tails i < (network_of graph).nodes = net.tails_inside i below in
    omega (arith, inside, e, past)))

-- nor over a link from or to the relay of what is no number of a region
pub unknown_relay : (graph : Graph) (points links : List ℕ) (r : ℕ) → AreFor graph points links → 65536 ≤ r →
    flow_into graph links (at_relay r) ≡ flow_out graph links (at_relay r)
unknown_relay graph points links r counts past =
    sym (into_relay graph points links r counts)
    ∙ (no_node graph (points ++ links) (2 + 2 * length graph.points + r) (omega (arith, past))
    ∙ out_relay graph points links r counts)

balanced_anywhere : (graph : Graph) (flow : List ℕ) → IsFlow (network_of graph) flow → (v : ℕ) → 2 ≤ v →
    at_node (network_of graph).heads flow v ≡ at_node (network_of graph).tails flow v
balanced_anywhere graph flow is v from = ⊎_elim
    (λ (below : v < (network_of graph).nodes). is.balanced v from below)
    (λ (past : (network_of graph).nodes ≤ v). no_node graph flow v past)
    (cases_lt v (network_of graph).nodes)

-- a flow of its network is one of the graph
pub graph_flow : (graph : Graph) (points links : List ℕ) → AreFor graph points links →
    IsFlow (network_of graph) (points ++ links) → IsFlowOf graph points links
graph_flow graph points links counts flow =
    let limits : length (network_of graph).limits ≡ length graph.points = length-map graph.points
    (λ node. node.capacity) in
    record {
      points_count = counts.points_count;
      links_count = counts.links_count;
      within = λ i below.
          let here : slice_index (points ++ links) i ≤ slice_index (network_of graph).limits i =
          flow.within i (omega (arith, limits, below)) in
          let same : slice_index (points ++ links) i ≡ slice_index points i =
          get_or_append_left points links 0 i (omega (arith, below, counts.points_count)) in
          omega (arith, here, same);
      into_points = λ i below.
          sym (into_first graph points links i counts below)
          ∙ (balanced_anywhere graph (points ++ links) flow (2 + 2 * i) (omega arith)
          ∙ out_first graph points links i counts below);
      out_of_points = λ i below.
          sym (out_second graph points links i counts below)
          ∙ (sym (balanced_anywhere graph (points ++ links) flow (3 + 2 * i) (omega arith))
          ∙ into_second graph points links i counts below);
      through_relays = λ r.
          sym (into_relay graph points links r counts)
          ∙ (balanced_anywhere graph (points ++ links) flow (2 + 2 * length graph.points + r) (omega arith)
          ∙ out_relay graph points links r counts);
    }
