-- A side of a graph is one of its network, and has the same capacity there.
use Rattle.std.proofs.Common.{◌≡◌, ℕ, zero, suc, ◌+◌, ◌-◌, ◌*◌, ◌≤◌, ◌<◌, ◌++◌, ◌∷◌, [], ◌&&◌, ◌||◌, not, cond, Bool, true, false}
use Rattle.std.proofs.Common.{List, length, map, get_or, slice_index, refl, sym, ap, ◌∙◌, arith}
use Rattle.std.specs.List.{list_all, list_any}
use Rattle.std.proofs.lemmas.Bool.{and_parts, or_parts}
use Rattle.std.proofs.lemmas.List.{length-map, get_or_append_left, get_or-append_right}
use Rattle.flow_graph.specs.declared.ends.Arc.{Arc}
use Rattle.flow_graph.specs.declared.graphs.Graph.{Graph}
use Rattle.flow_graph.specs.Graphs.{is_link}
use Rattle.max_flow.specs.declared.answers.Half.{Half}
use Rattle.max_flow.specs.declared.answers.Half.TheVariants.{Neither}
use Rattle.max_flow.specs.Flows.{IsFlowOf, IsSideOf, entered_in, first_in, flow_value, is_cut, leads_out, left_in}
use Rattle.max_flow.specs.Flows.{side_capacity}
use Rattle.max_flow.specs.Building.{tail_of, head_of}
use Rattle.max_flow.specs.Private.GraphNetworks.{halves_from, network_of}
use Rattle.max_flow.specs.Private.Networks.{IsSide, capacity_of, leaves, sum_below}
use Rattle.max_flow.proofs.Graphs.{edges_count, graph_net, half_at, length_halves}
use Rattle.max_flow.proofs.Members.{member, member_entered, member_first, member_left, member_second, member_sink}
use Rattle.max_flow.proofs.Members.{member_source}
use Rattle.max_flow.proofs.NamedFlows.{flow_value_same, network_flow, where_places}
use Rattle.max_flow.proofs.Sums.{sum_same}
use Rattle.max_flow.proofs.Tightness.{weak}

-- ---- the ends of a link by its place

pub tail_link : (graph : Graph) (i : ℕ) → length graph.points ≤ i →
    slice_index (network_of graph).tails i ≡ get_or (map (λ link. tail_of (length graph.points) link.source)
    graph.links) (i - length graph.points) 0
tail_link graph i from = get_or-append_right (halves_from 2 (length graph.points)) _ (length graph.points) i 0
    (length_halves 2 (length graph.points)) from

pub head_link : (graph : Graph) (i : ℕ) → length graph.points ≤ i →
    slice_index (network_of graph).heads i ≡ get_or (map (λ link. head_of (length graph.points) link.target)
    graph.links) (i - length graph.points) 0
head_link graph i from = get_or-append_right (halves_from 3 (length graph.points)) _ (length graph.points) i 0
    (length_halves 3 (length graph.points)) from

pub tail_half : (graph : Graph) (i : ℕ) → i < length graph.points →
    slice_index (network_of graph).tails i ≡ 2 + 2 * i
tail_half graph i below =
    get_or_append_left (halves_from 2 (length graph.points)) _ 0 i
    (let n = length_halves 2 (length graph.points) in omega (arith, n, below))
    ∙ half_at 2 (length graph.points) i below

pub head_half : (graph : Graph) (i : ℕ) → i < length graph.points →
    slice_index (network_of graph).heads i ≡ 3 + 2 * i
head_half graph i below =
    get_or_append_left (halves_from 3 (length graph.points)) _ 0 i
    (let n = length_halves 3 (length graph.points) in omega (arith, n, below))
    ∙ half_at 3 (length graph.points) i below

-- ---- what leaves the side

pub not_and : (a b : Bool) → (a && not b) ≡ false → a ≡ true → b ≡ true
not_and true true e is = refl
not_and true false e is = absurd cc
not_and false b e is = absurd cc

pub and_not : (a b : Bool) → (a ≡ true → b ≡ true) → (a && not b) ≡ false
and_not true true h = refl
and_not true false h = absurd (let e : false ≡ true = h refl in cc)
and_not false b h = refl

pub or_false : (a b : Bool) → a ≡ false → b ≡ false → (a || b) ≡ false
or_false true b first second = absurd cc
or_false false b first second = second

-- of a link between ends that there are
link_left : (graph : Graph) (halves : List Half) (relays : List Bool) (link : Arc) →
    is_link (length graph.points) graph.relays link ≡ true →
    member graph halves relays (tail_of (length graph.points) link.source) ≡ left_in graph halves relays link.source
link_left graph halves relays link is = member_left graph halves relays link.source (and_parts _ _ is).0

link_entered : (graph : Graph) (halves : List Half) (relays : List Bool) (link : Arc) →
    is_link (length graph.points) graph.relays link ≡ true →
    member graph halves relays (head_of (length graph.points) link.target) ≡ entered_in graph halves relays link.target
link_entered graph halves relays link is =
    member_entered graph halves relays link.target (and_parts _ _ (and_parts _ _ is).1).0

-- what holds of a link among links
places_closed : (graph : Graph) (halves : List Half) (relays : List Bool) (links : List Arc) →
    list_all (is_link (length graph.points) graph.relays) links ≡ true →
    list_any (leads_out graph halves relays) links ≡ false → (i : ℕ) → i < length links →
    member graph halves relays (get_or (map (λ link. tail_of (length graph.points) link.source) links) i 0) ≡ true →
    member graph halves relays (get_or (map (λ link. head_of (length graph.points) link.target) links) i 0) ≡ true
places_closed graph halves relays [] all none i below is = absurd (omega arith)
places_closed graph halves relays (link ∷ links) all none zero below is =
    let valid = (and_parts _ _ all).0 in
    link_entered graph halves relays link valid
    ∙ not_and _ _ (or_parts _ _ none).0 (sym (link_left graph halves relays link valid) ∙ is)
places_closed graph halves relays (link ∷ links) all none (suc i) below is =
    places_closed graph halves relays links (and_parts _ _ all).1 (or_parts _ _ none).1 i (omega arith) is

links_closed : (graph : Graph) (halves : List Half) (relays : List Bool) (links : List Arc) →
    list_all (is_link (length graph.points) graph.relays) links ≡ true →
    ((i : ℕ) → i < length links →
    member graph halves relays (get_or (map (λ link. tail_of (length graph.points) link.source) links) i 0) ≡ true →
    member graph halves relays (get_or (map (λ link. head_of (length graph.points) link.target) links) i 0) ≡ true) →
    list_any (leads_out graph halves relays) links ≡ false
links_closed graph halves relays [] all h = refl
links_closed graph halves relays (link ∷ links) all h =
    let valid = (and_parts _ _ all).0 in
    or_false _ _
    (and_not _ _ (λ is. sym (link_entered graph halves relays link valid)
    ∙ h 0 (omega arith) (link_left graph halves relays link valid ∙ is)))
    (links_closed graph halves relays links (and_parts _ _ all).1 (λ i below. h (suc i) (omega (arith, below))))

-- a side of the graph is one of its network
pub network_side : (graph : Graph) (halves : List Half) (relays : List Bool) → IsSideOf graph halves relays →
    IsSide (network_of graph) (member graph halves relays)
network_side graph halves relays side =
    let limits : length (network_of graph).limits ≡ length graph.points = length-map graph.points
    (λ node. node.capacity) in
    let edges = edges_count graph in
    record {
      source = member_source graph halves relays;
      sink = member_sink graph halves relays;
      closed = λ i from below is.
          let past : length graph.points ≤ i = omega (arith, limits, from) in
          ap (member graph halves relays) (head_link graph i past)
          ∙ places_closed graph halves relays graph.links graph.links_are_valid side.closed (i - length graph.points)
          (omega (arith, past, below, edges)) (ap (member graph halves relays) (sym (tail_link graph i past)) ∙ is);
    }

-- a side of its network is one of the graph
pub graph_side : (graph : Graph) (halves : List Half) (relays : List Bool) → length halves ≡ length graph.points →
    length relays ≡ length graph.relays → IsSide (network_of graph) (member graph halves relays) →
    IsSideOf graph halves relays
graph_side graph halves relays points_count relays_count side =
    let limits : length (network_of graph).limits ≡ length graph.points = length-map graph.points
    (λ node. node.capacity) in
    let edges = edges_count graph in
    record {
      points_count = points_count;
      relays_count = relays_count;
      closed = links_closed graph halves relays graph.links graph.links_are_valid (λ i below is.
          let past : length graph.points ≤ length graph.points + i = omega arith in
          let back : length graph.points + i - length graph.points ≡ i = omega arith in
          let tail = tail_link graph (length graph.points + i) past ∙ ap (λ k. get_or (map (λ link. tail_of
          (length graph.points) link.source) graph.links) k 0) back in
          let head = head_link graph (length graph.points + i) past ∙ ap (λ k. get_or (map (λ link. head_of
          (length graph.points) link.target) graph.links) k 0) back in
          ap (member graph halves relays) (sym head)
          ∙ side.closed (length graph.points + i) (omega (arith, limits)) (omega (arith, edges, below))
          (ap (member graph halves relays) tail ∙ is));
    }

-- ---- capacities

pub leaves_cut : (graph : Graph) (halves : List Half) (relays : List Bool) (i : ℕ) → i < length graph.points →
    leaves (network_of graph) (member graph halves relays) i ≡ is_cut (get_or halves i Neither)
leaves_cut graph halves relays i below =
    ap (λ (a : Bool). a && not (member graph halves relays (slice_index (network_of graph).heads i)))
    (ap (member graph halves relays) (tail_half graph i below) ∙ member_first graph halves relays i below)
    ∙ ap (λ (b : Bool). first_in halves i && not b)
    (ap (member graph halves relays) (head_half graph i below) ∙ member_second graph halves relays i below)

pub capacity_same : (graph : Graph) (halves : List Half) (relays : List Bool) → length halves ≡ length graph.points →
    capacity_of (network_of graph) (member graph halves relays) ≡ side_capacity graph halves relays
unfolding capacity_of
capacity_same graph halves relays same =
    let limits : length (network_of graph).limits ≡ length graph.points = length-map graph.points
    (λ node. node.capacity) in
    ap (λ n. sum_below n (λ i. cond (leaves (network_of graph) (member graph halves relays) i)
    (slice_index (network_of graph).limits i) 0)) (limits ∙ sym same)
    ∙ (sum_same (length halves) (λ i. cond (leaves (network_of graph) (member graph halves relays) i)
    (slice_index (network_of graph).limits i) 0)
    (λ i. cond (is_cut (get_or halves i Neither)) (slice_index (network_of graph).limits i) 0)
    (λ i below. ap (λ b. cond b (slice_index (network_of graph).limits i) 0)
    (leaves_cut graph halves relays i (omega (arith, same, below))))
    ∙ where_places is_cut halves (network_of graph).limits Neither (limits ∙ sym same))

-- no flow has a greater value than the capacity of any side
pub weak_duality : (graph : Graph) (points links : List ℕ) (halves : List Half) (relays : List Bool) →
    IsFlowOf graph points links → IsSideOf graph halves relays →
    flow_value graph points links ≤ side_capacity graph halves relays
weak_duality graph points links halves relays flow side =
    let below = weak (network_of graph) (points ++ links) (member graph halves relays) (graph_net graph)
    (network_flow graph points links flow) (network_side graph halves relays side) in
    let value = flow_value_same graph points links flow in
    let capacity = capacity_same graph halves relays side.points_count in
    omega (arith, below, value, capacity)
