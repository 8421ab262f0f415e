-- From the answer for a graph's network to the answer for the graph.
use Rattle.std.proofs.Common.{◌≡◌, ℕ, ◌+◌, ◌*◌, ◌^◌, ◌≤◌, ◌<◌, ◌++◌, Bool, true, false, List, length, take, drop}
use Rattle.std.proofs.Common.{min, slice_index, sym, ap, ◌∙◌, subst, ⊎_elim, arith}
use Rattle.std.proofs.lemmas.Bool.{cases_lt, ltb-true}
use Rattle.std.proofs.lemmas.List.{length-map, length-take-le, length-take, length-drop, take-append-drop, get_or_past}
use Rattle.std.proofs.lemmas.List.{get_or-take, get_or-drop}
use Rattle.std.proofs.Math.Nat.{min-le_left}
use Rattle.flow_graph.specs.declared.graphs.Graph.{Graph}
use Rattle.max_flow.specs.declared.answers.Half.{Half}
use Rattle.max_flow.specs.declared.answers.Half.TheVariants.{Neither}
use Rattle.max_flow.specs.Flows.{AreAtMost, HasNoGreater, IsFlowOf, IsPartOf, IsWithinLimits, Least, first_in, flow_value}
use Rattle.max_flow.specs.Flows.{has_first, has_second, is_small, second_in, side_capacity}
use Rattle.max_flow.specs.Private.GraphNetworks.{network_of}
use Rattle.max_flow.specs.Private.Networks.{IsFlow, IsSide, source_flow, capacity_of}
use Rattle.max_flow.specs.Private.Rooms.{IsLeast}
use Rattle.max_flow.specs.Private.Searching.{is_found}
use Rattle.max_flow.proofs.Graphs.{all_map, edges_count, graph_net}
use Rattle.max_flow.proofs.FoundNodesAreMembers.{IsMade, made_side, made_capacity, member_found}
use Rattle.max_flow.proofs.Members.{member, member_first, member_relay, member_second}
use Rattle.max_flow.proofs.NamedFlows.{AreFor, flow_value_same, graph_flow, network_flow, value_same}
use Rattle.max_flow.proofs.NamedSides.{capacity_same, graph_side, network_side}
use Rattle.max_flow.proofs.Tightness.{weak}

pub limits_fit : (graph : Graph) → IsWithinLimits graph → (i : ℕ) → slice_index (network_of graph).limits i < 2 ^ 64
limits_fit graph within i =
    let count : length (network_of graph).limits ≡ length graph.points = length-map graph.points
    (λ node. node.capacity) in
    ⊎_elim
    (λ (below : i < length graph.points).
    let small : slice_index (network_of graph).limits i < 2 ^ 48 =
    all_map (λ n. n < 2 ^ 48) (λ node. node.capacity) is_small (λ node is. ltb-true node.capacity (2 ^ 48) is)
    graph.points within.capacities i below in
    omega (arith, small))
    (λ (past : length graph.points ≤ i).
    let none : slice_index (network_of graph).limits i ≡ 0 = get_or_past (network_of graph).limits i 0
    (omega (arith, count, past)) in omega (arith, none))
    (cases_lt i (length graph.points))

parts_for : (graph : Graph) (flows points links : List ℕ) → length flows ≡ length (network_of graph).tails →
    points ≡ take (length graph.points) flows →
    links ≡ drop (length graph.points) flows → AreFor graph points links
parts_for graph flows points links same front back =
    let count : length flows ≡ length graph.points + length graph.links = same ∙ edges_count graph in
    record {
      points_count = ap length front ∙ length-take-le (length graph.points) flows (omega (arith, count));
      links_count = ap length back ∙ (length-drop (length graph.points) flows ∙ omega (arith, count));
    }

whole : (graph : Graph) (flows points links : List ℕ) → points ≡ take (length graph.points) flows →
    links ≡ drop (length graph.points) flows → flows ≡ points ++ links
whole graph flows points links front back =
    sym (take-append-drop (length graph.points) flows) ∙
    (ap (λ p. p ++ drop (length graph.points) flows) (sym front) ∙ ap (λ l. points ++ l) (sym back))

pub flow_from : (graph : Graph) (flows points links : List ℕ) → IsFlow (network_of graph) flows →
    points ≡ take (length graph.points) flows →
    links ≡ drop (length graph.points) flows → IsFlowOf graph points links
flow_from graph flows points links flow front back =
    let counts = parts_for graph flows points links flow.count front back in
    graph_flow graph points links counts (subst (IsFlow (network_of graph)) (whole graph flows points links front back)
    flow)

pub value_from : (graph : Graph) (flows points links : List ℕ) → IsFlow (network_of graph) flows →
    points ≡ take (length graph.points) flows →
    links ≡ drop (length graph.points) flows → flow_value graph points links ≡ source_flow (network_of graph) flows
value_from graph flows points links flow front back =
    sym (value_same graph points links (parts_for graph flows points links flow.count front back))
    ∙ ap (source_flow (network_of graph)) (sym (whole graph flows points links front back))

pub front_most : (most count : ℕ) (flows points : List ℕ) → points ≡ take count flows → AreAtMost most flows →
    AreAtMost most points
front_most most count flows points same each = λ i. let old : slice_index flows i ≤ most = each i in
    ⊎_elim
    (λ (below : i < count).
    let e : slice_index points i ≡ slice_index flows i = ap (λ xs. slice_index xs i) same ∙
    get_or-take count flows i 0 below in
    omega (arith, e, old))
    (λ (past : count ≤ i).
    let few : length points ≡ min count (length flows) = ap length same ∙ length-take count flows in
    let low : min count (length flows) ≤ count = min-le_left count (length flows) in
    let e : slice_index points i ≡ 0 = get_or_past points i 0 (omega (arith, few, low, past)) in
    omega (arith, e))
    (cases_lt i count)

pub back_most : (most count : ℕ) (flows links : List ℕ) → links ≡ drop count flows → AreAtMost most flows →
    AreAtMost most links
back_most most count flows links same each = λ i.
    let old : slice_index flows (count + i) ≤ most = each (count + i) in
    let e : slice_index links i ≡ slice_index flows (count + i) = ap (λ xs. slice_index xs i) same ∙
    get_or-drop count flows i 0 in
    omega (arith, e, old)

pub greatest_from : (graph : Graph) (value : ℕ) (places : List ℕ) → IsSide (network_of graph) (is_found places) →
    capacity_of (network_of graph) (is_found places) ≡ value → HasNoGreater graph value
greatest_from graph value places side capacity points links flow =
    let below : source_flow (network_of graph) (points ++ links) ≤ capacity_of (network_of graph) (is_found places) =
    weak (network_of graph) (points ++ links) (is_found places) (graph_net graph)
    (network_flow graph points links flow) side in
    let same = flow_value_same graph points links flow in
    omega (arith, below, capacity, same)

-- all of a least side is in another side, whose nodes these are
part_from : (graph : Graph) (places : List ℕ) (halves others : List Half) (answers passed : List Bool) →
    IsMade graph places halves answers → length halves ≡ length graph.points →
    length places ≤ 2 + 2 * length graph.points + 65536 →
    ((v : ℕ) → v < (network_of graph).nodes → is_found places v ≡ true → member graph others passed v ≡ true) →
    IsPartOf graph halves answers others passed
part_from graph places halves others answers passed made points_count places_count all =
    let inside : (v : ℕ) → is_found places v ≡ true → member graph others passed v ≡ true =
    λ v is. ⊎_elim
    (λ (below : v < (network_of graph).nodes). all v below is)
    (λ (past : (network_of graph).nodes ≤ v). absurd (
    let some : 0 < slice_index places v = ltb-true 0 (slice_index places v) is in
    let none : slice_index places v ≡ 0 = get_or_past places v 0 (omega (arith, places_count, past)) in
    omega (arith, some, none)))
    (cases_lt v (network_of graph).nodes) in
    let both : (v : ℕ) → member graph halves answers v ≡ true → member graph others passed v ≡ true =
    λ v is. inside v (member_found graph places halves answers made v is) in
    record {
      firsts = λ i is. ⊎_elim
          (λ (below : i < length graph.points). sym (member_first graph others passed i below)
          ∙ both (2 + 2 * i) (member_first graph halves answers i below ∙ is))
          (λ (past : length graph.points ≤ i). absurd (
          let none : first_in halves i ≡ false = ap has_first (get_or_past halves i Neither (omega (
            arith,
            points_count,
            past,
          ))) in
          cc))
          (cases_lt i (length graph.points));
      seconds = λ i is. ⊎_elim
          (λ (below : i < length graph.points). sym (member_second graph others passed i below)
          ∙ both (3 + 2 * i) (member_second graph halves answers i below ∙ is))
          (λ (past : length graph.points ≤ i). absurd (
          let none : second_in halves i ≡ false = ap has_second (get_or_past halves i Neither (omega (
            arith,
            points_count,
            past,
          ))) in
          cc))
          (cases_lt i (length graph.points));
      relays_too = λ r is. sym (member_relay graph others passed r)
          ∙ both (2 + 2 * length graph.points + r) (member_relay graph halves answers r ∙ is);
    }

pub capacity_from : (graph : Graph) (value : ℕ) (places : List ℕ) (halves : List Half) (answers : List Bool) →
    IsMade graph places halves answers → length halves ≡ length graph.points →
    capacity_of (network_of graph) (is_found places) ≡ value → side_capacity graph halves answers ≡ value
capacity_from graph value places halves answers made points_count capacity =
    sym (capacity_same graph halves answers points_count)
    ∙ (made_capacity graph places halves answers made ∙ capacity)

pub least_from : (graph : Graph) (value : ℕ) (flows places : List ℕ) (halves : List Half) (answers : List Bool) →
    IsFlow (network_of graph) flows →
    source_flow (network_of graph) flows ≡ value → IsMade graph places halves answers → length halves ≡ length
    graph.points → length answers ≡ length graph.relays → length places ≤ 2 + 2 * length graph.points + 65536 →
    IsSide (network_of graph) (is_found places) → capacity_of (network_of graph) (is_found places) ≡ value →
    IsLeast (network_of graph) value (is_found places) →
    Least graph halves answers
least_from graph value flows places halves answers flow value_is made points_count relays_count places_count side
    capacity least =
    let mine : side_capacity graph halves answers ≡ value =
    capacity_from graph value places halves answers made points_count capacity in
    record {
      side = graph_side graph halves answers points_count relays_count (made_side graph places halves answers made side);
      smallest = λ others passed other.
          let below : source_flow (network_of graph) flows ≤ capacity_of (network_of graph) (member graph others passed) =
          weak (network_of graph) flows (member graph others passed) (graph_net graph) flow
          (network_side graph others passed other) in
          let named = capacity_same graph others passed other.points_count in
          omega (arith, below, mine, value_is, named);
      contained = λ others passed other same.
          let named = capacity_same graph others passed other.points_count in
          part_from graph places halves others answers passed made points_count places_count
          (least.contained (member graph others passed) (network_side graph others passed other)
          (omega (arith, same, mine, named)));
    }
