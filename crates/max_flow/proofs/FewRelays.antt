-- The network of a graph without the nodes behind the highest relay: what holds there holds of the whole network.
use Rattle.std.proofs.Common.{◌≡◌, ℕ, zero, suc, ◌+◌, ◌*◌, ◌<◌, ◌≤◌, ◌∷◌, [], Bool, true, List, length, slice_index, refl, sym, ◌∙◌, subst, ⊎_elim, arith}
use Rattle.std.specs.List.{list_any}
use Rattle.std.specs.Prelude.{nat_eq}
use Rattle.std.proofs.lemmas.Bool.{cases_lt, and_parts, or_cases, ltb-true, eqb-true}
use Rattle.std.proofs.lemmas.List.{get_or_past}
use Rattle.flow_graph.specs.declared.ends.End.{End}
use Rattle.flow_graph.specs.declared.ends.End.TheVariants.{Source, Point, Relay, Sink}
use Rattle.flow_graph.specs.declared.graphs.Graph.{Graph}
use Rattle.flow_graph.specs.Graphs.{is_origin, is_target, is_link}
use Rattle.max_flow.specs.Building.{tail_of, head_of}
use Rattle.max_flow.specs.Private.GraphNetworks.{network_of, relay_room, small_network_of}
use Rattle.max_flow.specs.Private.Networks.{IsFlow, IsNet, IsSide, capacity_of}
use Rattle.max_flow.specs.Private.Rooms.{HasSmallSide, IsLeast}
use Rattle.max_flow.specs.Private.Searching.{is_found}
use Rattle.max_flow.proofs.Graphs.{ends_hold, graph_net}
use Rattle.max_flow.proofs.NamedFlows.{at_none}

-- ---- relays are below their room

pub relay_within : (relays : List ℕ) (i : ℕ) → i < length relays → slice_index relays i < relay_room relays
relay_within [] i below = absurd (omega arith)
relay_within (region ∷ relays) zero below = omega arith
relay_within (region ∷ relays) (suc i) below =
    let rest : slice_index relays i < relay_room relays = relay_within relays i (omega arith) in
    omega (arith, rest)

relay_below : (relays : List ℕ) (region : ℕ) → list_any (nat_eq region) relays ≡ true → region < relay_room relays
relay_below [] region is = absurd (cc)
relay_below (first ∷ relays) region is = ⊎_elim
    (λ here. let same : region ≡ first = eqb-true region first here in omega (arith, same))
    (λ more. let rest : region < relay_room relays = relay_below relays region more in omega (arith, rest))
    (or_cases (nat_eq region first) (list_any (nat_eq region) relays) is)

tail_low : (count : ℕ) (relays : List ℕ) (end : End) → is_origin count relays end ≡ true →
    tail_of count end < 2 + 2 * count + relay_room relays
tail_low count relays Source is = omega arith
tail_low count relays (Point i) is = omega (arith, ltb-true i count is)
tail_low count relays (Relay r) is = omega (arith, relay_below relays r (and_parts _ _ is).1)
tail_low count relays Sink is = omega arith

head_low : (count : ℕ) (relays : List ℕ) (end : End) → is_target count relays end ≡ true →
    head_of count end < 2 + 2 * count + relay_room relays
head_low count relays Source is = absurd (cc)
head_low count relays (Point i) is = omega (arith, ltb-true i count is)
head_low count relays (Relay r) is = omega (arith, relay_below relays r (and_parts _ _ is).1)
head_low count relays Sink is = omega arith

-- ---- the small network is one

pub small_net : (graph : Graph) → IsNet (small_network_of graph)
small_net graph =
    let net = graph_net graph in
    record {
      same = net.same;
      limited = net.limited;
      some = omega arith;
      tails_inside = ends_hold (λ v. v < 2 + 2 * length graph.points + relay_room graph.relays) 2 (length graph.points)
          (λ link. tail_of (length graph.points) link.source)
          (is_link (length graph.points) graph.relays) graph.links
          (λ k below. omega arith)
          (λ link is. tail_low (length graph.points) graph.relays link.source (and_parts _ _ is).0)
          graph.links_are_valid;
      heads_inside = λ i below. ends_hold (λ v. v < 2 + 2 * length graph.points + relay_room graph.relays) 3
          (length graph.points)
          (λ link. head_of (length graph.points) link.target)
          (is_link (length graph.points) graph.relays) graph.links
          (λ k inside. omega arith)
          (λ link is. head_low (length graph.points) graph.relays link.target (and_parts _ _ (and_parts _ _ is).1).0)
          graph.links_are_valid i (subst (λ n. i < n) (sym net.same) below);
      not_into_source = net.not_into_source;
    }

-- ---- what holds of it

pub whole_side : (graph : Graph) (s : ℕ → Bool) → IsSide (small_network_of graph) s → IsSide (network_of graph) s
whole_side graph s is = record { source = is.source; sink = is.sink; closed = is.closed }

pub part_side : (graph : Graph) (s : ℕ → Bool) → IsSide (network_of graph) s → IsSide (small_network_of graph) s
part_side graph s is = record { source = is.source; sink = is.sink; closed = is.closed }

pub same_capacity : (graph : Graph) (s : ℕ → Bool) →
    capacity_of (small_network_of graph) s ≡ capacity_of (network_of graph) s
unfolding capacity_of
same_capacity graph s = refl

pub small_has_side : (graph : Graph) → HasSmallSide (network_of graph) → HasSmallSide (small_network_of graph)
small_has_side graph has = record {
  first = has.first;
  is_side = part_side graph has.first has.is_side;
  small = omega (arith, same_capacity graph has.first, has.small);
}

-- no edge joins a node behind the highest relay
pub whole_flow : (graph : Graph) (flow : List ℕ) → IsFlow (small_network_of graph) flow → IsFlow (network_of graph) flow
whole_flow graph flow is =
    let net = small_net graph in
    record {
      count = is.count;
      within = is.within;
      balanced = λ v from below. ⊎_elim
          (λ (inside : v < (small_network_of graph).nodes). is.balanced v from inside)
          (λ (past : (small_network_of graph).nodes ≤ v).
          at_none (network_of graph).heads flow v (λ i here e.
          let low : slice_index (network_of graph).heads i < (small_network_of graph).nodes =
          net.heads_inside i (subst (λ n. i < n) net.same here) in omega (arith, low, e, past))
          ∙ sym (at_none (network_of graph).tails flow v (λ i here e.
          let low : slice_index (network_of graph).tails i < (small_network_of graph).nodes =
          net.tails_inside i here in omega (arith, low, e, past))))
          (cases_lt v (small_network_of graph).nodes);
    }

pub whole_least : (graph : Graph) (value : ℕ) (places : List ℕ) → length places ≡ (small_network_of graph).nodes →
    IsLeast (small_network_of graph) value (is_found places) → IsLeast (network_of graph) value (is_found places)
whole_least graph value places count least = record {
  contained = λ other side few v below is. ⊎_elim
      (λ (inside : v < (small_network_of graph).nodes).
      least.contained other (part_side graph other side) (omega (arith, same_capacity graph other, few)) v inside is)
      (λ (past : (small_network_of graph).nodes ≤ v). absurd (
      let some : 0 < slice_index places v = ltb-true 0 (slice_index places v) is in
      let none : slice_index places v ≡ 0 = get_or_past places v 0 (omega (arith, count, past)) in
      omega (arith, some, none)))
      (cases_lt v (small_network_of graph).nodes);
}
