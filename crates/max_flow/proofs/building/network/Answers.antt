use Rattle.std.proofs.Common.{◌≡◌, ◌+◌, ◌∙◌, length, refl, arith}
use Rattle.max_flow.specs.Private.GraphNetworks.{network_of}
use Rattle.max_flow.proofs.Graphs.{edges_count, graph_net}
use Rattle.max_flow.proofs.FewRelays.{small_net}
use Rattle.max_flow.proofs.GraphAnswers.{limits_fit}
use Rattle.max_flow.proofs.building.network.Goals as goal

pub chains_of-requires-clause-few : goal.chains_of-requires-clause-few
chains_of-requires-clause-few c =
    let count : length (network_of c.args.graph.now).tails ≡ length c.args.graph.now.points + length
    c.args.graph.now.links = edges_count c.args.graph.now in
    rw (c.as_slice-2.ensures, c.in_ok-ends.ensures.tails)
    (omega (arith, count, c.requires.points, c.requires.links))

pub chains_of-requires-2-clause-few : goal.chains_of-requires-2-clause-few
chains_of-requires-2-clause-few c =
    let same = (graph_net c.args.graph.now).same in
    let count : length (network_of c.args.graph.now).tails ≡ length c.args.graph.now.points + length
    c.args.graph.now.links = edges_count c.args.graph.now in
    rw (c.as_slice-3.ensures, c.in_ok-ends.ensures.heads)
    (omega (arith, same, count, c.requires.points, c.requires.links))

pub chains_of-requires-clause-keys : goal.chains_of-requires-clause-keys
chains_of-requires-clause-keys c =
    rw (c.as_slice-2.ensures, c.in_ok-ends.ensures.tails, c.node_count-nodes.ensures.count) (small_net c.args.graph.now).tails_inside

pub chains_of-requires-2-clause-keys : goal.chains_of-requires-2-clause-keys
chains_of-requires-2-clause-keys c =
    let same = (graph_net c.args.graph.now).same in
    rw (c.as_slice-3.ensures, c.in_ok-ends.ensures.heads, c.node_count-nodes.ensures.count) (λ i below.
    (small_net c.args.graph.now).heads_inside i (omega (arith, same, below)))

pub returns-clause-net : goal.returns-clause-net
returns-clause-net c =
    let tails : c.into_vec.result.items ≡ (network_of c.args.graph.now).tails =
    c.into_vec.ensures ∙ c.in_ok-ends.ensures.tails in
    let heads : c.into_vec-2.result.items ≡ (network_of c.args.graph.now).heads =
    c.into_vec-2.ensures ∙ c.in_ok-ends.ensures.heads in
    let limits : c.into_vec-3.result.items ≡ (network_of c.args.graph.now).limits =
    rw (c.into_vec-3.ensures, c.in_ok-limits.ensures, c.as_slice.ensures) refl in
    rw (c.node_count-nodes.ensures.count, tails, heads, limits) refl

pub returns-clause-network : goal.returns-clause-network
returns-clause-network c =
    let tails : c.into_vec.result.items ≡ (network_of c.args.graph.now).tails =
    c.into_vec.ensures ∙ c.in_ok-ends.ensures.tails in
    let heads : c.into_vec-2.result.items ≡ (network_of c.args.graph.now).heads =
    c.into_vec-2.ensures ∙ c.in_ok-ends.ensures.heads in
    let limits : c.into_vec-3.result.items ≡ (network_of c.args.graph.now).limits =
    rw (c.into_vec-3.ensures, c.in_ok-limits.ensures, c.as_slice.ensures) refl in
    let same : length (network_of c.args.graph.now).heads ≡ length (network_of c.args.graph.now).tails =
    (graph_net c.args.graph.now).same in
    record {
      net = rw (c.node_count-nodes.ensures.count, tails, heads, limits) (small_net c.args.graph.now);
      nodes_few = omega (arith, c.node_count-nodes.ensures.few, c.requires.points);
      edges_few = rw tails (omega (arith, edges_count c.args.graph.now, c.requires.points, c.requires.links));
      fits = rw limits (limits_fit c.args.graph.now c.requires);
      leaving = rw c.into_vec.ensures (rw c.as_slice-2.ensures at c.in_ok-leaving.ensures);
      entering = rw (tails, ← same, c.into_vec-2.ensures, ← c.in_ok-ends.ensures.heads)
          (rw c.as_slice-3.ensures at c.in_ok-entering.ensures);
    }
