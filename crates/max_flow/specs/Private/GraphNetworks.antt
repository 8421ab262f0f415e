-- The network of a graph, its nodes by their numbers. The edges are the inner ones of the points, each from a first half
-- to a second half with the point's capacity as its limit, and then the links, all open, in the graph's order.
use Rattle.std.specs.Prelude.{ℕ, zero, suc, ◌+◌, ◌*◌, ◌++◌, max, List, [], ◌∷◌, length, map}
use Rattle.flow_graph.specs.declared.graphs.Graph.{Graph}
use Rattle.max_flow.specs.Building.{tail_of, head_of}
use Rattle.max_flow.specs.Private.Networks.{Net}

-- start, start + 2, .. : n numbers
unfoldable pub halves_from : ℕ → ℕ → List ℕ
halves_from start zero = []
halves_from start (suc n) = halves_from start n ++ (start + 2 * n) ∷ []

abbrev pub network_of : Graph → Net
network_of graph = record {
  nodes = 2 + 2 * length graph.points + 65536;
  tails = halves_from 2 (length graph.points) ++ map (λ link. tail_of (length graph.points) link.source) graph.links;
  heads = halves_from 3 (length graph.points) ++ map (λ link. head_of (length graph.points) link.target) graph.links;
  limits = map (λ node. node.capacity) graph.points;
}

-- one more than the highest relay; 0 of none
abbrev pub relay_room : List ℕ → ℕ
relay_room [] = 0
relay_room (region ∷ relays) = max (region + 1) (relay_room relays)

-- the same network without the nodes behind the highest relay, which no edge joins
abbrev pub small_network_of : Graph → Net
small_network_of graph = record {
  nodes = 2 + 2 * length graph.points + relay_room graph.relays;
  tails = (network_of graph).tails;
  heads = (network_of graph).heads;
  limits = (network_of graph).limits;
}
