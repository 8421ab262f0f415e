-- What the parts of the solver keep of a graph's network.
use Rattle.std.specs.Prelude.{◌≡◌, ℕ, ◌^◌, ◌<◌, List, length, slice_index}
use Rattle.max_flow.specs.declared.networks.Network.{Network}
use Rattle.max_flow.specs.declared.searching.Tree.{Tree}
use Rattle.max_flow.specs.Private.Networks.{Net, IsNet, IsFlow, source_flow}
use Rattle.max_flow.specs.Flows.{AreAtMost}
use Rattle.max_flow.specs.Private.Chains.{AreChains}
use Rattle.max_flow.specs.Private.Balances.{IsFlowOfValue}
use Rattle.max_flow.specs.Private.Searching.{IsFound, is_found}
use Rattle.max_flow.specs.Private.Rooms.{IsClosed}

abbrev pub net_of : Network → Net
net_of network = record {
  nodes = network.nodes;
  tails = network.tails.items;
  heads = network.heads.items;
  limits = network.limits.items;
}

-- a network whose limits fit in a number, with the edges at each node in chains
pub record IsNetwork (network : Network) : Type 0 where
  pub net : IsNet (net_of network)
  pub nodes_few : network.nodes < 2 ^ 31
  pub edges_few : length network.tails.items < 2 ^ 31
  pub fits : (i : ℕ) → slice_index network.limits.items i < 2 ^ 64
  pub leaving : AreChains network.tails.items (length network.tails.items) network.nodes network.leaving.first.items
      network.leaving.next.items
  pub entering : AreChains network.heads.items (length network.tails.items) network.nodes network.entering.first.items
      network.entering.next.items

abbrev pub IsTree : Net → List ℕ → Tree → Type 0
IsTree net flow tree = IsFound net flow tree.places.items tree.arrivals.items tree.rooms.items tree.queue.items

-- a tree with room for so many nodes
pub record IsRoomy (nodes : ℕ) (tree : Tree) : Type 0 where
  pub places_count : length tree.places.items ≡ nodes
  pub arrivals_count : length tree.arrivals.items ≡ nodes
  pub rooms_count : length tree.rooms.items ≡ nodes

-- a flow of this value, and a search over it
pub record IsSearched (net : Net) (flow : List ℕ) (value : ℕ) (tree : Tree) : Type 0 where
  pub flow_of : IsFlowOfValue net flow value
  pub tree_is : IsTree net flow tree
  pub shut : slice_index tree.places.items 1 ≡ 0 → IsClosed net flow (is_found tree.places.items)

-- a flow of this value, and a search over it that does not find the sink
pub record IsRaised (net : Net) (flow : List ℕ) (value : ℕ) (tree : Tree) : Type 0 where
  pub flow_is : IsFlow net flow
  pub value_is : source_flow net flow ≡ value
  pub most : AreAtMost value flow
  pub tree_is : IsTree net flow tree
  pub sink : slice_index tree.places.items 1 ≡ 0
  pub shut : IsClosed net flow (is_found tree.places.items)

-- so many zeros
pub record AreZeros (n : ℕ) (numbers : List ℕ) : Type 0 where
  pub count : length numbers ≡ n
  pub each : (i : ℕ) → slice_index numbers i ≡ 0
