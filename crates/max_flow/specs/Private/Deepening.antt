-- Walks from the source over the residual network of a flow, as stacks of nodes, and the arcs still to be tried.
use Rattle.std.specs.Prelude.{◌≡◌, ℕ, ◌+◌, ◌-◌, ◌≤◌, ◌<◌, List, length, slice_index}
use Rattle.max_flow.specs.declared.deepening.LevelGraph.{LevelGraph}
use Rattle.max_flow.specs.declared.networks.Network.{Network}
use Rattle.max_flow.specs.declared.searching.Tree.{Tree}
use Rattle.max_flow.specs.Private.Networks.{Net}
use Rattle.max_flow.specs.Private.Searching.{unfound}
use Rattle.max_flow.specs.Private.Solving.{IsTree}

-- the nodes on the stack, by their places in it
pub record IsStack (nodes : ℕ) (places arrivals rooms queue : List ℕ) : Type 0 where
  pub places_count : length places ≡ nodes
  pub arrivals_count : length arrivals ≡ nodes
  pub rooms_count : length rooms ≡ nodes
  pub others : length queue + unfound places nodes ≡ nodes
  pub root : slice_index places 0 ≡ 1
  pub within : (v : ℕ) → v < nodes → slice_index places v ≤ length queue
  pub queued : (v : ℕ) → v < nodes → 0 < slice_index places v → slice_index queue (slice_index places v - 1) ≡ v
  pub inside : (q : ℕ) → q < length queue → slice_index queue q < nodes
  pub placed : (q : ℕ) → q < length queue → slice_index places (slice_index queue q) ≡ q + 1
  pub wide : (v : ℕ) → v < nodes → 0 < slice_index places v → 0 < slice_index rooms v

-- for each node 0, or one more than an edge with this key
pub record AreCursors (keys : List ℕ) (nodes : ℕ) (cursors : List ℕ) : Type 0 where
  pub count : length cursors ≡ nodes
  pub within : (v : ℕ) → v < nodes → slice_index cursors v ≤ length keys
  pub here : (v : ℕ) → v < nodes → 0 < slice_index cursors v → slice_index keys (slice_index cursors v - 1) ≡ v

-- for each node an edge that leaves it and one that enters it, or 0
pub record HasCurrentArcs (network : Network) (graph : LevelGraph) : Type 0 where
  pub leaving : AreCursors network.tails.items network.nodes graph.leaving.items
  pub entering : AreCursors network.heads.items network.nodes graph.entering.items

-- the nodes that are found are those of a walk from the source
pub record IsWalk (net : Net) (flow : List ℕ) (tree : Tree) : Type 0 where
  pub count : length flow ≡ length net.tails
  pub tree_is : IsTree net flow tree
  pub root : slice_index tree.places.items 0 ≡ 1

-- .. and this is one of them
pub record IsWalkTo (net : Net) (flow : List ℕ) (tree : Tree) (at : ℕ) : Type 0 where
  pub walk : IsWalk net flow tree
  pub inside : at < net.nodes
  pub found : 0 < slice_index tree.places.items at
