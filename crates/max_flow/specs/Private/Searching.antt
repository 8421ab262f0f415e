-- A search from the source over edges with room: which nodes are found, in which order, and over which edges.
use Rattle.std.specs.Prelude.{◌≡◌, ℕ, ◌+◌, ◌-◌, ◌≤◌, ◌<◌, ◌≢◌, ◌==◌, nat_lt, cond, Bool, true}
use Rattle.std.specs.Prelude.{List, [], ◌∷◌, length, slice_index}
use Rattle.max_flow.specs.declared.searching.ResidualArc.{ResidualArc}
use Rattle.max_flow.specs.Private.Networks.{Net, at_node, sum_below}
use Rattle.max_flow.specs.Flows.{AreAtMost}
use Rattle.max_flow.specs.Private.Rooms.{bound, room_into, other_end, IsBounded, IsClosed}

-- how a node other than the source was found
pub record Arrives (net : Net) (flow places arrivals rooms : List ℕ) (v : ℕ) : Type 0 where
  pub edge : slice_index arrivals v < length net.tails
  pub joins : slice_index net.heads (slice_index arrivals v) ≢ v → slice_index net.tails (slice_index arrivals v) ≡ v
  pub placed : 0 < slice_index places (other_end net (slice_index arrivals v) v)
  pub earlier : slice_index places (other_end net (slice_index arrivals v) v) < slice_index places v
  pub narrower : slice_index rooms v ≤ slice_index rooms (other_end net (slice_index arrivals v) v)
  pub room : slice_index rooms v ≤ room_into net flow (slice_index arrivals v) v
  pub some : 0 < slice_index rooms v

-- each node found at this place or before is reached over edges with room
pub record HasWalks (net : Net) (flow places arrivals rooms : List ℕ) (last : ℕ) : Type 0 where
  pub arrives : (v : ℕ) → v < net.nodes → v ≢ 0 → 0 < slice_index places v → slice_index places v ≤ last →
      Arrives net flow places arrivals rooms v

-- a flow of this value whose last part, d from the node `at` to the sink, has no beginning yet
pub record Carries (net : Net) (flow : List ℕ) (value at d : ℕ) : Type 0 where
  pub carried : (x : ℕ) → x < net.nodes → x ≢ 1 → at_node net.heads flow x + cond (0 == x) value 0 + cond (at == x) d
      0 ≡ at_node net.tails flow x

-- a walk back stands at a node found before, with d more to bring there
pub record IsWalking (net : Net) (flow places arrivals rooms : List ℕ) (value at d : ℕ) : Type 0 where
  pub inside : at < net.nodes
  pub found : 0 < slice_index places at
  pub wide : d ≤ slice_index rooms at
  pub bounded : IsBounded net flow
  pub carries : Carries net flow value at d
  pub walks : HasWalks net flow places arrivals rooms (slice_index places at)

-- a walk back has raised no edge by more than d, and none between nodes that it has yet to leave
pub record IsRaising (net : Net) (flow places : List ℕ) (value at d : ℕ) : Type 0 where
  pub most : AreAtMost (value + d) flow
  pub ahead : (i : ℕ) → slice_index places (slice_index net.tails i) ≤ slice_index places at → slice_index places
      (slice_index net.heads i) ≤ slice_index places at → slice_index flow i ≤ value

-- how many of the first n nodes are not found yet
unfoldable pub unfound : List ℕ → ℕ → ℕ
unfound places n = sum_below n (λ v. cond (slice_index places v == 0) 1 0)

-- the state of a search: the place of each found node in the queue, counted from 1, the edge over which it was found,
-- and how much can be brought there
pub record IsFound (net : Net) (flow places arrivals rooms queue : List ℕ) : Type 0 where
  pub places_count : length places ≡ net.nodes
  pub arrivals_count : length arrivals ≡ net.nodes
  pub rooms_count : length rooms ≡ net.nodes
  pub others : length queue + unfound places net.nodes ≡ net.nodes
  pub source : 0 < slice_index places 0
  pub walks : HasWalks net flow places arrivals rooms (length queue)
  pub within : (v : ℕ) → v < net.nodes → slice_index places v ≤ length queue
  pub queued : (v : ℕ) → v < net.nodes → 0 < slice_index places v → slice_index queue (slice_index places v - 1) ≡ v
  pub inside : (q : ℕ) → q < length queue → slice_index queue q < net.nodes
  pub placed : (q : ℕ) → q < length queue → slice_index places (slice_index queue q) ≡ q + 1
  pub wide : (v : ℕ) → v < net.nodes → 0 < slice_index places v → 0 < slice_index rooms v
  pub least : (s : ℕ → Bool) → s 0 ≡ true → IsClosed net flow s → (v : ℕ) → v < net.nodes → 0 < slice_index places v →
      s v ≡ true

-- nodes found before keep their places, and the others come after them
pub record HasGrown (places : List ℕ) (count : ℕ) (later : List ℕ) (more : ℕ) : Type 0 where
  pub longer : count ≤ more
  pub kept : (v : ℕ) → 0 < slice_index places v → slice_index later v ≡ slice_index places v
  pub fresh : (v : ℕ) → slice_index places v ≡ 0 → 0 < slice_index later v → count < slice_index later v

-- nothing more is to be found from the nodes at the first places
pub record IsScanned (net : Net) (flow places : List ℕ) (next : ℕ) : Type 0 where
  pub forward : (i : ℕ) → i < length net.tails → 0 < slice_index places (slice_index net.tails i) → slice_index places
      (slice_index net.tails i) ≤ next →
      slice_index flow i < bound net.limits i → 0 < slice_index places (slice_index net.heads i)
  pub backward : (i : ℕ) → i < length net.tails → 0 < slice_index places (slice_index net.heads i) →
      slice_index places (slice_index net.heads i) ≤ next →
      0 < slice_index flow i → 0 < slice_index places (slice_index net.tails i)

-- nothing more is to be found from this node, over the edges from `cursor` on that leave it
pub record HasLeft (net : Net) (flow places : List ℕ) (at cursor : ℕ) : Type 0 where
  pub left : (i : ℕ) → cursor ≤ i → i < length net.tails → slice_index net.tails i ≡ at → slice_index flow i < bound
      net.limits i → 0 < slice_index places (slice_index net.heads i)

-- .. over the edges from `cursor` on that enter it
pub record HasEntered (net : Net) (flow places : List ℕ) (at cursor : ℕ) : Type 0 where
  pub entered : (i : ℕ) → cursor ≤ i → i < length net.tails → slice_index net.heads i ≡ at → 0 < slice_index flow i →
      0 < slice_index places (slice_index net.tails i)

-- no edge that enters this node has flow
pub record HasNoInflow (net : Net) (flow : List ℕ) (at : ℕ) : Type 0 where
  pub none : (i : ℕ) → i < length net.tails → slice_index net.heads i ≡ at → slice_index flow i ≡ 0

abbrev pub is_found : List ℕ → ℕ → Bool
is_found places v = nat_lt 0 (slice_index places v)

-- what is known of the edge over which an unplaced node is reached
pub record Reaches (net : Net) (flow places : List ℕ) (source edge node room : ℕ) : Type 0 where
  pub source_inside : source < net.nodes
  pub source_placed : 0 < slice_index places source
  pub node_inside : node < net.nodes
  pub edge_inside : edge < length net.tails
  pub joins : slice_index net.heads edge ≢ node → slice_index net.tails edge ≡ node
  pub end : other_end net edge node ≡ source
  pub room_is : room ≡ room_into net flow edge node

-- an arc over which its end is reached, where that is not found yet
pub record IsArc (net : Net) (flow places : List ℕ) (arc : ResidualArc) : Type 0 where
  pub from_inside : arc.from < net.nodes
  pub to_inside : arc.to < net.nodes
  pub reaches : slice_index places arc.to ≡ 0 → Reaches net flow places arc.from arc.edge arc.to arc.room

-- the source alone is found
pub record IsStart (nodes : ℕ) (places arrivals rooms queue : List ℕ) : Type 0 where
  pub places_count : length places ≡ nodes
  pub arrivals_count : length arrivals ≡ nodes
  pub rooms_count : length rooms ≡ nodes
  pub queued : queue ≡ 0 ∷ []
  pub source : slice_index places 0 ≡ 1
  pub others : (v : ℕ) → v ≢ 0 → slice_index places v ≡ 0
  pub wide : 0 < slice_index rooms 0
