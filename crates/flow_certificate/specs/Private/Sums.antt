-- The sums at a block of neighbouring nodes, as far as a walk over the edges has come.
use Rattle.std.specs.Prelude.{◌≡◌, ℕ, ◌+◌, ◌^◌, ◌<◌, ◌==◌, ◌++◌, cond, not, Bool, List, length, map, slice_index}
use Rattle.flow_graph.specs.declared.ends.Arc.{Arc}
use Rattle.flow_graph.specs.declared.graphs.Graph.{Graph}
use Rattle.max_flow.specs.declared.answers.Solved.{Solved}
use Rattle.max_flow.specs.Building.{head_of, tail_of}
use Rattle.max_flow.specs.Private.GraphNetworks.{network_of}
use Rattle.max_flow.specs.Private.Networks.{at_node, sum_below}

-- what flows through each edge of the graph's network: through the points, and then over the links
abbrev pub flows_of : Solved → List ℕ
flows_of solved = solved.flow.points ++ solved.flow.links

-- what flows into the node with a number is not what flows out of it
abbrev pub is_uneven : Graph → Solved → ℕ → Bool
is_uneven graph solved node =
    not (at_node (network_of graph).heads (flows_of solved) node == at_node (network_of graph).tails (flows_of solved)
    node)

-- what the first n edges bring to a node
unfoldable pub brought : List ℕ → List ℕ → ℕ → ℕ → ℕ
brought keys flows n node = sum_below n (λ i. cond (slice_index keys i == node) (slice_index flows i) 0)

-- the numbers of the nodes that links leave, and of those that they enter, where there are so many points
abbrev pub tails_of : ℕ → List Arc → List ℕ
tails_of count links = map (λ link. tail_of count link.source) links

abbrev pub heads_of : ℕ → List Arc → List ℕ
heads_of count links = map (λ link. head_of count link.target) links

-- what one edge brings to a node
abbrev pub given : ℕ → ℕ → ℕ → ℕ
given key amount node = cond (key == node) amount 0

-- the counters, of the nodes from `base` on, have risen by what is brought to each node
pub record AreAdded (base : ℕ) (more : ℕ → ℕ) (old new : List ℕ) : Type 0 where
  pub count : length new ≡ length old
  pub each : (k : ℕ) → k < length old → slice_index new k ≡ slice_index old k + more (base + k)

-- numbers that a certificate can name
abbrev pub AreSmall : List ℕ → Type 0
AreSmall numbers = (i : ℕ) → slice_index numbers i < 2 ^ 48

-- counters with room for what a list of such numbers brings
abbrev pub HaveRoom : List ℕ → Type 0
HaveRoom sums = (k : ℕ) → k < length sums → slice_index sums k < 2 ^ 120

-- the counters have the sums at the nodes from `base` on
abbrev pub HaveSums : List ℕ → List ℕ → ℕ → List ℕ → Type 0
HaveSums keys flows base sums = (k : ℕ) → k < length sums → slice_index sums k ≡ at_node keys flows (base + k)

abbrev pub AreZero : List ℕ → Type 0
AreZero sums = (k : ℕ) → k < length sums → slice_index sums k ≡ 0

-- two lists of counters differ at an index
abbrev pub differ_at : List ℕ → List ℕ → ℕ → Bool
differ_at first second k = not (slice_index first k == slice_index second k)
