-- What bounds a flow: the capacity of any side.
use Rattle.std.specs.Prelude.{◌≡◌, ℕ, ◌≤◌, Bool, List}
use Rattle.flow_graph.specs.declared.graphs.Graph.{Graph}
use Rattle.max_flow.specs.declared.answers.Half.{Half}
use Rattle.max_flow.specs.Flows.{IsFlowOf, IsSideOf, flow_value, side_capacity}

-- no flow has a greater value than the capacity of any side
abbrev pub WeakDuality : Type 0
WeakDuality = (graph : Graph) (points links : List ℕ) (halves : List Half) (relays : List Bool) →
    IsFlowOf graph points links → IsSideOf graph halves relays →
    flow_value graph points links ≤ side_capacity graph halves relays

-- a flow and a side of one value: the flow has the greatest value and the side the smallest capacity
pub record AreBest (graph : Graph) (points links : List ℕ) (halves : List Half) (relays : List Bool) : Type 0 where
  pub greatest : (others more : List ℕ) → IsFlowOf graph others more → flow_value graph others more ≤ flow_value graph
      points links
  pub smallest : (others : List Half) (passed : List Bool) → IsSideOf graph others passed →
      side_capacity graph halves relays ≤ side_capacity graph others passed

abbrev pub EqualIsBest : Type 0
EqualIsBest = (graph : Graph) (points links : List ℕ) (halves : List Half) (relays : List Bool) →
    IsFlowOf graph points links → IsSideOf graph halves relays →
    flow_value graph points links ≡ side_capacity graph halves relays → AreBest graph points links halves relays
