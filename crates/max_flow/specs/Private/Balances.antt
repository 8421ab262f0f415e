-- What a look over a flow finds.
use Rattle.std.specs.Prelude.{◌≡◌, ℕ, ◌≤◌, ◌<◌, ◌==◌, cond, List, length, slice_index}
use Rattle.max_flow.specs.Private.Networks.{Net, IsFlow, sum_below, source_flow}
use Rattle.max_flow.specs.Flows.{AreAtMost}
use Rattle.max_flow.specs.Private.Rooms.{IsBounded}

-- the sum of those of the first n numbers whose key is this node
abbrev pub sum_at : List ℕ → List ℕ → ℕ → ℕ → ℕ
sum_at keys numbers n v = sum_below n (λ i. cond (slice_index keys i == v) (slice_index numbers i) 0)

-- for each node the sum of those of the first n numbers that have it as their key
pub record AreSums (keys numbers : List ℕ) (n : ℕ) (sums : List ℕ) : Type 0 where
  pub each : (v : ℕ) → v < length sums → slice_index sums v ≡ sum_at keys numbers n v

-- each node but the source and the sink has the same number in both lists
pub record AreBalanced (into out : List ℕ) : Type 0 where
  pub each : (v : ℕ) → 2 ≤ v → v < length into → slice_index into v ≡ slice_index out v

-- a feasible flow of this value, within what numbers hold, of which no part exceeds the value
pub record IsFlowOfValue (net : Net) (flow : List ℕ) (value : ℕ) : Type 0 where
  pub flow_is : IsFlow net flow
  pub bounded : IsBounded net flow
  pub value_is : source_flow net flow ≡ value
  pub most : AreAtMost value flow
