-- What a certificate shows: that its flow is a maximum flow and its side a minimum cut, or the first thing that is
-- wrong with it.
use Rattle.std.specs.Prelude.{◌≡◌, ℕ, ◌+◌, ◌*◌, ◌≤◌, ◌<◌, ◌==◌, not, nat_lt, Bool, true, false, length, take}
use Rattle.std.specs.Prelude.{slice_index, slice_get, Some}
use Rattle.std.specs.List.{list_any}
use Rattle.flow_graph.specs.declared.ends.Arc.{Arc}
use Rattle.flow_graph.specs.declared.graphs.Graph.{Graph}
use Rattle.max_flow.specs.declared.answers.Solved.{Solved}
use Rattle.max_flow.specs.Flows.{IsFlowOf, IsSideOf, at_point, at_relay, capacities, flow_into, flow_out, flow_value}
use Rattle.max_flow.specs.Flows.{leads_out, side_capacity}
use Rattle.flow_certificate.specs.declared.verdicts.Member.{Member}
use Rattle.flow_certificate.specs.declared.verdicts.Member.TheVariants.{In, Out, Relay}
use Rattle.flow_certificate.specs.declared.verdicts.CertFault.{CertFault}
use Rattle.flow_certificate.specs.declared.verdicts.CertFault.TheVariants.{Over, Unbalanced, OpenAcross, Values}
use Rattle.flow_certificate.specs.declared.verdicts.CertVerdict.{CertVerdict}
use Rattle.flow_certificate.specs.declared.verdicts.CertVerdict.TheVariants.{Verified, Rejected}

-- ---- the first that passes a test

-- i is the first number of those from `from` on and below `end` that passes
pub record IsFirst (test : ℕ → Bool) (from end i : ℕ) : Type 0 where
  pub from_on : from ≤ i
  pub below : i < end
  pub passes : test i ≡ true
  pub before : (k : ℕ) → from ≤ k → k < i → test k ≡ false

-- none of them passes
abbrev pub HasNone : (ℕ → Bool) → ℕ → ℕ → Type 0
HasNone test from end = (k : ℕ) → from ≤ k → k < end → test k ≡ false

-- ---- what may be wrong

-- more flows through a point than its capacity
abbrev pub is_over : Graph → Solved → ℕ → Bool
is_over graph solved point = nat_lt (slice_index (capacities graph) point) (slice_index solved.flow.points point)

-- what flows into a half of a point, or into a relay, is not what flows out of it
abbrev pub is_unbalanced : Graph → Solved → Member → Bool
is_unbalanced graph solved (In point) =
    not (flow_into graph solved.flow.links (at_point point) == slice_index solved.flow.points point)
is_unbalanced graph solved (Out point) =
    not (slice_index solved.flow.points point == flow_out graph solved.flow.links (at_point point))
is_unbalanced graph solved (Relay region) =
    not (flow_into graph solved.flow.links (at_relay region) == flow_out graph solved.flow.links (at_relay region))

-- a link leaves the source side
abbrev pub is_across : Graph → Solved → Arc → Bool
is_across graph solved link = leads_out graph solved.side.points solved.side.relays link

-- the place of a node among those of a graph of so many points: the halves in the order of the points, then the relays
abbrev pub place_of : ℕ → Member → ℕ
place_of count (In point) = 2 * point
place_of count (Out point) = 1 + 2 * point
place_of count (Relay region) = 2 * count + region

-- the node stands in a graph of so many points
abbrev pub is_node_of : ℕ → Member → Bool
is_node_of count (In point) = nat_lt point count
is_node_of count (Out point) = nat_lt point count
is_node_of count (Relay region) = nat_lt region 65536

-- ---- verdicts

abbrev pub HasNoneOver : Graph → Solved → Type 0
HasNoneOver graph solved = HasNone (is_over graph solved) 0 (length graph.points)

abbrev pub HasNoneUnbalanced : Graph → Solved → Type 0
HasNoneUnbalanced graph solved = (node : Member) → is_node_of (length graph.points) node ≡ true →
    is_unbalanced graph solved node ≡ false

abbrev pub HasNoneAcross : Graph → Solved → Type 0
HasNoneAcross graph solved = list_any (is_across graph solved) graph.links ≡ false

-- the flow out of the source, and the capacity of the side
abbrev pub flow_in : Graph → Solved → ℕ
flow_in graph solved = flow_value graph solved.flow.points solved.flow.links

abbrev pub cut_in : Graph → Solved → ℕ
cut_in graph solved = side_capacity graph solved.side.points solved.side.relays

-- the flow is feasible, the side is a side, and both have the value
pub record IsVerified (graph : Graph) (solved : Solved) (value : ℕ) : Type 0 where
  pub named : value ≡ solved.value
  pub flow : IsFlowOf graph solved.flow.points solved.flow.links
  pub side : IsSideOf graph solved.side.points solved.side.relays
  pub flow_value : flow_in graph solved ≡ value
  pub capacity : cut_in graph solved ≡ value

-- this point is the first whose flow exceeds its capacity
abbrev pub IsOver : Graph → Solved → ℕ → Type 0
IsOver graph solved point = IsFirst (is_over graph solved) 0 (length graph.points) point

-- this node is the first that is not balanced
pub record IsFirstUnbalanced (graph : Graph) (solved : Solved) (node : Member) : Type 0 where
  pub known : is_node_of (length graph.points) node ≡ true
  pub unbalanced : is_unbalanced graph solved node ≡ true
  pub before : (other : Member) → is_node_of (length graph.points) other ≡ true →
      place_of (length graph.points) other < place_of (length graph.points) node →
      is_unbalanced graph solved other ≡ false

-- none is over its capacity, and this node is the first that is not balanced
pub record IsUnbalanced (graph : Graph) (solved : Solved) (node : Member) : Type 0 where
  pub none_over : HasNoneOver graph solved
  pub first : IsFirstUnbalanced graph solved node

-- this link is the first that leaves the source side
pub record IsFirstAcross (graph : Graph) (solved : Solved) (link : Arc) : Type 0 where
  pub index : ℕ
  pub is : slice_get graph.links index ≡ Some link
  pub across : is_across graph solved link ≡ true
  pub before : list_any (is_across graph solved) (take index graph.links) ≡ false

-- all are, and this link is the first that leaves the source side
pub record IsOpenAcross (graph : Graph) (solved : Solved) (link : Arc) : Type 0 where
  pub none_over : HasNoneOver graph solved
  pub none_unbalanced : HasNoneUnbalanced graph solved
  pub first : IsFirstAcross graph solved link

-- none does, and these are the value, the flow out of the source and the side's capacity, which are not all equal
pub record HasValues (graph : Graph) (solved : Solved) (value flow cut : ℕ) : Type 0 where
  pub none_over : HasNoneOver graph solved
  pub none_unbalanced : HasNoneUnbalanced graph solved
  pub none_across : HasNoneAcross graph solved
  pub value_is : value ≡ solved.value
  pub flow_is : flow ≡ flow_in graph solved
  pub cut_is : cut ≡ cut_in graph solved
  pub differ : value ≡ flow → value ≡ cut → ⊥

-- the fault is the first that the certificate has
abbrev pub IsFirstFlowFault : Graph → Solved → CertFault → Type 0
IsFirstFlowFault graph solved (Over point) = IsOver graph solved point
IsFirstFlowFault graph solved (Unbalanced node) = IsUnbalanced graph solved node
IsFirstFlowFault graph solved (OpenAcross link) = IsOpenAcross graph solved link
IsFirstFlowFault graph solved (Values value flow cut) = HasValues graph solved value flow cut

-- what the certificate shows
abbrev pub IsVerdict : Graph → Solved → CertVerdict → Type 0
IsVerdict graph solved (Verified value) = IsVerified graph solved value
IsVerdict graph solved (Rejected fault) = IsFirstFlowFault graph solved fault
