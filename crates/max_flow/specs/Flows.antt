-- Flows and sides of a graph. A flow goes from the source over links to points and relays, and over links from them on
-- to the sink. A point has two halves: a link to it enters the first one, a link from it leaves the second one, and what
-- goes from the first to the second is at most its capacity. Nothing bounds what goes over a link or through a relay.
use Rattle.std.specs.Prelude.{◌≡◌, ℕ, ◌+◌, ◌^◌, ◌≤◌, ◌<◌, ◌&&◌, cond, not, nat_eq, nat_lt, Bool, true, false, IsTrue}
use Rattle.std.specs.Prelude.{List, [], ◌∷◌, length, map, slice_index, slice_index_or}
use Rattle.std.specs.List.{list_all, list_any}
use Rattle.flow_graph.specs.declared.ends.Arc.{Arc}
use Rattle.flow_graph.specs.declared.ends.End.{End}
use Rattle.flow_graph.specs.declared.ends.End.TheVariants.{Source, Point, Relay, Sink}
use Rattle.flow_graph.specs.declared.graphs.Graph.{Graph}
use Rattle.flow_graph.specs.declared.nodes.Node.{Node}
use Rattle.max_flow.specs.declared.answers.Half.{Half}
use Rattle.max_flow.specs.declared.answers.Half.TheVariants.{Both, FirstOnly, SecondOnly, Neither}

-- the sum of the numbers whose items pass a test, the number of each item being the one at its place in the other list
abbrev pub sum_where : {A : Type 0} → (A → Bool) → List A → List ℕ → ℕ
sum_where test [] numbers = 0
sum_where test (item ∷ items) [] = 0
sum_where test (item ∷ items) (number ∷ numbers) = cond (test item) number 0 + sum_where test items numbers

-- the capacities of the points
abbrev pub capacities : Graph → List ℕ
capacities graph = map (λ node. node.capacity) graph.points

-- ---- flows

-- whether an end is the source, a point or the relay of a region
abbrev pub at_source : End → Bool
at_source Source = true
at_source end = false

abbrev pub at_point : ℕ → End → Bool
at_point point (Point i) = nat_eq i point
at_point point end = false

abbrev pub at_relay : ℕ → End → Bool
at_relay region (Relay r) = nat_eq r region
at_relay region end = false

-- what flows out of an end, and into it: over the links from it, and over those to it
abbrev pub flow_out : Graph → List ℕ → (End → Bool) → ℕ
flow_out graph links is = sum_where (λ link. is link.source) graph.links links

abbrev pub flow_into : Graph → List ℕ → (End → Bool) → ℕ
flow_into graph links is = sum_where (λ link. is link.target) graph.links links

-- a feasible flow, by what goes through each point and over each link: through a point at most its capacity, all that
-- flows into it and all that flows out of it; and as much into each relay as out of it
pub record IsFlowOf (graph : Graph) (points links : List ℕ) : Type 0 where
  pub points_count : length points ≡ length graph.points
  pub links_count : length links ≡ length graph.links
  pub within : (i : ℕ) → i < length graph.points → slice_index points i ≤ slice_index (capacities graph) i
  pub into_points : (i : ℕ) → i < length graph.points → flow_into graph links (at_point i) ≡ slice_index points i
  pub out_of_points : (i : ℕ) → i < length graph.points → flow_out graph links (at_point i) ≡ slice_index points i
  pub through_relays : (region : ℕ) → flow_into graph links (at_relay region) ≡ flow_out graph links (at_relay region)

-- what flows out of the source
abbrev pub flow_value : Graph → List ℕ → List ℕ → ℕ
flow_value graph points links = flow_out graph links at_source

-- no flow has a greater value
abbrev pub HasNoGreater : Graph → ℕ → Type 0
HasNoGreater graph value = (points links : List ℕ) → IsFlowOf graph points links → flow_value graph points links ≤ value

-- no number of a list exceeds this one
abbrev pub AreAtMost : ℕ → List ℕ → Type 0
AreAtMost most numbers = (i : ℕ) → slice_index numbers i ≤ most

-- ---- sides

abbrev pub has_first : Half → Bool
has_first Both = true
has_first FirstOnly = true
has_first SecondOnly = false
has_first Neither = false

abbrev pub has_second : Half → Bool
has_second Both = true
has_second FirstOnly = false
has_second SecondOnly = true
has_second Neither = false

-- whether the first half of a point is in the side, and whether its second half is
abbrev pub first_in : List Half → ℕ → Bool
first_in halves i = has_first (slice_index_or halves i Neither)

abbrev pub second_in : List Half → ℕ → Bool
second_in halves i = has_second (slice_index_or halves i Neither)

-- whether the relay of a region is in the side: the answer that stands where the region stands
abbrev pub relay_in : List ℕ → List Bool → ℕ → Bool
relay_in [] answers region = false
relay_in (relay ∷ relays) [] region = false
relay_in (relay ∷ relays) (answer ∷ answers) region = cond (nat_eq relay region) answer (relay_in relays answers region)

-- whether what a link leaves is in the side, and whether what it enters is: the source is, the sink is not
abbrev pub left_in : Graph → List Half → List Bool → End → Bool
left_in graph halves relays Source = true
left_in graph halves relays (Point i) = second_in halves i
left_in graph halves relays (Relay r) = relay_in graph.relays relays r
left_in graph halves relays Sink = false

abbrev pub entered_in : Graph → List Half → List Bool → End → Bool
entered_in graph halves relays Source = true
entered_in graph halves relays (Point i) = first_in halves i
entered_in graph halves relays (Relay r) = relay_in graph.relays relays r
entered_in graph halves relays Sink = false

-- the link leads from inside the side to outside
abbrev pub leads_out : Graph → List Half → List Bool → Arc → Bool
leads_out graph halves relays link =
    left_in graph halves relays link.source && not (entered_in graph halves relays link.target)

-- a set of halves and relays that together with the source no link leaves, the sink being outside
pub record IsSideOf (graph : Graph) (halves : List Half) (relays : List Bool) : Type 0 where
  pub points_count : length halves ≡ length graph.points
  pub relays_count : length relays ≡ length graph.relays
  pub closed : list_any (leads_out graph halves relays) graph.links ≡ false

-- the point is cut: its first half is in the side and its second half is not
abbrev pub is_cut : Half → Bool
is_cut half = has_first half && not (has_second half)

-- the sum of the capacities of the points that the side cuts
abbrev pub side_capacity : Graph → List Half → List Bool → ℕ
side_capacity graph halves relays = sum_where is_cut halves (capacities graph)

-- each half and each relay that is in the first side is in the second one
pub record IsPartOf (graph : Graph) (halves : List Half) (relays : List Bool) (others : List Half) (passed : List
    Bool) : Type 0 where
  pub firsts : (i : ℕ) → first_in halves i ≡ true → first_in others i ≡ true
  pub seconds : (i : ℕ) → second_in halves i ≡ true → second_in others i ≡ true
  pub relays_too : (region : ℕ) → relay_in graph.relays relays region ≡ true →
      relay_in graph.relays passed region ≡ true

-- the side has the smallest capacity, and each side of that capacity has all of it
pub record Least (graph : Graph) (halves : List Half) (relays : List Bool) : Type 0 where
  pub side : IsSideOf graph halves relays
  pub smallest : (others : List Half) (passed : List Bool) → IsSideOf graph others passed →
      side_capacity graph halves relays ≤ side_capacity graph others passed
  pub contained : (others : List Half) (passed : List Bool) → IsSideOf graph others passed →
      side_capacity graph others passed ≡ side_capacity graph halves relays →
      IsPartOf graph halves relays others passed

-- ---- limits

abbrev pub is_small : Node → Bool
is_small node = nat_lt node.capacity (2 ^ 48)

-- at most 65,536 points, at most 1,048,576 links, and capacities below 2^48
pub record IsWithinLimits (graph : Graph) : Type 0 where
  pub points : length graph.points ≤ 65536
  pub links : length graph.links ≤ 1048576
  pub capacities : IsTrue (list_all is_small graph.points)
