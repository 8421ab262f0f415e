-- What a limit that the events exceed says of their graph, and of events that go on from there.
use Rattle.std.specs.Prelude.{◌≤◌, ◌^◌, ◌++◌, nat_lt, Bool, IsTrue, List, length}
use Rattle.std.specs.List.{list_all}
use Rattle.flow_graph.specs.declared.events.Event.{Event}
use Rattle.flow_graph.specs.declared.graphs.Graph.{Graph}
use Rattle.flow_graph.specs.declared.nodes.Node.{Node}
use Rattle.flow_graph.specs.EventGraphs.{IsGraphOf}
use Rattle.location_collapse.specs.Limits.{ExceedsLimit}

abbrev pub has_small_capacity : Node → Bool
has_small_capacity node = nat_lt node.capacity (2 ^ 48)

-- at most 65,536 points, at most 1,048,576 links, and capacities below 2^48
pub record IsWithinLimits (graph : Graph) : Type 0 where
  pub points : length graph.points ≤ 65536
  pub links : length graph.links ≤ 1048576
  pub capacities : IsTrue (list_all has_small_capacity graph.points)

-- no graph of events that exceed a limit is within the limits
abbrev pub GraphsExceed : Type 0
GraphsExceed = (events : List Event) (graph : Graph) → IsGraphOf events graph → ExceedsLimit events → IsWithinLimits graph → ⊥

-- events that exceed a limit exceed it whatever comes after them
abbrev pub MoreExceed : Type 0
MoreExceed = (events more : List Event) → ExceedsLimit events → ExceedsLimit (events ++ more)
