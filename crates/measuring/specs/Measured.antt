-- What a measurement keeps.
use Rattle.std.specs.Prelude.{Bool, List}
use Rattle.std.specs.List.{list_all, list_any}
use Rattle.flow_base.specs.declared.points.Point.{Point}
use Rattle.flow_graph.specs.declared.nodes.Node.{Node}
use Rattle.flow_base.specs.PointOrders.{is_same}
use Rattle.flow_base.specs.Points.{is_slot}

abbrev pub is_point_in : List Node → Point → Bool
is_point_in nodes point = list_any (λ node. is_same node.point point) nodes

-- each of the points is one of a graph's
abbrev pub are_points_in : List Node → List Point → Bool
are_points_in nodes points = list_all (is_point_in nodes) points

-- the slot of a point is one that a turn passes
abbrev pub has_slot : Node → Bool
has_slot node = is_slot node.point.slot
