use Rattle.std.proofs.Common.{◌≡◌, map}
use Rattle.std.specs.Map.Iter.{deref_pair}
use Rattle.flow_graph.proofs.finishing.nodes_of.Given as goal

abbrev pub invariant-loop-point : goal.invariant-loop-point
invariant-loop-point l = map (λ node. (node.point, node.capacity)) l.nodes ≡ map deref_pair l.yielded
