use Rattle.std.proofs.Common.{◌≡◌, map, take}
use Rattle.flow_graph.proofs.finishing.names_of.Given as goal

abbrev pub invariant-loop-node : goal.invariant-loop-node
invariant-loop-node l = l.names ≡ map (λ node. node.point) (take l.node-index l.nodes)
