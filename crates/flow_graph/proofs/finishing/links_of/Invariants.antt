use Rattle.std.proofs.Common.{◌≡◌, map}
use Rattle.std.specs.Map.Iter.{deref}
use Rattle.flow_graph.specs.Builders.{arc_at}
use Rattle.flow_graph.proofs.finishing.links_of.Given as goal

abbrev pub invariant-loop-link : goal.invariant-loop-link
invariant-loop-link l = l.links ≡ map (arc_at l.names) (map deref l.yielded)
