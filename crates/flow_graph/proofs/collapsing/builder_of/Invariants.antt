use Rattle.std.proofs.Common.{take}
use Rattle.flow_graph.specs.Builders.{StandsFor}
use Rattle.flow_graph.proofs.collapsing.builder_of.Given as goal

abbrev pub invariant-loop-event : goal.invariant-loop-event
invariant-loop-event l = StandsFor l.builder (take l.event-index l.events)
