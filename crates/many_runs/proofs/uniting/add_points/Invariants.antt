use Rattle.std.proofs.Common.{◌++◌, List, length}
use Rattle.flow_graph.specs.declared.events.Event.{Event}
use Rattle.measuring.specs.Recordings.{Records}
use Rattle.many_runs.specs.Private.Joining.{passes_at}
use Rattle.many_runs.proofs.FedEvents.{Reaches}
use Rattle.many_runs.proofs.uniting.add_points.Given as goal

abbrev pub invariant-loop-rest : goal.invariant-loop-rest
invariant-loop-rest l =
    (events : List Event) → Records l.initial.union events →
    Reaches l.union (passes_at l.recordings l.rest) (events ++ passes_at l.recordings l.points)

abbrev pub decreases-loop-rest : goal.decreases-loop-rest
decreases-loop-rest l = length l.rest
