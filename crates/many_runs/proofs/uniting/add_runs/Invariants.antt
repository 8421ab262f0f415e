use Rattle.std.proofs.Common.{◌++◌, List, length}
use Rattle.flow_graph.specs.declared.events.Event.{Event}
use Rattle.measuring.specs.Recordings.{Records}
use Rattle.measuring.specs.VisitRuns.{run_masks}
use Rattle.many_runs.specs.Private.Joining.{passes}
use Rattle.many_runs.proofs.FedEvents.{Reaches}
use Rattle.many_runs.proofs.uniting.add_runs.Given as goal

abbrev pub invariant-loop-rest : goal.invariant-loop-rest
invariant-loop-rest l =
    (events : List Event) → Records l.initial.union events →
    Reaches l.union (passes l.point (run_masks l.rest)) (events ++ passes l.point (run_masks l.runs))

abbrev pub decreases-loop-rest : goal.decreases-loop-rest
decreases-loop-rest l = length l.rest
