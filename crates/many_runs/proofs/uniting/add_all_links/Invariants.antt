use Rattle.std.proofs.Common.{◌++◌, List, length}
use Rattle.flow_graph.specs.declared.events.Event.{Event}
use Rattle.measuring.specs.Recordings.{Records}
use Rattle.many_runs.specs.Private.Joining.{recorded_links}
use Rattle.many_runs.proofs.FedEvents.{Reaches}
use Rattle.many_runs.proofs.uniting.add_all_links.Given as goal

abbrev pub invariant-loop-rest : goal.invariant-loop-rest
invariant-loop-rest l =
    (events : List Event) → Records l.initial.union events →
    Reaches l.union (recorded_links l.rest) (events ++ recorded_links l.recordings)

abbrev pub decreases-loop-rest : goal.decreases-loop-rest
decreases-loop-rest l = length l.rest
