use Rattle.std.proofs.Common.{◌++◌, List, replicate}
use Rattle.flow_graph.specs.declared.events.Event.{Event}
use Rattle.measuring.specs.Recordings.{Records}
use Rattle.many_runs.specs.Private.Joining.{passes}
use Rattle.many_runs.proofs.uniting.add_visits.Given as goal

abbrev pub invariant-loop-visit : goal.invariant-loop-visit
invariant-loop-visit l =
    (events : List Event) → Records l.initial.union events →
    Records l.union (events ++ passes l.point (replicate l._visit l.run.mask))
