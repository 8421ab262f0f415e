use Rattle.std.proofs.Common.{◌++◌, List, take}
use Rattle.std.specs.Map.{keys_of}
use Rattle.flow_graph.specs.declared.events.Event.{Event}
use Rattle.measuring.specs.Recordings.{Records}
use Rattle.many_runs.specs.Private.Joining.{link_events}
use Rattle.many_runs.proofs.links.add_links.Given as goal

abbrev pub invariant-loop-index : goal.invariant-loop-index
invariant-loop-index l =
    (events : List Event) → Records l.initial.union events →
    Records l.union (events ++ link_events (keys_of (take l.index l.named.entries)))
