use Rattle.acceptance_law.proofs.GraphEvents.{named_closed}
use Rattle.acceptance_law.proofs.GraphTurns.{run_named}
use Rattle.acceptance_law.specs.GraphLaws.{ClosedEventsLaw}
use Rattle.run_labels.specs.Runs.{unlabelled, run_after}
use Rattle.std.specs.Prelude.{[]}
use Rattle.acceptance_law.proofs.graph_laws.sides_are_closed_for_events.Goals as goal

closed_law : ClosedEventsLaw
closed_law side regions answers start proper closed =
    named_closed side [] (run_after regions answers (unlabelled start)).events
    (run_named regions answers start proper).0 closed

pub returns : goal.returns
returns c = record { closed = closed_law }
