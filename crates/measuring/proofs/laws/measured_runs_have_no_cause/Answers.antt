use Rattle.measuring.proofs.DecidedRuns.{runs_are_decided, refusals_are_decided}
use Rattle.measuring.proofs.MeasuredWithoutCause.{measured_have_no_cause}
use Rattle.measuring.proofs.laws.measured_runs_have_no_cause.Goals as goal

pub returns : goal.returns
returns c = record { runs = runs_are_decided; refusals = refusals_are_decided; measured = measured_have_no_cause }
