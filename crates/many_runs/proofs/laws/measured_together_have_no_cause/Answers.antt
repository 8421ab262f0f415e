use Rattle.many_runs.proofs.ManyWithoutCause.{measured_together}
use Rattle.many_runs.proofs.laws.measured_together_have_no_cause.Goals as goal

pub returns : goal.returns
returns c = measured_together
