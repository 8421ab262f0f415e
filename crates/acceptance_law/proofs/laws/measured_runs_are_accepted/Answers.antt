use Rattle.acceptance_law.proofs.CoveredRuns.{covered_law}
use Rattle.acceptance_law.proofs.CutMeasured.{measured_law}
use Rattle.acceptance_law.proofs.laws.measured_runs_are_accepted.Goals as goal

pub returns : goal.returns
returns c = record { measured = measured_law covered_law }
