use Rattle.acceptance_law.proofs.CoveredRuns.{covered_law}
use Rattle.acceptance_law.proofs.laws.covered_runs_are_accepted.Goals as goal

pub returns : goal.returns
returns c = record { covered = covered_law }
