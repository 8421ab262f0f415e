use Rattle.acceptance_law.proofs.CoveredRuns.{covered_law}
use Rattle.acceptance_law.proofs.CutFolds.{folded_law}
use Rattle.acceptance_law.proofs.laws.folded_cuts_are_accepted.Goals as goal

pub returns : goal.returns
returns c = record { folded = folded_law covered_law }
