use Rattle.acceptance_law.proofs.FewRuns.{few_runs_law}
use Rattle.acceptance_law.proofs.laws.cuts_have_few_runs.Goals as goal

pub returns : goal.returns
returns c = record { few = few_runs_law }
