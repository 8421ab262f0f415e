use Rattle.acceptance_law.proofs.CutRuns.{crossing_law}
use Rattle.acceptance_law.proofs.graph_laws.cuts_of_runs_cross.Goals as goal

pub returns : goal.returns
returns c = record { crossing = crossing_law }
