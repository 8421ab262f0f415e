use Rattle.acceptance_law.proofs.FittingCuts.{fit_cuts_law}
use Rattle.acceptance_law.proofs.visit_laws.runs_fit_cuts.Goals as goal

pub returns : goal.returns
returns c = record { fits = fit_cuts_law }
