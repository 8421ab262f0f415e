use Rattle.acceptance_law.proofs.VisitRuns.{few_visits_law}
use Rattle.acceptance_law.proofs.visit_laws.runs_visit_points_seldom.Goals as goal

pub returns : goal.returns
returns c = record { visits = few_visits_law }
