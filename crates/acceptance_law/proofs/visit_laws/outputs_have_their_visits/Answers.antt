use Rattle.acceptance_law.proofs.VisitRuns.{output_visits_law}
use Rattle.acceptance_law.proofs.visit_laws.outputs_have_their_visits.Goals as goal

pub returns : goal.returns
returns c = record { visits = output_visits_law }
