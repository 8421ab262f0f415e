use Rattle.acceptance_law.proofs.VisitRuns.{known_slots_law}
use Rattle.acceptance_law.proofs.visit_laws.runs_pass_known_slots.Goals as goal

pub returns : goal.returns
returns c = record { slots = known_slots_law }
