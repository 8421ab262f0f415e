use Rattle.acceptance_law.proofs.ProperRuns.{guest_turn_law, proper_events_law}
use Rattle.acceptance_law.proofs.ProperStarts.{guest_start_law}
use Rattle.acceptance_law.proofs.graph_laws.guests_stay_guests.Goals as goal

pub returns : goal.returns
returns c = record { start = guest_start_law; guests = guest_turn_law; events = proper_events_law }
