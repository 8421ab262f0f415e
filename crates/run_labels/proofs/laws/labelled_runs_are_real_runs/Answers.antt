use Rattle.run_labels.proofs.Turns.{place_law, beginnings_law}
use Rattle.run_labels.proofs.laws.labelled_runs_are_real_runs.Goals as goal

pub returns : goal.returns
returns c = record { places = place_law; beginnings = beginnings_law }
