use Rattle.tracked_run.specs.Labels.{labels_of}
use Rattle.every_secret.proofs.IdleVisits.{four_zero}
use Rattle.every_secret.proofs.idle_visits.are_clean.Goals as goal

pub returns-in-Word : goal.returns-in-Word
returns-in-Word c = λ yes.
    rw c.in-Word.is (four_zero (labels_of c.args.shadow.now c.args.held) c.in-Word.address (c.is_clean-in-Word.ensures.yes yes))
