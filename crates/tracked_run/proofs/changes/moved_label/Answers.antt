use Rattle.tracked_run.proofs.ByteMasks.{moved_byte}
use Rattle.tracked_run.proofs.changes.moved_label.Goals as goal

pub returns-in-At-clause-byte : goal.returns-in-At-clause-byte
returns-in-At-clause-byte c = λ byte.
    rw c.shaped_label.ensures.mask
    (moved_byte c.args.shape c.in-At.place c.label_at.result.mask c.label_at.ensures.fits (rw c.in-At.is at byte))
