use Rattle.tracked_run.proofs.ByteMasks.{none_for}
use Rattle.tracked_run.proofs.noting.note_clean.Goals as goal

pub put_aimed-requires-clause-fits : goal.put_aimed-requires-clause-fits
put_aimed-requires-clause-fits g c = rw c.clean.ensures (none_for c.args.passing.now.aim)
