use Rattle.tracked_run.proofs.noting.note_mask.Goals as goal

pub put_aimed-requires-clause-fits : goal.put_aimed-requires-clause-fits
put_aimed-requires-clause-fits g c = rw c.labelled.ensures.mask c.requires.fits
