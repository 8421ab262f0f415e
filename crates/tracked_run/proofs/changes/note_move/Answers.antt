use Rattle.tracked_run.proofs.ByteMasks.{mask_at}
use Rattle.tracked_run.proofs.changes.note_move.Goals as goal

pub put_label-requires-clause-fits : goal.put_label-requires-clause-fits
put_label-requires-clause-fits c =
    mask_at c.args.place c.args.shape c.args.source c.moved_label-label.result.mask c.requires.fits
    c.moved_label-label.ensures.byte
