use Rattle.tracked_run.proofs.ByteMasks.{may_move}
use Rattle.tracked_run.proofs.changes.shaped_label.Goals as goal

pub shaped_mask-requires : goal.shaped_mask-requires
shaped_mask-requires c = may_move c.args.shape _ c.requires
