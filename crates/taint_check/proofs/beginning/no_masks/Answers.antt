use Rattle.taint_check.proofs.Beginnings.{new_masks}
use Rattle.taint_check.proofs.beginning.no_masks.Goals as goal

pub returns-clause-masks : goal.returns-clause-masks
returns-clause-masks c = new_masks c.new_in.ensures
