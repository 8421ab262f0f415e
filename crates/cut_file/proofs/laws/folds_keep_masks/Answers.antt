use Rattle.cut_file.proofs.Periods.{fold_mask}
use Rattle.cut_file.proofs.laws.folds_keep_masks.Goals as goal

pub returns : goal.returns
returns c = fold_mask
