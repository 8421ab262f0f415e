use Rattle.cut_file.proofs.CutMasks.{mask_own, mask_within}
use Rattle.cut_file.proofs.laws.masks_are_of_their_points.Goals as goal

pub returns-clause-point : goal.returns-clause-point
returns-clause-point c = mask_own

pub returns-clause-width : goal.returns-clause-width
returns-clause-width c = mask_within
