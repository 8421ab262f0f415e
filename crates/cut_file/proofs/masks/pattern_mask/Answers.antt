use Rattle.std.proofs.Common.{◌∙◌, arith}
use Rattle.cut_file.specs.Masks.{listed_masks}
use Rattle.cut_file.proofs.MaskLists.{first_round}
use Rattle.cut_file.proofs.masks.pattern_mask.Goals as goal

pub returns-in-Ok : goal.returns-in-Ok
returns-in-Ok c =
    c.in-Ok.ensures.mask
    ∙ first_round (listed_masks c.args.rest.now) _ (omega (arith, c.in-Ok.ensures.within, c.requires))
