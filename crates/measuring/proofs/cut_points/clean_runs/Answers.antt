use Rattle.std.proofs.Common.{◌++◌, ap, ◌∙◌, replicate}
use Rattle.cut_file.specs.Masks.{listed_masks}
use Rattle.measuring.proofs.CutRuns.{masks_none}
use Rattle.measuring.proofs.cut_points.clean_runs.Goals as goal

pub returns-clause-masks : goal.returns-clause-masks
returns-clause-masks c =
    c.in_ok-put_clean.ensures.masks
    ∙ (ap (λ runs. listed_masks runs ++ replicate c.args.clean 0) c.new-runs.ensures
    ∙ ap (λ masks. masks ++ replicate c.args.clean 0) masks_none)
