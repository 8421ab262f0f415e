use Rattle.std.proofs.Common.{◌∙◌, ◌++◌, ◌∷◌, [], ap, sym}
use Rattle.std.specs.Option.{option_copied}
use Rattle.measuring.specs.KeptVisits.{masks_if_any}
use Rattle.measuring.specs.VisitRuns.{run_masks}
use Rattle.measuring.proofs.VisitRuns.{masks_none}
use Rattle.many_runs.proofs.joining.kept_runs.Goals as goal

pub returns-in_default : goal.returns-in_default
returns-in_default c =
    ap run_masks c.new-runs.ensures
    ∙ (masks_none ∙ ap (λ visits. masks_if_any (option_copied visits)) (sym c.in_default.is))

pub returns : goal.returns
returns c =
    ap run_masks (c.in_ok-push.ensures.ok
    ∙ ap (λ runs. runs ++ c.in-Some.kept.now.latest ∷ []) (c.in_ok-put_all.ensures
    ∙ (ap (λ runs. runs ++ c.as_slice.result.now) c.new-runs.ensures ∙ c.as_slice.ensures)))
    ∙ ap (λ visits. masks_if_any (option_copied visits)) (sym c.in-Some.is)
