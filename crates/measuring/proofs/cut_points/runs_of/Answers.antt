use Rattle.std.proofs.Common.{◌≡◌, ◌<◌, ◌^◌, sym, subst, ap, ◌∙◌, [], ◌∷◌, ◌++◌, length, replicate}
use Rattle.cut_file.specs.Cuts.{have_other_masks, neighbours_pass}
use Rattle.cut_file.specs.Masks.{listed_masks}
use Rattle.measuring.specs.CutRuns.{as_run, as_runs}
use Rattle.measuring.specs.VisitRuns.{run_masks}
use Rattle.measuring.proofs.CutRuns.{apart_latest, few_earlier, few_latest, masks_then}
use Rattle.measuring.proofs.cut_points.runs_of.Goals as goal

pub put_runs-requires-clause-few : goal.put_runs-requires-clause-few
put_runs-requires-clause-few c =
    subst (λ runs. length (run_masks runs) < 2 ^ 32) (sym c.as_slice.ensures)
    (few_earlier c.args.visits.now c.args.clean c.requires)

pub put_latest-requires-clause-few : goal.put_latest-requires-clause-few
put_latest-requires-clause-few c = few_latest c.args.visits.now c.args.clean c.requires

pub put_latest-requires-clause-apart : goal.put_latest-requires-clause-apart
put_latest-requires-clause-apart c =
    let made : c.put_runs.new.runs ≡ as_runs c.args.visits.now.earlier =
    c.in_ok-put_runs.ensures.put ∙ (ap (λ made. made ++ as_runs c.as_slice.result.now) c.new-runs.ensures
    ∙ ap (λ visits. [] ++ as_runs visits) c.as_slice.ensures) in
    ap (λ runs. neighbours_pass have_other_masks (runs ++ as_run c.args.visits.now.latest ∷ [])) made
    ∙ apart_latest c.args.visits.now c.args.clean c.requires

pub returns-clause-masks : goal.returns-clause-masks
returns-clause-masks c =
    let made : c.put_runs.new.runs ≡ as_runs c.args.visits.now.earlier =
    c.in_ok-put_runs.ensures.put ∙ (ap (λ made. made ++ as_runs c.as_slice.result.now) c.new-runs.ensures
    ∙ ap (λ visits. [] ++ as_runs visits) c.as_slice.ensures) in
    c.in_ok-put_latest.ensures.masks
    ∙ (ap (λ runs. listed_masks runs ++ (replicate c.args.visits.now.latest.count c.args.visits.now.latest.mask
    ++ replicate c.args.clean 0)) made
    ∙ masks_then c.args.visits.now (replicate c.args.clean 0))
