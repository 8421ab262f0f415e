use Rattle.std.proofs.Common.{◌+◌, ◌++◌, sym, ap, ◌∙◌, append_assoc, replicate}
use Rattle.std.proofs.lemmas.Result.{on_ok_weaker}
use Rattle.cut_file.specs.Cuts.{are_runs, have_other_masks, neighbours_pass}
use Rattle.cut_file.specs.Masks.{listed_masks}
use Rattle.location_collapse.proofs.CapacityMaps.{both_ok}
use Rattle.measuring.specs.CutRuns.{as_run, once}
use Rattle.measuring.proofs.CutRuns.{apart_push, clean_latest, listed_push, valid_push}
use Rattle.measuring.proofs.cut_points.put_latest.Goals as goal

pub returns-then-latest-eq0-clause-masks : goal.returns-then-latest-eq0-clause-masks
returns-then-latest-eq0-clause-masks c =
    on_ok_weaker c.put_run.result
    (λ put. ap listed_masks put
    ∙ (listed_push c.args.runs.now (record { count = c.args.latest.count + c.from.result; mask = 0 })
    ∙ ap (λ masks. listed_masks c.args.runs.now ++ masks) (clean_latest c.args.latest c.from.result c.args.clean
    c.from.ensures c.if-latest-eq0.true)))
    c.put_run.ensures.put

pub returns-then-latest-eq0-clause-valid : goal.returns-then-latest-eq0-clause-valid
returns-then-latest-eq0-clause-valid c =
    both_ok c.put_run.result
    (λ put own. ap are_runs put
    ∙ valid_push c.args.runs.now (record { count = c.args.latest.count + c.from.result; mask = 0 })
    (as_run c.args.latest) (sym c.if-latest-eq0.true) c.requires.valid own c.requires.apart)
    c.put_run.ensures.put c.put_run.ensures.valid

pub put_clean-requires-clause-apart : goal.put_clean-requires-clause-apart
put_clean-requires-clause-apart c =
    ap (λ runs. neighbours_pass have_other_masks (runs ++ once 0)) c.in_ok-put_run.ensures.put
    ∙ apart_push c.args.runs.now (as_run c.args.latest) (record { count = 1; mask = 0 }) c.if-latest-eq0.false
    c.requires.apart

pub returns-clause-masks : goal.returns-clause-masks
returns-clause-masks c =
    on_ok_weaker c.put_clean.result
    (λ masks. masks
    ∙ (ap (λ runs. listed_masks runs ++ replicate c.args.clean 0) c.in_ok-put_run.ensures.put
    ∙ (ap (λ masks. masks ++ replicate c.args.clean 0) (listed_push c.args.runs.now (as_run c.args.latest))
    ∙ append_assoc (listed_masks c.args.runs.now) (replicate c.args.latest.count c.args.latest.mask)
    (replicate c.args.clean 0))))
    c.put_clean.ensures.masks
