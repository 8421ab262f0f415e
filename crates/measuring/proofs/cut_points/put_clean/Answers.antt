use Rattle.std.proofs.Common.{◌++◌, refl, sym, ap, ◌∙◌, replicate}
use Rattle.std.proofs.lemmas.List.{append-nil}
use Rattle.std.proofs.lemmas.Result.{on_ok_weaker}
use Rattle.cut_file.specs.Cuts.{are_runs}
use Rattle.cut_file.specs.Masks.{listed_masks}
use Rattle.location_collapse.proofs.CapacityMaps.{both_ok}
use Rattle.measuring.specs.CutRuns.{once}
use Rattle.measuring.proofs.CutRuns.{listed_push, valid_front, valid_push}
use Rattle.measuring.proofs.cut_points.put_clean.Goals as goal

pub returns-then-clean-eq0-clause-masks : goal.returns-then-clean-eq0-clause-masks
returns-then-clean-eq0-clause-masks c =
    sym (append-nil (listed_masks c.args.runs.now))
    ∙ ap (λ n. listed_masks c.args.runs.now ++ replicate n 0) (sym c.if-clean-eq0.true)

pub returns-then-clean-eq0-clause-valid : goal.returns-then-clean-eq0-clause-valid
returns-then-clean-eq0-clause-valid c = valid_front c.args.runs.now (once 0) c.requires.valid c.requires.apart

pub returns-clause-masks : goal.returns-clause-masks
returns-clause-masks c =
    on_ok_weaker c.put_run.result
    (λ put. ap listed_masks put
    ∙ (listed_push c.args.runs.now (record { count = c.from.result; mask = 0 })
    ∙ ap (λ n. listed_masks c.args.runs.now ++ replicate n 0) c.from.ensures))
    c.put_run.ensures.put

pub returns-clause-valid : goal.returns-clause-valid
returns-clause-valid c =
    both_ok c.put_run.result
    (λ put own. ap are_runs put
    ∙ valid_push c.args.runs.now (record { count = c.from.result; mask = 0 }) (record { count = 1; mask = 0 }) refl
    c.requires.valid own c.requires.apart)
    c.put_run.ensures.put c.put_run.ensures.valid
