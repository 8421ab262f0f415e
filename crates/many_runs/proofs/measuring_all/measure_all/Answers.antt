use Rattle.std.proofs.lemmas.Result.{IfOk-weaker}
use Rattle.many_runs.proofs.FittingRuns.{valid_regions}
use Rattle.many_runs.proofs.ManyAccepted.{accepted, folds}
use Rattle.many_runs.proofs.ManyTexts.{short}
use Rattle.many_runs.proofs.measuring_all.measure_all.Goals as goal

pub returns-clause-accepted : goal.returns-clause-accepted
returns-clause-accepted g c =
    IfOk-weaker c.measure_runs.result _ _
    (λ many m. accepted _ c.args.secrets.now many m c.tell_all_inputs.ensures)
    c.measure_runs.ensures.ok

pub returns-clause-folds : goal.returns-clause-folds
returns-clause-folds g c =
    IfOk-weaker c.measure_runs.result _ _
    (λ many m. folds _ c.args.secrets.now many m c.tell_all_inputs.ensures)
    c.measure_runs.ensures.ok

pub returns-clause-short : goal.returns-clause-short
returns-clause-short g c =
    IfOk-weaker c.measure_runs.result _ _ (λ many m. short _ c.args.secrets.now many m) c.measure_runs.ensures.ok

pub measure_runs-requires-clause-regions : goal.measure_runs-requires-clause-regions
measure_runs-requires-clause-regions g c =
    valid_regions _ _ _ c.args.secrets.now c.requires.some c.tell_all_inputs.ensures
