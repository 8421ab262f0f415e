use Rattle.std.proofs.Common.{◌∙◌, ap, sym}
use Rattle.std.proofs.lemmas.Result.{IfOk-weaker}
use Rattle.measuring.specs.VisitRuns.{run_masks}
use Rattle.measuring.proofs.VisitRuns.{masks_none}
use Rattle.many_runs.proofs.JoinSteps.{recorded_none, recorded_open}
use Rattle.many_runs.proofs.joining.+joined_runs.Goals as goal

pub returns-in-empty : goal.returns-in-empty
returns-in-empty t c =
    ap run_masks c.new.ensures
    ∙ (masks_none ∙ sym (recorded_none c.args.point.now c.args.recordings.now c.in-empty.len_below))

pub returns-in_ok-there-in-len1-up : goal.returns-in_ok-there-in-len1-up
returns-in_ok-there-in-len1-up t c =
    IfOk-weaker c.join.result _ _
    (λ runs are. are
    ∙ recorded_open c.args.point.now c.args.recordings.now c.recording-item.result _ _ c.in-len1-up.len_at_least
    c.recording-item.is (ap run_masks c.as_slice.ensures ∙ c.in_ok-here-in-len1-up.ensures)
    (ap run_masks c.as_slice-in-len1-up.ensures ∙ c.in_ok-there-in-len1-up.ensures))
    c.join.ensures
