use Rattle.std.proofs.Common.{subst, ap, ◌∙◌, ◌++◌, get_or}
use Rattle.measuring.specs.Recordings.{Records}
use Rattle.measuring.specs.VisitRuns.{run_masks}
use Rattle.many_runs.specs.Private.Joining.{passes}
use Rattle.many_runs.proofs.FedEvents.{points_end, points_open, reach_end, reach_start, reach_step}
use Rattle.flow_base.specs.Points.{nowhere}
use Rattle.many_runs.proofs.uniting.add_points.Goals as goal

pub loop-rest-init : goal.loop-rest-init
loop-rest-init c = λ events records. reach_start _ events _ records

pub loop-rest-preserved : goal.loop-rest-preserved
loop-rest-preserved c =
    λ events records. reach_step _ _ _ _ _ _
    (points_open c.args.recordings.now c.loop-rest.rest.now nowhere c.in-len1-up.len_at_least)
    (c.loop-rest.invariant events records)
    (λ es before. subst (λ masks. Records c.add_runs.new.union (es ++ passes (get_or c.loop-rest.rest.now 0 nowhere) masks))
    (ap run_masks c.as_slice.ensures ∙ c.in_ok-runs.ensures) (c.in_ok-add_runs.ensures es before))

pub returns : goal.returns
returns c =
    λ events records. reach_end _ _ _ (points_end c.args.recordings.now c.loop-rest.rest.now c.in_default.len_below)
    (c.loop-rest.invariant events records)
