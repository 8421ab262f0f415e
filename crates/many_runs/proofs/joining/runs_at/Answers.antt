use Rattle.std.proofs.Common.{◌∙◌, ◌++◌, ap, replicate}
use Rattle.std.specs.Map.{lookup}
use Rattle.flow_base.specs.PointOrders.{is_same}
use Rattle.measuring.specs.KeptVisits.{masks_if_any}
use Rattle.measuring.specs.VisitRuns.{run_masks}
use Rattle.measuring.proofs.VisitRuns.{masks_push}
use Rattle.many_runs.proofs.joining.runs_at.Goals as goal

pub returns : goal.returns
returns c =
    ap run_masks c.in_ok-push.ensures.ok
    ∙ (masks_push c.in_ok-runs.runs _
    ∙ (ap (λ masks. masks ++ replicate c.from.result 0)
    (c.in_ok-runs.ensures ∙ ap masks_if_any c.get.ensures)
    ∙ ap (λ n. masks_if_any (lookup (is_same c.args.point.now) c.args.visits.now.points.map.entries) ++ replicate n 0) (c.from.ensures ∙ c.count.ensures)))
