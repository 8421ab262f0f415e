use Rattle.std.proofs.Common.{◌∙◌, ap, sym}
use Rattle.std.specs.List.{list_any}
use Rattle.std.proofs.lemmas.Result.{IfOk-weaker}
use Rattle.flow_base.specs.PointOrders.{is_same}
use Rattle.many_runs.proofs.points.all_points.Goals as goal

pub returns-clause-points : goal.returns-clause-points
returns-clause-points c =
    IfOk-weaker c.listed.result _ _
    (λ list are q lacks. c.in_ok-put_recordings.ensures q (ap (λ keys. list_any (is_same q) keys) (sym are) ∙ lacks))
    c.listed.ensures.items
