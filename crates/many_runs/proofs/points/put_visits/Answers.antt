use Rattle.std.specs.BTreeSet as sorted
use Rattle.flow_base.specs.PointOrders.{point_cmp}
use Rattle.many_runs.specs.Private.Points.{point_at}
use Rattle.many_runs.proofs.PutPoints.{keeps, no_visits}
use Rattle.many_runs.proofs.points.put_visits.Goals as goal

pub returns-clause-visited : goal.returns-clause-visited
returns-clause-visited c =
    λ q lacks. no_visits c.args.visits.now q (λ p. sorted.contains point_cmp c.put_kept.new.points p)
    (c.in_ok-put_kept.ensures.kept q lacks) lacks
    (λ page column whole count. keeps _ _ (c.in_ok-put_kept.ensures.stay (point_at page column))
    (c.in_ok-put_rows.ensures.counted page column whole count))
