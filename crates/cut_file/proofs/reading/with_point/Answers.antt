use Rattle.cut_file.proofs.Following.{point_known, points_known, points_push}
use Rattle.cut_file.proofs.reading.with_point.Goals as goal

pub invariant_of-result-clause-crosses : goal.invariant_of-result-clause-crosses
invariant_of-result-clause-crosses c =
    rw c.in_ok-push_point.ensures.put (points_push c.args.cut.version c.args.cut.points c.args.point c.args.cut.crosses
    c.requires c.in_ok-push_point.ensures.ok)

pub push_point-requires-clause-points : goal.push_point-requires-clause-points
push_point-requires-clause-points c = points_known c.args.cut.version c.args.cut.points c.args.cut.crosses

pub push_point-requires-clause-point : goal.push_point-requires-clause-point
push_point-requires-clause-point c = point_known c.args.cut.version c.args.point c.requires
