use Rattle.std.proofs.Common.{sym, ap, ◌∙◌}
use Rattle.cut_file.specs.declared.points.CutPoint.{CutPoint}
use Rattle.flow_base.specs.PointOrders.{is_below}
use Rattle.cut_file.specs.Cuts.{stands_before}
use Rattle.cut_file.proofs.Following.{may_follow_last}
use Rattle.cut_file.proofs.reading.may_follow_points.Goals as goal

pub returns-in-len1-up : goal.returns-in-len1-up
returns-in-len1-up c =
    c.is_below.ensures
    ∙ ap (λ (p : CutPoint). is_below p.point c.args.point.now.point) c.last-item.is
    ∙ sym (may_follow_last stands_before c.args.points.now c.args.point.now c.last-item.result
    c.in-len1-up.len_at_least)
