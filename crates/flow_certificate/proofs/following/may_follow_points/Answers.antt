use Rattle.std.proofs.Common.{sym, ◌∙◌, arith}
use Rattle.flow_certificate.specs.Private.Drafts.{point_line_cmp}
use Rattle.flow_certificate.proofs.LastItems.{follows_last}
use Rattle.flow_certificate.proofs.following.may_follow_points.Goals as goal

pub returns-in-len1-up : goal.returns-in-len1-up
returns-in-len1-up c =
    c.is_below.ensures ∙ sym (follows_last point_line_cmp c.args.points.now c.args.line.now _ (omega arith))
