use Rattle.std.proofs.Common.{sym, ap, ◌∙◌, arith}
use Rattle.std.specs.Ordering.{is_lt}
use Rattle.flow_certificate.specs.Private.Drafts.{link_line_cmp}
use Rattle.flow_certificate.proofs.LastItems.{follows_last}
use Rattle.flow_certificate.proofs.following.may_follow_links.Goals as goal

pub returns-in-len1-up : goal.returns-in-len1-up
returns-in-len1-up c =
    c.is_lt.ensures
    ∙ (ap is_lt c.cmp.ensures ∙ sym (follows_last link_line_cmp c.args.links.now c.args.line.now _ (omega arith)))
