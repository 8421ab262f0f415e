use Rattle.std.proofs.Common.{sym, ◌∙◌, arith}
use Rattle.std.specs.Ordering.{nat_cmp}
use Rattle.flow_certificate.proofs.LastItems.{follows_last, is_lt_nat}
use Rattle.flow_certificate.proofs.following.may_follow_regions.Goals as goal

pub returns-in-len1-up : goal.returns-in-len1-up
returns-in-len1-up c =
    sym (follows_last nat_cmp c.args.regions.now c.args.region 0 (omega arith) ∙ is_lt_nat _ _)
