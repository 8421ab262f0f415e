use Rattle.std.proofs.Common.{sym, nat_lt}
use Rattle.cut_file.proofs.Following.{may_follow_last}
use Rattle.cut_file.proofs.reading.may_follow_regions.Goals as goal

pub returns-in-len1-up : goal.returns-in-len1-up
returns-in-len1-up c = sym (may_follow_last nat_lt c.args.regions.now c.args.region 0 c.in-len1-up.len_at_least)
