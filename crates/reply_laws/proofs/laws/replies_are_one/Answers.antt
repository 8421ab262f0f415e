use Rattle.reply_laws.proofs.OneReply.{one_reply}
use Rattle.reply_laws.proofs.laws.replies_are_one.Goals as goal

pub returns : goal.returns
returns c =
    one_reply
    (record { one = c.region_files_are_one.ensures.regions; none = c.region_files_are_one.ensures.neither; faults = c.region_files_are_one.ensures.faults })
