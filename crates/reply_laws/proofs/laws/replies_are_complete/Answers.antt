use Rattle.reply_laws.proofs.CompleteReplies.{complete_of}
use Rattle.reply_laws.proofs.laws.replies_are_complete.Goals as goal

pub returns : goal.returns
returns c =
    complete_of
    (record { one = c.region_files_are_one.ensures.regions; none = c.region_files_are_one.ensures.neither; faults = c.region_files_are_one.ensures.faults })
