use Rattle.std.proofs.Common.{sym}
use Rattle.cut_file.specs.Cuts.{have_other_masks}
use Rattle.cut_file.proofs.Following.{may_follow_last}
use Rattle.cut_file.proofs.line_forms.may_follow_runs.Goals as goal

pub returns-in-len1-up : goal.returns-in-len1-up
returns-in-len1-up c =
    sym (may_follow_last have_other_masks c.args.runs.now c.args.run.now
    (record { count = 0; mask = 0 }) c.in-len1-up.len_at_least)
