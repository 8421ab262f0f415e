use Rattle.std.proofs.Common.{◌-◌, arith, length}
use Rattle.cut_file.specs.declared.points.Run.{Run}
use Rattle.replay_machine.proofs.Trimming.{no_last, last_gone, last_stays}
use Rattle.replay_machine.proofs.copies.without_last.Goals as goal

none : Run
none = record { count = 0; mask = 0 }

pub returns-in_default : goal.returns-in_default
returns-in_default c = no_last c.args.mask c.args.runs.now (omega (arith, c.in_default.len_below))

pub returns-then-last-mask : goal.returns-then-last-mask
unfolding none
returns-then-last-mask c =
    last_gone c.args.mask c.args.runs.now none (length c.args.runs.now - 1) (omega (arith, c.in-len1-up.len_at_least))
    c.if-last-mask.true

pub returns-else-last-mask : goal.returns-else-last-mask
unfolding none
returns-else-last-mask c =
    last_stays c.args.mask c.args.runs.now none (length c.args.runs.now - 1) (omega (arith, c.in-len1-up.len_at_least))
    c.if-last-mask.false
