use Rattle.std.proofs.Common.{sym}
use Rattle.region_machine.proofs.RangesStayInside.{inside_at_entry}
use Rattle.replay_machine.proofs.entries.outside_at_entry.Goals as goal

pub returns-in-None-clause-inside : goal.returns-in-None-clause-inside
returns-in-None-clause-inside c = λ none.
    inside_at_entry c.args.region.now c.args.machine.now.store.registers c.args.machine.now.setting.base
    (sym (rw (c.registers.ensures, c.base.ensures) at c.in-None.ensures))
