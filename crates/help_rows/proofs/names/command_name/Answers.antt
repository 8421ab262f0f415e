use Rattle.std.proofs.Common.{sym}
use Rattle.help_rows.proofs.names.command_name.Goals as goal

pub returns-in_default-clause-none : goal.returns-in_default-clause-none
returns-in_default-clause-none c = λ e. sym (rw c.in_default.is at c.in_ok-command.ensures)
