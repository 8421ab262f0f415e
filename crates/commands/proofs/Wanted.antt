-- What a source has after the loads of words, by the command that they name.
use Rattle.std.proofs.Common.{◌≡◌, [], Option, None, Some, refl, subst}
use Rattle.flow_base.specs.Loads.{Told}
use Rattle.command_line.specs.CommandLines.{Command}
use Rattle.command_tasks.specs.Loading.{Leaves, LeavesPart}
use Rattle.command_tasks.specs.Tasks.{wants_of}
use Rattle.commands.specs.Replies.{wants_in}

-- before the first load it is as it was
nothing : (source : Option Told) → Leaves source [] source
nothing None = refl
nothing (Some told) = refl

pub no_loads : (source : Option Told) (read : Option Command) → LeavesPart source (wants_in read) source
no_loads source read = (0, nothing source)

pub none_wanted : (source : Option Told) (read : Option Command) → None ≡ read → Leaves source (wants_in read) source
none_wanted source read none = subst (λ r. Leaves source (wants_in r) source) none (nothing source)

pub first_loads : (source later : Option Told) (command : Command) (read : Option Command) → Some command ≡ read →
    LeavesPart source (wants_of command) later → LeavesPart source (wants_in read) later
first_loads source later command read named part = subst (λ r. LeavesPart source (wants_in r) later) named part

pub all_loads : (source later : Option Told) (command : Command) (read : Option Command) → Some command ≡ read →
    Leaves source (wants_of command) later → Leaves source (wants_in read) later
all_loads source later command read named leaves = subst (λ r. Leaves source (wants_in r) later) named leaves
