use Rattle.std.proofs.Common.{◌≡◌, ◌∷◌, ◌++◌, map, drop}
use Rattle.command_tasks.specs.Loading.{want}
use Rattle.command_tasks.specs.Wants.{want_of}
use Rattle.command_tasks.specs.declared.kinds.FileKind.TheVariants.{Program, PublicInput}
use Rattle.command_tasks.proofs.wants.guest_wants_of.Given as goal

abbrev pub invariant-loop-want : goal.invariant-loop-want
invariant-loop-want l =
    map want_of l.wants ++ map want_of (drop l.want-index l.more)
    ≡ want l.guest.program.now Program ∷ want l.guest.public_input.now PublicInput ∷ map want_of l.more
