use Rattle.std.proofs.Common.{◌≡◌, ◌++◌, map, drop}
use Rattle.command_tasks.specs.Guests.{secret_wants}
use Rattle.command_tasks.specs.Wants.{want_of}
use Rattle.command_tasks.proofs.wants.push_secrets.Given as goal

abbrev pub invariant-loop-name : goal.invariant-loop-name
invariant-loop-name l =
    map want_of l.wants ++ secret_wants (map (λ word. word.now) (drop l.name-index l.secrets))
    ≡ map want_of l.initial.wants ++ secret_wants (map (λ word. word.now) l.secrets)
