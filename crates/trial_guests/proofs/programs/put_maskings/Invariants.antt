use Rattle.std.proofs.Common.{◌≡◌, ◌-◌, ◌++◌}
use Rattle.trial_guests.specs.Programs.{code_of, maskings}
use Rattle.trial_guests.proofs.programs.put_maskings.Given as goal

abbrev pub invariant-loop-index : goal.invariant-loop-index
invariant-loop-index l =
    l.code.items ++ code_of (maskings (l.count - l.index) l.number l.index)
    ≡ l.initial.code.items ++ code_of (maskings l.count l.number 0)
