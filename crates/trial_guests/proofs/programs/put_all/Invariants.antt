use Rattle.std.proofs.Common.{◌≡◌, ◌++◌, length}
use Rattle.std.specs.List.{AllByRecursion}
use Rattle.rv32im_decode.specs.Encoding.{InRange}
use Rattle.trial_guests.specs.Programs.{code_of}
use Rattle.trial_guests.proofs.programs.put_all.Given as goal

abbrev pub invariant-loop-rest : goal.invariant-loop-rest
invariant-loop-rest l = record {
  valid : AllByRecursion InRange l.rest;
  code : l.code.items ++ code_of l.rest ≡ l.initial.code.items ++ code_of l.instrs;
}

abbrev pub decreases-loop-rest : goal.decreases-loop-rest
decreases-loop-rest l = length l.rest
