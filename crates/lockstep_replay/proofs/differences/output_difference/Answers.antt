use Rattle.std.proofs.Common.{◌∙◌, ℕ, List, drop, ap, sym, arith}
use Rattle.std.proofs.lemmas.List.{take_rest, drop_all}
use Rattle.lockstep_replay.specs.Differences.{byte_difference}
use Rattle.lockstep_replay.proofs.FirstDifference.{byte_difference_from}
use Rattle.lockstep_replay.proofs.differences.output_difference.Goals as goal

pub returns-then-from-real : goal.returns-then-from-real
returns-then-from-real c =
    sym (ap (λ (l : List ℕ). byte_difference c.args.from l (drop c.args.from c.args.replay.now))
    (drop_all c.args.from c.args.real.now (omega (arith, c.if-from-real.true))))
    ∙ byte_difference_from c.args.from c.args.real.now c.args.replay.now c.requires.real c.requires.replay
    c.requires.same

pub returns : goal.returns
returns c =
    rw (take_rest c.args.real.now c.args.from, take_rest c.args.replay.now c.args.from) at c.difference_from.ensures
    ∙ byte_difference_from c.args.from c.args.real.now c.args.replay.now c.requires.real c.requires.replay
    c.requires.same
