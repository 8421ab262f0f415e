use Rattle.std.proofs.Common.{◌≡◌, ◌++◌, length}
use Rattle.many_runs.proofs.joining.put_all.Given as goal

abbrev pub invariant-loop-rest : goal.invariant-loop-rest
invariant-loop-rest l = l.runs ++ l.rest ≡ l.initial.runs ++ l.more

abbrev pub decreases-loop-rest : goal.decreases-loop-rest
decreases-loop-rest l = length l.rest
