use Rattle.std.proofs.Common.{◌≡◌, ◌++◌, length}
use Rattle.cut_file.specs.Folds.{first_runs}
use Rattle.cut_file.proofs.folding.first_runs.Given as goal

abbrev pub decreases-loop-rest : goal.decreases-loop-rest
decreases-loop-rest l = length l.rest

abbrev pub invariant-loop-rest : goal.invariant-loop-rest
invariant-loop-rest l = l.first ++ first_runs l.left l.rest ≡ first_runs l.count l.runs
