use Rattle.std.proofs.Common.{◌≡◌, length}
use Rattle.region_learn.specs.LearnAnswers.{regions_fault}
use Rattle.region_learn.proofs.checks.regions_fault.Given as goal

abbrev pub invariant-loop-rest : goal.invariant-loop-rest
invariant-loop-rest l = regions_fault l.rest ≡ regions_fault l.regions

abbrev pub decreases-loop-rest : goal.decreases-loop-rest
decreases-loop-rest l = length l.rest
