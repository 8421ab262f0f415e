use Rattle.std.proofs.Common.{◌≡◌, ◌+◌, length}
use Rattle.every_secret.specs.Bounds.{output_count}
use Rattle.every_secret.proofs.numbers.output_count.Given as goal

abbrev pub invariant-loop-rest : goal.invariant-loop-rest
invariant-loop-rest l = record { whole : l.count + output_count l.rest ≡ output_count l.patterns }

abbrev pub decreases-loop-rest : goal.decreases-loop-rest
decreases-loop-rest l = length l.rest
