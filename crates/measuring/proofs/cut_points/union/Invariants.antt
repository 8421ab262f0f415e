use Rattle.std.proofs.Common.{◌≡◌, bit_or, length}
use Rattle.measuring.specs.CutRuns.{united_runs}
use Rattle.measuring.proofs.cut_points.union.Given as goal

abbrev pub invariant-loop-rest : goal.invariant-loop-rest
invariant-loop-rest l = bit_or l.mask (united_runs l.rest) ≡ united_runs l.runs

abbrev pub decreases-loop-rest : goal.decreases-loop-rest
decreases-loop-rest l = length l.rest
