use Rattle.std.proofs.Common.{◌≡◌, ◌++◌, length}
use Rattle.measuring.specs.Splits.{split_points}
use Rattle.measuring.proofs.splitting.points_of_cut.Given as goal

abbrev pub invariant-loop-rest : goal.invariant-loop-rest
invariant-loop-rest l = l.points ++ split_points l.skip l.rest l.left ≡ split_points l.skip l.nodes l.halves

abbrev pub decreases-loop-rest : goal.decreases-loop-rest
decreases-loop-rest l = length l.rest
