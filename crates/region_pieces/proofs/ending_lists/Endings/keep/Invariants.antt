use Rattle.std.proofs.Common.{◌≤◌, vec_len}
use Rattle.region_pieces.proofs.ending_lists.Endings.keep.Given as goal

abbrev pub invariant-loop-at : goal.invariant-loop-at
invariant-loop-at l = l.at ≤ vec_len l.self.endings

abbrev pub decreases-loop-at : goal.decreases-loop-at
decreases-loop-at l = l.at
