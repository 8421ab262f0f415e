use Rattle.std.proofs.Common.{◌-◌, ◌≤◌, vec_len}
use Rattle.region_pieces.proofs.memories.Memory.count_below.Given as goal

abbrev pub invariant-loop-low : goal.invariant-loop-low
invariant-loop-low l = (l.low ≤ l.high) × (l.high ≤ vec_len l.self.pages)

abbrev pub decreases-loop-low : goal.decreases-loop-low
decreases-loop-low l = l.high - l.low
