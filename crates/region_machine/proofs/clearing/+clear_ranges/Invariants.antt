use Rattle.std.proofs.Common.{length}
use Rattle.region_machine.proofs.clearing.+clear_ranges.Given as goal

abbrev pub decreases-clear_ranges : goal.decreases-clear_ranges
decreases-clear_ranges g l = length l.ranges.now
