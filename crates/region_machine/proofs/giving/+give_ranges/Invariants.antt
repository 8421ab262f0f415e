use Rattle.std.proofs.Common.{length}
use Rattle.region_machine.proofs.giving.+give_ranges.Given as goal

abbrev pub decreases-give_ranges : goal.decreases-give_ranges
decreases-give_ranges g l = length l.ranges.now
