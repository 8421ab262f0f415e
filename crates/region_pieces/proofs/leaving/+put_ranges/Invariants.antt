use Rattle.std.proofs.Common.{length}
use Rattle.region_pieces.proofs.leaving.+put_ranges.Given as goal

abbrev pub decreases-put_ranges : goal.decreases-put_ranges
decreases-put_ranges g l = length l.ranges.now
