use Rattle.std.proofs.Common.{length}
use Rattle.region_machine.proofs.entering.+look_at_bases.Given as goal

abbrev pub decreases-look_at_bases : goal.decreases-look_at_bases
decreases-look_at_bases g l = length l.ranges.now
