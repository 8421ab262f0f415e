use Rattle.std.proofs.Common.{length}
use Rattle.crossing_bits.proofs.texts.+number.Given as goal

abbrev pub decreases-number : goal.decreases-number
decreases-number l = length l.bits.now
