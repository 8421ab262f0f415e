use Rattle.crossing_bits.proofs.Weighing.{count}
use Rattle.crossing_bits.proofs.laws.at_most_two_to_the_k.Goals as goal

pub returns : goal.returns
returns c = count
