use Rattle.crossing_bits.proofs.Places.{return_law}
use Rattle.crossing_bits.proofs.laws.pushed_bits_return.Goals as goal

pub returns : goal.returns
returns c = return_law
