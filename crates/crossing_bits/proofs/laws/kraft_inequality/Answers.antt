use Rattle.crossing_bits.proofs.Weighing.{kraft}
use Rattle.crossing_bits.proofs.laws.kraft_inequality.Goals as goal

pub returns : goal.returns
returns c = kraft
