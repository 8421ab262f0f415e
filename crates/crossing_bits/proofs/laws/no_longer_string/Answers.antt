use Rattle.crossing_bits.proofs.Feeding.{prefix_law}
use Rattle.crossing_bits.proofs.laws.no_longer_string.Goals as goal

pub returns : goal.returns
returns g c = prefix_law _
