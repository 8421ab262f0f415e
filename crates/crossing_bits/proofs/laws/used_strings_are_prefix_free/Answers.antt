use Rattle.crossing_bits.proofs.Outputs.{strings_free}
use Rattle.crossing_bits.proofs.laws.used_strings_are_prefix_free.Goals as goal

pub returns : goal.returns
returns g c = strings_free _
