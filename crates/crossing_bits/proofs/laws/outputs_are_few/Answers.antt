use Rattle.crossing_bits.proofs.Outputs.{outputs_few}
use Rattle.crossing_bits.proofs.laws.outputs_are_few.Goals as goal

pub returns : goal.returns
returns g c = outputs_few _
