use Rattle.max_flow.proofs.NamedSides.{weak_duality}
use Rattle.max_flow.proofs.laws.no_flow_exceeds_a_side.Goals as goal

pub returns : goal.returns
returns c = weak_duality
