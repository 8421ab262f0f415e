use Rattle.region_learn.proofs.OneDeclaration.{learnt_is_one}
use Rattle.region_learn.proofs.laws.declarations_are_one.Goals as goal

pub returns : goal.returns
returns c = learnt_is_one
