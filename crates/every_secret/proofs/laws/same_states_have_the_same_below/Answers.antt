use Rattle.every_secret.proofs.SameTrees.{same_trees_law}
use Rattle.every_secret.proofs.laws.same_states_have_the_same_below.Goals as goal

pub returns : goal.returns
returns c = same_trees_law
