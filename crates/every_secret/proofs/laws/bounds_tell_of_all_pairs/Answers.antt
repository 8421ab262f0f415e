use Rattle.every_secret.proofs.AllPairs.{all_pairs}
use Rattle.every_secret.proofs.SecretsChoose.{run_law}
use Rattle.every_secret.proofs.laws.bounds_tell_of_all_pairs.Goals as goal

pub returns : goal.returns
returns c = all_pairs run_law
