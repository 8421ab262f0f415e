use Rattle.every_secret.proofs.SecretsChoose.{run_law}
use Rattle.every_secret.proofs.laws.runs_choose_paths.Goals as goal

pub returns : goal.returns
returns c = run_law
