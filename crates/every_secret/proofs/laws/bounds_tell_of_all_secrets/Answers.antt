use Rattle.every_secret.proofs.EverySecret.{every_secret}
use Rattle.every_secret.proofs.SecretsChoose.{run_law}
use Rattle.every_secret.proofs.laws.bounds_tell_of_all_secrets.Goals as goal

pub returns : goal.returns
returns c = every_secret run_law
