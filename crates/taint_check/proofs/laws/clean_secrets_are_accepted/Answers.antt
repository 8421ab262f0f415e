use Rattle.taint_check.proofs.CleanSecrets.{clean_law}
use Rattle.taint_check.proofs.laws.clean_secrets_are_accepted.Goals as goal

pub returns : goal.returns
returns c = record { clean = clean_law }
