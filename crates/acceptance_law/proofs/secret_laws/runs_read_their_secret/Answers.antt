use Rattle.acceptance_law.proofs.SecretRuns.{secret_bits_law}
use Rattle.acceptance_law.proofs.secret_laws.runs_read_their_secret.Goals as goal

pub returns : goal.returns
returns c = record { bits = secret_bits_law }
