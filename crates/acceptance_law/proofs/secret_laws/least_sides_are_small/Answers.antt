use Rattle.acceptance_law.proofs.SecretSides.{least_bits_law}
use Rattle.acceptance_law.proofs.secret_laws.least_sides_are_small.Goals as goal

pub returns : goal.returns
returns c = record { least = least_bits_law }
