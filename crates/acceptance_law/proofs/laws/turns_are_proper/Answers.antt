use Rattle.acceptance_law.proofs.ProperRows.{proper_law}
use Rattle.acceptance_law.proofs.laws.turns_are_proper.Goals as goal

pub returns : goal.returns
returns c = record { proper = proper_law }
