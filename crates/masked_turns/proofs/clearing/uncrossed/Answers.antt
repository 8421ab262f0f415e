use Rattle.std.proofs.lemmas.Nat.{and_le_l}
use Rattle.transfer_rules.specs.Table1.{flipped}
use Rattle.masked_turns.proofs.clearing.uncrossed.Goals as goal

pub returns-clause-below : goal.returns-clause-below
returns-clause-below c = and_le_l c.args.mask (flipped c.args.crossing)
