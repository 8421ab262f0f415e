use Rattle.std.proofs.Common.{arith}
use Rattle.every_secret.proofs.Ceilings.{rounds_end}
use Rattle.every_secret.proofs.numbers.rounded_up.Goals as goal

pub returns-else-rounded-gt1 : goal.returns-else-rounded-gt1
returns-else-rounded-gt1 c =
    rounds_end c.args.units c.args.places c.loop-left.left c.loop-left.rounded
    (λ many. absurd (omega (arith, many, c.if-rounded-gt1.false))) c.loop-left.invariant
