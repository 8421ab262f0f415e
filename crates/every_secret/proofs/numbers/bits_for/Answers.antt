use Rattle.every_secret.proofs.Ceilings.{halves_more}
use Rattle.every_secret.proofs.numbers.bits_for.Goals as goal

pub loop-rounded-preserved : goal.loop-rounded-preserved
loop-rounded-preserved c =
    halves_more c.args.units c.loop-rounded.bits c.loop-rounded.rounded c.loop-rounded-test.true
    c.loop-rounded.invariant
