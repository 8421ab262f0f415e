use Rattle.every_secret.proofs.Ceilings.{Halves}
use Rattle.every_secret.proofs.numbers.bits_for.Given as goal

abbrev pub invariant-loop-rounded : goal.invariant-loop-rounded
invariant-loop-rounded l = Halves l.units l.bits l.rounded

abbrev pub decreases-loop-rounded : goal.decreases-loop-rounded
decreases-loop-rounded l = l.rounded
