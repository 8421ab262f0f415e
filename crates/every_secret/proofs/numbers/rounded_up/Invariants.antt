use Rattle.every_secret.proofs.Ceilings.{Rounds}
use Rattle.every_secret.proofs.numbers.rounded_up.Given as goal

abbrev pub invariant-loop-left : goal.invariant-loop-left
invariant-loop-left l = Rounds l.units l.places l.left l.rounded

abbrev pub decreases-loop-left : goal.decreases-loop-left
decreases-loop-left l = l.left
