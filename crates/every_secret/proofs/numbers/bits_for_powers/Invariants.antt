use Rattle.std.proofs.Common.{◌^◌, length}
use Rattle.every_secret.proofs.Ceilings.{Adds}
use Rattle.every_secret.proofs.numbers.bits_for_powers.Given as goal

abbrev pub invariant-loop-rest : goal.invariant-loop-rest
invariant-loop-rest l = Adds (2 ^ 70) l.exponents l.rest l.places l.units

abbrev pub decreases-loop-rest : goal.decreases-loop-rest
decreases-loop-rest l = length l.rest
