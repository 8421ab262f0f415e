use Rattle.flow_certificate.specs.Private.Sums.{differ_at}
use Rattle.flow_certificate.specs.Verdicts.{HasNone}
use Rattle.flow_certificate.proofs.balance.first_difference.Given as goal

abbrev pub invariant-loop-k : goal.invariant-loop-k
invariant-loop-k l = HasNone (differ_at l.first l.second) 0 l.k
