use Rattle.flow_certificate.specs.Verdicts.{HasNone, is_over}
use Rattle.flow_certificate.proofs.over.first_over.Given as goal

abbrev pub invariant-loop-i : goal.invariant-loop-i
invariant-loop-i l = HasNone (is_over l.certificate.graph l.certificate.solved) 0 l.i
