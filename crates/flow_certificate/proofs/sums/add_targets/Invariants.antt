use Rattle.flow_certificate.specs.Private.Sums.{AreAdded, brought, heads_of}
use Rattle.flow_certificate.proofs.sums.add_targets.Given as goal

abbrev pub invariant-loop-i : goal.invariant-loop-i
invariant-loop-i l = AreAdded l.base (brought (heads_of l.count l.links) l.flows l.i) l.initial.sums l.sums
