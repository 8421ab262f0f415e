use Rattle.std.proofs.Common.{length}
use Rattle.max_flow.specs.Private.GraphNetworks.{halves_from}
use Rattle.flow_certificate.specs.Private.Sums.{AreAdded, brought}
use Rattle.flow_certificate.proofs.sums.add_points.Given as goal

abbrev pub invariant-loop-i : goal.invariant-loop-i
invariant-loop-i l = AreAdded l.base (brought (halves_from l.start (length l.flows)) l.flows l.i) l.initial.sums l.sums
