use Rattle.std.proofs.Common.{length}
use Rattle.max_flow.specs.Private.Chains.{AreChains}
use Rattle.max_flow.proofs.chains.link.Given as goal

abbrev pub invariant-loop-i : goal.invariant-loop-i
invariant-loop-i l = AreChains l.keys l.i (length l.initial.first) l.first l.next
