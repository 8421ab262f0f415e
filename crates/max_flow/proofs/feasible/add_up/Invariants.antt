use Rattle.max_flow.specs.Private.Balances.{AreSums}
use Rattle.max_flow.proofs.feasible.add_up.Given as goal

abbrev pub invariant-loop-i : goal.invariant-loop-i
invariant-loop-i l = AreSums l.keys l.flows l.i l.sums
