use Rattle.std.proofs.Common.{◌-◌, ◌^◌}
use Rattle.max_flow.specs.Private.Solving.{net_of, IsSearched}
use Rattle.max_flow.proofs.raising.raise.Given as goal

abbrev pub invariant-loop-alloc : goal.invariant-loop-alloc
invariant-loop-alloc l = IsSearched (net_of l.network) l.flows l.value l.tree

abbrev pub decreases-loop-alloc : goal.decreases-loop-alloc
decreases-loop-alloc l = 2 ^ 64 - l.value
