use Rattle.std.proofs.Common.{ℕ, ◌≤◌, ◌<◌, slice_index}
use Rattle.max_flow.proofs.feasible.are_at_most.Given as goal

abbrev pub invariant-loop-flow : goal.invariant-loop-flow
invariant-loop-flow l = (k : ℕ) → k < l.flow-index → slice_index l.flows k ≤ l.most
