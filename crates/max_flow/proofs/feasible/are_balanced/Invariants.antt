use Rattle.std.proofs.Common.{◌≡◌, ℕ, ◌≤◌, ◌<◌, slice_index}
use Rattle.max_flow.proofs.feasible.are_balanced.Given as goal

abbrev pub invariant-loop-node : goal.invariant-loop-node
invariant-loop-node l = (v : ℕ) → 2 ≤ v → v < l.node → slice_index l.into v ≡ slice_index l.out v
