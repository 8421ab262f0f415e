use Rattle.std.proofs.Common.{◌≡◌, ◌<◌, ℕ, true, slice_index}
use Rattle.kept_states.proofs.bytes.are_same_pieces.Given as goal

abbrev pub invariant-loop-index : goal.invariant-loop-index
invariant-loop-index l = l.same ≡ true → (at : ℕ) → at < l.index → slice_index l.first at ≡ slice_index l.second at
