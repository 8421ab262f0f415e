use Rattle.std.proofs.Common.{◌≡◌, ◌<◌, ℕ, slice_index}
use Rattle.shadow_masks.specs.Shades.{kept_label}
use Rattle.kept_states.proofs.putting.are_kept.Given as goal

abbrev pub invariant-loop-number : goal.invariant-loop-number
invariant-loop-number l = (r : ℕ) → r < l.number → (kept_label l.shadow r).mask ≡ slice_index l.masks r
