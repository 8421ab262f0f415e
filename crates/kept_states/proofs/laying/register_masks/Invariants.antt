use Rattle.std.proofs.Common.{◌≡◌, ◌<◌, ℕ, length, slice_index}
use Rattle.shadow_masks.specs.Shades.{register_label}
use Rattle.kept_states.proofs.laying.register_masks.Given as goal

abbrev pub invariant-loop-register : goal.invariant-loop-register
invariant-loop-register l = record {
  masks : (r : ℕ) → r < l.register → (register_label l.shadow r).mask ≡ slice_index l.masks r;
  size : length l.masks ≡ 32;
  zero : slice_index l.masks 0 ≡ 0;
}
