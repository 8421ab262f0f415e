use Rattle.std.proofs.Common.{◌≡◌, ◌<◌, ℕ, slice_index}
use Rattle.shadow_masks.specs.Shades.{register_label}
use Rattle.kept_states.specs.Keeping.{KeepsPages}
use Rattle.kept_states.proofs.putting.put_registers.Given as goal

abbrev pub invariant-loop-register : goal.invariant-loop-register
invariant-loop-register l = record {
  masks : (r : ℕ) → r < l.register → (register_label l.shadow r).mask ≡ slice_index l.masks r;
  same : KeepsPages l.fn.shadow l.shadow;
}
