-- Where a check with one machine begins.
use Rattle.std.proofs.Common.{◌≡◌, ℕ}
use mathlib.Core.Path.{fun_ext}
use Rattle.shadow_masks.specs.Labels.{clean}
use Rattle.shadow_masks.specs.Shades.{Shades, register_label, kept_label, byte_label, IsNew}
use Rattle.shadow_masks.specs.Writes.{default_map}
use Rattle.tracked_run.specs.Labels.{map_of}

-- a new shadow has no masks
pub new_masks : {shades : Shades} {base : ℕ} → IsNew base shades → map_of shades ≡ default_map
new_masks {shades = shades} new =
    let registers : register_label shades ≡ (λ register. clean) = fun_ext new.registers in
    let kept : kept_label shades ≡ (λ register. clean) = fun_ext new.kept in
    let bytes : byte_label shades ≡ (λ address. clean) = fun_ext new.bytes in
    λ i. record { registers = registers i; kept = kept i; bytes = bytes i }
