-- The masks of a shadow as those of bytes by their distance from the base.
use Rattle.std.proofs.Common.{◌≡◌, ℕ, ◌+◌, ◌-◌, ◌*◌, ◌/◌, ◌<◌, ◌≤◌, inl, inr, true, false, List, slice_index, ◌∙◌, sym, ap, arith}
use Rattle.std.proofs.Common.{length, nat_le}
use Rattle.std.proofs.lemmas.Bool.{cases_lt, cond-false, cond-true}
use Rattle.std.proofs.lemmas.Bool.Decides.{nat_tests}
use Rattle.flow_base.specs.Guests.{memory_size}
use Rattle.shadow_masks.specs.declared.labels.Label.{Label}
use Rattle.shadow_masks.specs.Labels.{clean}
use Rattle.shadow_masks.specs.Pieces.{AreMasks, piece_mask}
use Rattle.shadow_masks.specs.Shades.{Shades, byte_label}
use Rattle.kept_states.specs.declared.laids.Laid.{Laid}
use Rattle.kept_states.specs.Keeping.{AreLaid, AreLaidMasks, mask_byte}
use Rattle.kept_states.specs.Laids.{HasBytes, LaidBelow, laid_byte}
use Rattle.kept_states.proofs.LaidBytes.{laid_past}

clean_mask : (shades : Shades) (address : ℕ) → byte_label shades address ≡ clean → (byte_label shades address).mask ≡ 0
clean_mask shades address none = ap (λ (label : Label). label.mask) none

piece_at : (shades : Shades) (number offset : ℕ) → piece_mask shades number offset ≡ mask_byte shades (number * 256 + offset)
piece_at shades number offset =
    let at : shades.base + number * 256 + offset ≡ shades.base + (number * 256 + offset) = omega arith in
    ap (λ (a : ℕ). (byte_label shades a).mask) at

pub has_masks : (shades : Shades) (number : ℕ) (masks : List ℕ) → AreMasks shades number masks →
    HasBytes (mask_byte shades) number masks
has_masks shades number masks are offset below = are offset below ∙ piece_at shades number offset

pub no_masks : (shades : Shades) (number : ℕ) → ((offset : ℕ) → offset < 256 → piece_mask shades number offset ≡ 0) →
    (offset : ℕ) → offset < 256 → mask_byte shades (number * 256 + offset) ≡ 0
no_masks shades number none offset below = sym (piece_at shades number offset) ∙ none offset below

-- a page that was not made
pub unmade : (shades : Shades) (page : ℕ) →
    ((address : ℕ) → shades.base ≤ address → (address - shades.base) / 4096 ≡ page → byte_label shades address ≡ clean) →
    (index : ℕ) → index / 4096 ≡ page → mask_byte shades index ≡ 0
unmade shades page none index at =
    let same : (shades.base + index - shades.base) / 4096 ≡ page = omega (arith, at) in
    clean_mask shades (shades.base + index) (none (shades.base + index) (omega arith) same)

-- all pieces are laid
pub all_masks : (pieces : List ℕ) (laids : List Laid) (shades : Shades) → LaidBelow pieces laids 65536 (mask_byte shades) →
    ((address : ℕ) → address < shades.base → byte_label shades address ≡ clean) →
    ((address : ℕ) → shades.base + memory_size ≤ address → byte_label shades address ≡ clean) →
    AreLaidMasks pieces laids shades
all_masks pieces laids shades below under over = λ address. elim (cases_lt address shades.base) [
  | inl low ↦
      let out : nat_le shades.base address ≡ false = grind (arith, nat_tests) in
      clean_mask shades address (under address low)
      ∙ sym (cond-false (nat_le shades.base address) (laid_byte pieces laids (address - shades.base)) 0 out)
  | inr high ↦
      let here : nat_le shades.base address ≡ true = grind (arith, nat_tests) in
      let at : shades.base + (address - shades.base) ≡ address = omega (arith, high) in
      elim (cases_lt (address - shades.base) (65536 * 256)) [
        | inl inside ↦
            ap (λ (a : ℕ). (byte_label shades a).mask) (sym at)
            ∙ sym (below.same (address - shades.base) inside)
            ∙ sym (cond-true (nat_le shades.base address) (laid_byte pieces laids (address - shades.base)) 0 here)
        | inr past ↦
            clean_mask shades address (over address (omega (arith, past, high)))
            ∙ sym (laid_past pieces laids 65536 (address - shades.base) below.numbers past)
            ∙ sym (cond-true (nat_le shades.base address) (laid_byte pieces laids (address - shades.base)) 0 here)
      ]
]

pub all_memory : (pieces : List ℕ) (laids : List Laid) (memory : List ℕ) →
    LaidBelow pieces laids 65536 (λ index. slice_index memory index) → length memory ≡ memory_size →
    AreLaid pieces laids memory
all_memory pieces laids memory below size = record {
  size = size;
  same = λ index inside. sym (below.same index (omega (arith, inside)));
}
