-- Masks of a list and, after it, of a pattern that repeats.
use Rattle.std.proofs.Common.{◌≡◌, ℕ, zero, suc, ◌+◌, ◌-◌, ◌<◌, ◌≤◌, inl, inr, List, [], ◌∷◌, ◌++◌, length, sym}
use Rattle.std.proofs.Common.{ap, ◌∙◌, arith}
use Rattle.std.proofs.lemmas.Bool.{cases_lt}
use Rattle.std.specs.Prelude.{◌%◌, replicate, slice_index_or}
use Rattle.std.proofs.Math.Nat.{mod-eq_of_lt, add-mod_right}
use Rattle.cut_file.specs.declared.points.Run.{Run}
use Rattle.cut_file.specs.Masks.{listed_masks, repeated}
use Rattle.cut_file.proofs.MaskLists.{repeated_here, repeated_behind}

-- the first of the list is next
pub repeated_first : (mask : ℕ) (masks pattern : List ℕ) → repeated (mask ∷ masks) pattern 0 ≡ mask
repeated_first mask masks pattern = repeated_here (mask ∷ masks) pattern 0 (omega arith)

-- and then the list is one shorter
pub repeated_later : (mask : ℕ) (masks pattern : List ℕ) (place : ℕ) →
    repeated (mask ∷ masks) pattern (suc place) ≡ repeated masks pattern place
repeated_later mask masks pattern place = elim (cases_lt place (length masks)) [
  | inl inside ↦
      repeated_here (mask ∷ masks) pattern (suc place) (omega (arith, inside))
      ∙ sym (repeated_here masks pattern place inside)
  | inr behind ↦
      let same : suc place - length (mask ∷ masks) ≡ place - length masks = omega arith in
      repeated_behind (mask ∷ masks) pattern (suc place) (omega (arith, behind))
      ∙ ap (λ (n : ℕ). slice_index_or pattern (n % length pattern) 0) same
      ∙ sym (repeated_behind masks pattern place behind)
]

-- after the list the pattern stands, and then once more
pub repeated_round : (pattern : List ℕ) (place : ℕ) → 0 < length pattern →
    repeated [] pattern place ≡ repeated pattern pattern place
repeated_round pattern place some =
    let start : place - length {A = ℕ} [] ≡ place = omega arith in
    elim (cases_lt place (length pattern)) [
      | inl inside ↦
          repeated_behind [] pattern place (omega arith)
          ∙ ap (λ (n : ℕ). slice_index_or pattern (n % length pattern) 0) start
          ∙ ap (λ (n : ℕ). slice_index_or pattern n 0) (mod-eq_of_lt inside)
          ∙ sym (repeated_here pattern pattern place inside)
      | inr behind ↦
          let whole : place ≡ (place - length pattern) + length pattern = omega (arith, behind) in
          repeated_behind [] pattern place (omega arith)
          ∙ ap (λ (n : ℕ). slice_index_or pattern (n % length pattern) 0) (start ∙ whole)
          ∙ ap (λ (n : ℕ). slice_index_or pattern n 0) (add-mod_right (place - length pattern) (length pattern))
          ∙ sym (repeated_behind pattern pattern place behind)
    ]

-- ---- the masks of runs

-- a run of which nothing is left is passed over
pub masks_ended : (count mask : ℕ) (runs : List Run) → count ≡ 0 →
    listed_masks (record { count = count; mask = mask } ∷ runs) ≡ listed_masks runs
unfolding listed_masks
masks_ended count mask runs none = ap (λ (n : ℕ). replicate n mask ++ listed_masks runs) none

-- the first mask of a run is its own, and the others are those of the run with one visit fewer
pub masks_step : (count mask : ℕ) (runs : List Run) → 1 ≤ count →
    listed_masks (record { count = count; mask = mask } ∷ runs)
    ≡ mask ∷ listed_masks (record { count = count - 1; mask = mask } ∷ runs)
unfolding listed_masks
masks_step zero mask runs some = absurd (omega arith)
masks_step (suc count) mask runs some =
    let same : count ≡ suc count - 1 = omega arith in
    ap (λ (n : ℕ). mask ∷ (replicate n mask ++ listed_masks runs)) same
