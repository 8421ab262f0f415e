-- What covers words.
use Rattle.std.proofs.Common.{◌≡◌, ℕ, ◌+◌, ◌-◌, ◌%◌, ◌^◌, ◌<◌, max, min, refl, sym, ap, ◌∙◌, arith, suc, zero}
use Rattle.std.specs.Prelude.{bit_and, bit_or, bit_xor}
use Rattle.std.specs.Int.{bit_at}
use Rattle.std.proofs.lemmas.Nat.{or_lt, xor_lt}
use Rattle.std.proofs.lemmas.Nat.Bits.{bit_at_or, bit_at_xor, bit_at-lt, bit_at-zero, same_from_bits}
use Rattle.flow_base.specs.Words.{Agree}
use Rattle.transfer_rules.specs.Table1.{flipped}
use Rattle.transfer_rules.specs.Table2.{least}
use Rattle.transfer_rules.proofs.Bounds.{bit_least}

-- the mask of what covers two words with bits
abbrev pub cover_mask : ℕ → ℕ → ℕ → ℕ → ℕ
cover_mask m n v w = bit_or (bit_or m n) (bit_xor v w)

mask_fits : (m n v w : ℕ) → m < 2 ^ 32 → n < 2 ^ 32 → v < 2 ^ 32 → w < 2 ^ 32 → cover_mask m n v w < 2 ^ 32
mask_fits m n v w fm fn fv fw = or_lt 32 (bit_or m n) (bit_xor v w) (or_lt 32 m n fm fn) (xor_lt 32 v w fv fw)

bits_none : (p q x y : ℕ) → x < 2 → y < 2 → max (max p q) ((x + y) % 2) ≡ 0 → (p ≡ 0) × (q ≡ 0) × (x ≡ y)
bits_none p q zero zero fx fy none = (omega arith, omega arith, refl)
bits_none p q zero (suc zero) fx fy none = absurd (omega (arith, none))
bits_none p q (suc zero) zero fx fy none = absurd (omega (arith, none))
bits_none p q (suc zero) (suc zero) fx fy none = (omega arith, omega arith, refl)
bits_none p q (suc (suc x)) y fx fy none = absurd (omega arith)
bits_none p q zero (suc (suc y)) fx fy none = absurd (omega arith)
bits_none p q (suc zero) (suc (suc y)) fx fy none = absurd (omega arith)

known_of_both : (m n v w i : ℕ) → bit_at (cover_mask m n v w) i ≡ 0 →
    (bit_at m i ≡ 0) × (bit_at n i ≡ 0) × (bit_at v i ≡ bit_at w i)
known_of_both m n v w i none =
    let here : bit_at (cover_mask m n v w) i ≡ max (max (bit_at m i) (bit_at n i)) ((bit_at v i + bit_at w i) % 2) =
    grind (arith, bit_at_or, bit_at_xor) in
    bits_none (bit_at m i) (bit_at n i) (bit_at v i) (bit_at w i) (bit_at-lt v i) (bit_at-lt w i) (sym here ∙ none)

value_kept : (m n v w i : ℕ) → m < 2 ^ 32 → n < 2 ^ 32 → v < 2 ^ 32 → w < 2 ^ 32 → bit_at (cover_mask m n v w) i ≡ 0 →
    bit_at (least v (cover_mask m n v w)) i ≡ bit_at v i
value_kept m n v w i fm fn fv fw none =
    bit_least v (cover_mask m n v w) i fv (mask_fits m n v w fm fn fv fw)
    ∙ kept (bit_at v i) (bit_at (cover_mask m n v w) i) (bit_at-lt v i) none
  where
    kept : (x p : ℕ) → x < 2 → p ≡ 0 → min x (1 - p) ≡ x
    kept x p below e = omega arith

pub covers_first : (m n v w a : ℕ) → m < 2 ^ 32 → n < 2 ^ 32 → v < 2 ^ 32 → w < 2 ^ 32 → Agree m v a →
    Agree (cover_mask m n v w) (least v (cover_mask m n v w)) a
covers_first m n v w a fm fn fv fw h i none =
    value_kept m n v w i fm fn fv fw none ∙ h i (known_of_both m n v w i none).0

pub covers_second : (m n v w a : ℕ) → m < 2 ^ 32 → n < 2 ^ 32 → v < 2 ^ 32 → w < 2 ^ 32 → Agree n w a →
    Agree (cover_mask m n v w) (least v (cover_mask m n v w)) a
covers_second m n v w a fm fn fv fw h i none =
    value_kept m n v w i fm fn fv fw none ∙ (known_of_both m n v w i none).2 ∙ h i (known_of_both m n v w i none).1

-- ---- a word that has bits differs from them nowhere outside the mask

no_difference : (x y p : ℕ) → (p ≡ 0 → y ≡ x) → min ((x + y) % 2) (1 - p) ≡ 0
no_difference x y zero h = let e : y ≡ x = h refl in omega arith
no_difference x y (suc p) h = omega arith

pub none_differs : (m v a : ℕ) → m < 2 ^ 32 → v < 2 ^ 32 → a < 2 ^ 32 → Agree m v a →
    bit_and (bit_xor a v) (flipped m) ≡ 0
none_differs m v a fm fv fa h = same_from_bits (bit_and (bit_xor a v) (flipped m)) 0
    (λ i.
    bit_least (bit_xor a v) m i (xor_lt 32 a v fa fv) fm
    ∙ ap (λ x. min x (1 - bit_at m i)) (bit_at_xor a v i)
    ∙ no_difference (bit_at a i) (bit_at v i) (bit_at m i) (h i)
    ∙ sym (bit_at-zero i))
