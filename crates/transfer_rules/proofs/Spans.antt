-- Words between two words agree outside the span of these, and what is monotone stays between its least and greatest.
use Rattle.std.proofs.Common.{◌≡◌, ℕ, ◌+◌, ◌-◌, ◌/◌, ◌%◌, ◌^◌, ◌<◌, ◌≤◌, refl, sym, ap, ◌∙◌}
use Rattle.std.proofs.Common.{⊎_elim, arith, shr-shr}
use Rattle.std.specs.Prelude.{bit_xor}
use Rattle.std.specs.Int.{bit_at, leading_zeros, w32}
use Rattle.std.proofs.Math.Nat.{div-eq_of_lt, div-le_self, div-mul-le_self}
use Rattle.std.proofs.Math.Pow.{shr_mono}
use Rattle.std.proofs.lemmas.Bool.{cases_eq, cases_lt, eq-eqb, ne_eqb}
use Rattle.std.proofs.lemmas.Nat.{le-div, leading_length, leading_top, mul-le, xor_lt, xor_shr}
use Rattle.std.proofs.lemmas.Nat.Bits.{bit_at-zero, bit_at_xor, bit_at-lt, bit_at_ones, ones_shr, same_from_bits}
use Rattle.flow_base.specs.Words.{Agree}
use Rattle.transfer_rules.specs.Table3.{span}

-- ---- words that differ

-- words with the same bits are equal
pub same_by_xor : (x y : ℕ) → bit_xor x y ≡ 0 → x ≡ y
same_by_xor x y none = same_from_bits x y (λ i.
    even (bit_at x i) (bit_at y i) (bit_at-lt x i) (bit_at-lt y i)
    (sym (bit_at_xor x y i) ∙ ap (λ n. bit_at n i) none ∙ bit_at-zero i))
  where
    even : (a b : ℕ) → a < 2 → b < 2 → (a + b) % 2 ≡ 0 → a ≡ b
    even a b p q e = omega arith

-- of words that differ not all bits agree
pub some_differs : (x y : ℕ) → x < 2 ^ 32 → y < 2 ^ 32 → (x ≡ y → ⊥) → leading_zeros w32 (bit_xor x y) < 32
some_differs x y p q differ = ⊎_elim
    (λ none. absurd (differ (same_by_xor x y (omega (arith, none)))))
    (λ some. let top = leading_top 32 (bit_xor x y) some (xor_lt 32 x y p q) in omega (arith, top.1))
    (cases_lt (bit_xor x y) 1)

-- ---- the span of two words

-- the lowest bits, below a place from which on the two words agree
record Spanned (x y : ℕ) : Type 0 where
  pub places : ℕ
  pub is : span x y ≡ 2 ^ places - 1
  pub above : x / 2 ^ places ≡ y / 2 ^ places

spanned : (x y : ℕ) → x < 2 ^ 32 → y < 2 ^ 32 → Spanned x y
spanned x y p q = ⊎_elim
    (λ same. record {
      places = 0;
      is = rw (eq-eqb x y same) refl;
      above = ap (λ n. n / 2 ^ 0) same;
    })
    (λ differ.
    let long = leading_length 32 (bit_xor x y) (xor_lt 32 x y p q) in
    let m = long.0 in
    let z = leading_zeros w32 (bit_xor x y) in
    let rest : 32 - z ≡ m = omega (arith, long.1) in
    let inside : z ≤ 32 = omega (arith, long.1) in
    record {
      places = m;
      is = rw (ne_eqb x y differ) (ones_shr 32 z inside ∙ ap (λ k. 2 ^ k - 1) rest);
      above = same_by_xor (x / 2 ^ m) (y / 2 ^ m)
          (sym (xor_shr x y m) ∙ below (bit_xor x y) m long.2);
    })
    (cases_eq x y)
  where
    below : (n m : ℕ) → n < 2 ^ m → n / 2 ^ m ≡ 0
    below n m small = div-eq_of_lt small

-- the span of two words is a word
pub span_fits : (x y : ℕ) → span x y < 2 ^ 32
span_fits x y = ⊎_elim
    (λ same. rw (eq-eqb x y same) (omega arith))
    (λ differ.
    let part : 4294967295 / 2 ^ leading_zeros w32 (bit_xor x y) ≤ 4294967295 =
    div-le_self 4294967295 (2 ^ leading_zeros w32 (bit_xor x y)) in
    rw (ne_eqb x y differ) (omega (arith, part)))
    (cases_eq x y)

-- words between two words agree outside the span of these
pub agree_span :
    (x y a b : ℕ) → x < 2 ^ 32 → y < 2 ^ 32 → x ≤ a → a ≤ y → x ≤ b → b ≤ y → Agree (span x y) a b
agree_span x y a b p q xa ay xb by i none =
    let s = spanned x y p q in
    let m = s.places in
    ⊎_elim
    (λ inside.
    let one : bit_at (span x y) i ≡ 1 = ap (λ n. bit_at n i) s.is ∙ bit_at_ones m i inside in
    absurd (omega (arith, one, none)))
    (λ from.
    let same : a / 2 ^ m ≡ b / 2 ^ m =
    omega (arith, s.above, shr_mono m xa, shr_mono m ay, shr_mono m xb, shr_mono m by) in
    high_bit a m i from ∙ ap (λ n. bit_at n (i - m)) same ∙ sym (high_bit b m i from))
    (cases_lt i m)
  where
    high_bit : (n m i : ℕ) → m ≤ i → bit_at n i ≡ bit_at (n / 2 ^ m) (i - m)
    high_bit n m i from =
        let whole : i ≡ m + (i - m) = omega arith in
        ap (bit_at n) whole ∙ sym (ap (λ k. k % 2) (shr-shr n m (i - m)))

-- ---- quotients

-- a lesser dividend by a greater divisor gives no greater quotient
pub quotient_le : (a b x y : ℕ) → a ≤ x → y ≤ b → 0 < y → a / b ≤ x / y
quotient_le a b x y ax yb some =
    le-div (a / b) x y some
    (omega (arith, mul-le (a / b) y (a / b) b (omega arith) yb, div-mul-le_self a b, ax))
