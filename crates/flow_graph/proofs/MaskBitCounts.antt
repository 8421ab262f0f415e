-- The number of bits of a mask.
use Rattle.std.proofs.Common.{◌≡◌, ◌⊎◌, ℕ, zero, suc, ◌+◌, ◌*◌, ◌/◌, ◌%◌, ◌^◌, ◌≤◌, ◌<◌, refl, sym, ap, ◌∙◌, inl, inr}
use Rattle.std.proofs.Common.{arith}
use Rattle.std.specs.Prelude.{count_ones}
use Rattle.std.specs.Int.Count.{ones}
use Rattle.std.proofs.lemmas.Nat.{ones_cat, zero_from_ones}
use Rattle.std.proofs.lemmas.Bool.{cases_lt}
use Rattle.std.proofs.Math.Nat.{pow-suc}
use Rattle.flow_base.specs.Words.{count_below, bit_count}

parity : (n : ℕ) → (n % 2 ≡ 0) ⊎ (n % 2 ≡ 1)
parity n = elim (n % 2) as (λ r. n % 2 ≡ r → (n % 2 ≡ 0) ⊎ (n % 2 ≡ 1)) [
  | zero ↦ (λ e. inl e)
  | suc r ↦ (λ e. inr (omega (arith, e)))
] refl

half : (p n : ℕ) → n < 2 ^ suc p → n / 2 < 2 ^ p
half p n h = omega (arith, h, pow-suc 2 p)

count_odd : (p m : ℕ) → m % 2 ≡ 1 → count_below (suc p) m ≡ suc (count_below p (m / 2))
unfolding count_below
count_odd p m e = rw e refl

count_even : (p m : ℕ) → m % 2 ≡ 0 → count_below (suc p) m ≡ count_below p (m / 2)
unfolding count_below
count_even p m e = rw e refl

count_none : (m : ℕ) → count_below zero m ≡ 0
unfolding count_below
count_none m = refl

count_zero : (p : ℕ) → count_below p 0 ≡ 0
count_zero zero = count_none 0
count_zero (suc p) = count_even p 0 refl ∙ count_zero p

count_is_ones : (p m : ℕ) → m < 2 ^ p → count_below p m ≡ ones m
unfolding ones
count_is_ones zero m h = let e : m ≡ 0 = omega arith in rw e (count_none 0)
count_is_ones (suc p) m h =
    let whole : m / 2 * 2 ^ 1 + m % 2 ≡ m = omega arith in
    let split : ones m ≡ ones (m / 2) + ones (m % 2) = ap (λ n. ones n) (sym whole) ∙
    ones_cat 1 (m / 2) (m % 2) (omega arith) in
    let below : count_below p (m / 2) ≡ ones (m / 2) = count_is_ones p (m / 2) (half p m h) in
    elim (parity m) [
      | inl e ↦ let none : ones (m % 2) ≡ 0 = rw e refl in omega (arith, count_even p m e, split, below, none)
      | inr e ↦ let one : ones (m % 2) ≡ 1 = rw e refl in omega (arith, count_odd p m e, split, below, one)
    ]

count_below_bound : (p m : ℕ) → count_below p m ≤ p
count_below_bound zero m = rw (count_none m) (omega arith)
count_below_bound (suc p) m = elim (parity m) [
  | inl e ↦ omega (arith, count_even p m e, count_below_bound p (m / 2))
  | inr e ↦ omega (arith, count_odd p m e, count_below_bound p (m / 2))
]

pub bit_count_zero : bit_count 0 ≡ 0
bit_count_zero = count_zero 32

pub bit_count_bound : (m : ℕ) → bit_count m ≤ 32
bit_count_bound m = count_below_bound 32 m

pub bit_count_ones : (m : ℕ) → m < 2 ^ 32 → bit_count m ≡ ones m
bit_count_ones m h = count_is_ones 32 m h

pub ones_some : (m : ℕ) → 0 < m → 0 < count_ones m
ones_some m some =
    elim (cases_lt 0 (count_ones m)) as (λ _. 0 < count_ones m) [
      | inl h ↦ h
      | inr h ↦ let none : m ≡ 0 = zero_from_ones m (omega arith) in absurd (omega arith)
    ]
