-- Products agree below the lowest bit of a secret bit of one operand times a bit of the other.
use Rattle.std.proofs.Common.{◌≡◌, ℕ, suc, ◌+◌, ◌-◌, ◌*◌, ◌/◌, ◌%◌, ◌^◌, ◌<◌, ◌≤◌, min, sym, ap, ap₂, subst, ◌∙◌}
use Rattle.std.proofs.Common.{⊎_elim, arith, pow_pos, pow-add, mod-eq_of_lt, div-add-mod', w32}
use Rattle.std.specs.Int.{bit_at, trailing_zeros}
use Rattle.std.proofs.Math.Arith.{mod-mul}
use Rattle.std.proofs.Math.Nat.{div_self, div-eq_of_lt, mod-add-mod, add-mul-mod_self_right, mul-div_cancel}
use Rattle.std.proofs.Math.Nat.{mul-mod_left, zero-mod}
use Rattle.std.proofs.Math.Pow.{mod-mod-pow, pow-lt}
use Rattle.std.proofs.lemmas.Bool.{cases_lt}
use Rattle.std.proofs.lemmas.Nat.{and_le_l, mod_below, mul-mod}
use Rattle.std.proofs.lemmas.Nat.Bits.{bit_at-zero, bit_at-pow_same, bit_at-pow_other, bit_at-trailing_zeros}
use Rattle.std.proofs.lemmas.Nat.Bits.{bit_at_and, bit_at_above, bit_at-lt, same_from_bits, same_from_bits_below}
use Rattle.flow_base.specs.Words.{Agree}
use Rattle.transfer_rules.specs.Table1.{flipped}
use Rattle.transfer_rules.specs.Table2.{lowest}
use Rattle.transfer_rules.proofs.Agreement.{bit_low, same_low, same_where_none}
use Rattle.transfer_rules.proofs.BitRules.{bit_flipped}
use Rattle.transfer_rules.proofs.Bounds.{le_by_bits, low_le_by_bits}
use Rattle.transfer_rules.proofs.Carries.{bit_sum, carry}
use Rattle.transfer_rules.proofs.Sums.{sum_mod}

-- ---- the lowest bit of a word

word_splits : (i : ℕ) → i ≤ 32 → 2 ^ 32 % 2 ^ i ≡ 0
word_splits i within =
    let parts : 32 ≡ (32 - i) + i = omega arith in
    ap (λ j. 2 ^ j % 2 ^ i) parts ∙ ap (λ x. x % 2 ^ i) (pow-add 2 (32 - i) i) ∙ mul-mod_left (2 ^ (32 - i)) (2 ^ i)

once_over : (s k : ℕ) → 0 < s → s < k + k → s % k ≡ 0 → s ≡ k
once_over s k some below e = ⊎_elim
    (λ less. absurd (omega (arith, e, mod-eq_of_lt less, some)))
    (λ from.
    let rest : s - k < k = omega arith in
    let whole : s ≡ s - k + 1 * k = omega arith in
    let gone : s - k ≡ 0 = sym (mod-eq_of_lt rest) ∙ sym (add-mul-mod_self_right (s - k) 1 k) ∙ ap (λ x. x % k) (sym whole) ∙ e in
    omega (arith, gone, from))
    (cases_lt s k)

-- the low parts of a word and of the word with each bit turned are all ones together
turned_low : (x i : ℕ) → x < 2 ^ 32 → i ≤ 32 → flipped x % 2 ^ i + x % 2 ^ i + 1 ≡ 2 ^ i
turned_low x i fits within =
    let k = 2 ^ i in
    let none : (flipped x % k + x % k + 1) % k ≡ 0 =
    sym (mod-add-mod (flipped x % k + x % k) k 1)
    ∙ ap (λ s. (s + 1) % k) (sum_mod (flipped x) x k)
    ∙ mod-add-mod (flipped x + x) k 1
    ∙ ap (λ s. s % k) (omega arith)
    ∙ word_splits i within in
    once_over (flipped x % k + x % k + 1) k (omega arith)
    (omega (arith, mod_below (flipped x) k (pow_pos i), mod_below x k (pow_pos i))) none

carry_whole : (x i : ℕ) → x < 2 ^ 32 → i ≤ 32 → x % 2 ^ i ≡ 0 → carry (flipped x) 0 1 i ≡ 1
carry_whole x i fits within none =
    ap (λ s. s / 2 ^ i) (omega (arith, turned_low x i fits within, none, zero-mod (2 ^ i))) ∙ div_self (pow_pos i)

carry_part : (x i : ℕ) → x < 2 ^ 32 → i ≤ 32 → 0 < x % 2 ^ i → carry (flipped x) 0 1 i ≡ 0
carry_part x i fits within some =
    div-eq_of_lt (omega (arith, turned_low x i fits within, some, zero-mod (2 ^ i)))

-- a bit of the negated word
negated_bit :
    (x i : ℕ) → x < 2 ^ 32 → i < 32 →
    bit_at ((2 ^ 32 - x) % 2 ^ 32) i ≡ (1 - bit_at x i + carry (flipped x) 0 1 i) % 2
negated_bit x i fits inside =
    let whole : 2 ^ 32 - x ≡ flipped x + 0 + 1 = omega arith in
    bit_low 32 (2 ^ 32 - x) i inside ∙ ap (λ n. bit_at n i) whole ∙ bit_sum (flipped x) 0 1 i
    ∙ ap₂ (λ p q. (p + q + carry (flipped x) 0 1 i) % 2) (bit_flipped x i fits inside) (bit_at-zero i)
    ∙ ap (λ s. (s + carry (flipped x) 0 1 i) % 2) (omega arith)

one_lowest : (b c : ℕ) → b < 2 → b ≡ 1 → c ≡ 1 → min b ((1 - b + c) % 2) ≡ 1
one_lowest b c below e e' = omega arith

one_above : (b c : ℕ) → b < 2 → c ≡ 0 → min b ((1 - b + c) % 2) ≡ 0
one_above b c below e = omega arith

one_below : (b c : ℕ) → b ≡ 0 → min b c ≡ 0
one_below b c e = omega arith

-- the lowest bit of a word that is not 0, and no part of the word is below it
pub record Lowest (x : ℕ) : Type 0 where
  pub place : ℕ
  pub inside : place < 32
  pub is : lowest x ≡ 2 ^ place
  pub none_below : x % 2 ^ place ≡ 0

part_from :
    (x p i : ℕ) → bit_at x p ≡ 1 → p < i → 0 < x % 2 ^ i
part_from x p i one above = ⊎_elim
    (λ none.
    let gone : x % 2 ^ i ≡ 0 = omega (arith, none) in
    absurd (omega (arith, sym one ∙ sym (bit_low i x p above) ∙ ap (λ n. bit_at n p) gone ∙ bit_at-zero p)))
    (λ some. some)
    (cases_lt (x % 2 ^ i) 1)

lowest_bit :
    (x p i : ℕ) → x < 2 ^ 32 → p < 32 → bit_at x p ≡ 1 → ((j : ℕ) → j < p → bit_at x j ≡ 0) → x % 2 ^ p ≡ 0 →
    bit_at (lowest x) i ≡ bit_at (2 ^ p) i
lowest_bit x p i fits inside one none low = ⊎_elim
    (λ word. bit_at_and x ((2 ^ 32 - x) % 2 ^ 32) i ∙ ⊎_elim
    (λ below. one_below (bit_at x i) (bit_at ((2 ^ 32 - x) % 2 ^ 32) i) (none i below)
    ∙ sym (bit_at-pow_other p i (λ e. omega (arith, e, below))))
    (λ from. ap (min (bit_at x i)) (negated_bit x i fits word) ∙ ⊎_elim
    (λ same. let e : i ≡ p = omega (arith, from, same) in
    one_lowest (bit_at x i) (carry (flipped x) 0 1 i) (bit_at-lt x i) (ap (bit_at x) e ∙ one)
    (carry_whole x i fits (omega arith) (ap (λ k. x % 2 ^ k) e ∙ low))
    ∙ sym (ap (bit_at (2 ^ p)) e ∙ bit_at-pow_same p))
    (λ above.
    one_above (bit_at x i) (carry (flipped x) 0 1 i) (bit_at-lt x i)
    (carry_part x i fits (omega arith) (part_from x p i one (omega (arith, above))))
    ∙ sym (bit_at-pow_other p i (λ e. omega (arith, e, above))))
    (cases_lt i (suc p)))
    (cases_lt i p))
    (λ beyond.
    bit_at_above (lowest x) 32 i (omega (arith, fits, and_le_l x ((2 ^ 32 - x) % 2 ^ 32))) beyond
    ∙ sym (bit_at-pow_other p i (λ e. omega (arith, e, beyond, inside))))
    (cases_lt i 32)

pub lowest_of : (x : ℕ) → 0 < x → x < 2 ^ 32 → Lowest x
lowest_of x some fits =
    let p = trailing_zeros w32 x in
    let found = bit_at-trailing_zeros w32 x some fits in
    let low : x % 2 ^ p ≡ 0 =
    same_from_bits_below p (x % 2 ^ p) 0 (mod_below x (2 ^ p) (pow_pos p)) (pow_pos p)
    (λ j below. bit_low p x j below ∙ found.2 j below ∙ sym (bit_at-zero j)) in
    record {
      place = p;
      inside = found.0;
      is = same_from_bits (lowest x) (2 ^ p) (λ i. lowest_bit x p i fits found.0 found.1 found.2 low);
      none_below = low;
    }

-- ---- products

scaled : (n p q : ℕ) → 0 < p → 0 < q → (n * q) % (p * q) ≡ n % p * q
scaled n p q some some' =
    mod-mul (n * q) some some' ∙ ap₂ (λ x y. x % p * q + y) (mul-div_cancel n some') (mul-mod_left n q) ∙ omega arith

-- a multiple of 2^q, times words that are the same below place p
times :
    (v a w p q : ℕ) → v % 2 ^ p ≡ a % 2 ^ p → w % 2 ^ q ≡ 0 → (v * w) % 2 ^ (p + q) ≡ (a * w) % 2 ^ (p + q)
times v a w p q same none =
    let c = w / 2 ^ q in
    let whole : w ≡ c * 2 ^ q = omega (arith, div-add-mod' w (2 ^ q), none) in
    let side : (x : ℕ) → (x * w) % 2 ^ (p + q) ≡ (x % 2 ^ p * (c % 2 ^ p)) % 2 ^ p * 2 ^ q =
    λ x. ap (λ y. (x * y) % 2 ^ (p + q)) whole ∙ ap (λ y. y % 2 ^ (p + q)) (moved x c (2 ^ q))
    ∙ ap (λ y. (x * c * 2 ^ q) % y) (pow-add 2 p q) ∙ scaled (x * c) (2 ^ p) (2 ^ q) (pow_pos p) (pow_pos q)
    ∙ ap (λ y. y * 2 ^ q) (mul-mod x c (2 ^ p)) in
    side v ∙ ap (λ y. (y * (c % 2 ^ p)) % 2 ^ p * 2 ^ q) same ∙ sym (side a)
  where
    moved : (x c k : ℕ) → x * (c * k) ≡ x * c * k
    moved x c k = grind arith

fewer : (x y n k : ℕ) → k ≤ n → x % 2 ^ n ≡ y % 2 ^ n → x % 2 ^ k ≡ y % 2 ^ k
fewer x y n k le e =
    let parts : n ≡ (n - k) + k = omega arith in
    sym (mod-mod-pow x (n - k) k) ∙ ap (λ j. x % 2 ^ j % 2 ^ k) (sym parts) ∙ ap (λ z. z % 2 ^ k) e
    ∙ ap (λ j. y % 2 ^ j % 2 ^ k) parts ∙ mod-mod-pow y (n - k) k

reaches : (n k : ℕ) → 2 ^ n % 2 ^ k ≡ 0 → k ≤ n
reaches n k e = ⊎_elim
    (λ less. absurd (omega (arith, sym (mod-eq_of_lt (pow-lt less)) ∙ e, pow_pos n)))
    (λ from. from)
    (cases_lt n k)

-- what agrees with v outside m, times a word whose bits are all of g, is the same below the product of the lowest bits
pub half :
    (m g v a w k : ℕ) → m < 2 ^ 32 → g < 2 ^ 32 → Agree m v a → ((j : ℕ) → bit_at w j ≤ bit_at g j) →
    (lowest m * lowest g) % 2 ^ k ≡ 0 → (v * w) % 2 ^ k ≡ (a * w) % 2 ^ k
half m g v a w k fm fg h within none = ⊎_elim
    (λ known.
    let e : m ≡ 0 = omega (arith, known) in
    ap (λ x. (x * w) % 2 ^ k) (same_where_none v a (subst (λ x. Agree x v a) e h)))
    (λ secret. ⊎_elim
    (λ gone.
    let e : w ≡ 0 = omega (arith, gone, le_by_bits w g within) in
    ap (λ x. (v * x) % 2 ^ k) e ∙ ap (λ x. x % 2 ^ k) (both_zero v a) ∙ ap (λ x. (a * x) % 2 ^ k) (sym e))
    (λ some.
    let first = lowest_of m secret fm in
    let second = lowest_of g some fg in
    let p = first.place in
    let q = second.place in
    let power : 2 ^ (p + q) % 2 ^ k ≡ 0 =
    ap (λ x. x % 2 ^ k) (pow-add 2 p q ∙ sym (ap₂ (λ x y. x * y) first.is second.is)) ∙ none in
    let low : w % 2 ^ q ≡ 0 = omega (arith, low_le_by_bits q w g within, second.none_below) in
    fewer (v * w) (a * w) (p + q) k (reaches (p + q) k power)
    (times v a w p q (same_low p m v a h first.none_below) low))
    (cases_lt g 1))
    (cases_lt m 1)
  where
    both_zero : (v a : ℕ) → v * 0 ≡ a * 0
    both_zero v a = omega arith
