-- The rule of sums, differences and products: every bit from the lowest secret bit upwards.
use Rattle.std.proofs.Common.{◌≡◌, ℕ, ◌+◌, ◌-◌, ◌*◌, ◌%◌, ◌^◌, ◌<◌, ◌≤◌, max, sym, ap, ap₂, ◌∙◌, ⊎_elim, arith, pow_pos}
use Rattle.std.proofs.Common.{pow-add, mod-eq_of_lt}
use Rattle.std.specs.Prelude.{bit_or}
use Rattle.std.specs.Int.{bit_at}
use Rattle.std.proofs.Math.Nat.{mul-mod_left, add-mod-mod, mod-add-mod, add-mod_left}
use Rattle.std.proofs.Math.Pow.{mod-mod-pow}
use Rattle.std.proofs.lemmas.Bool.{cases_lt}
use Rattle.std.proofs.lemmas.Nat.{le_or_l, le_or_r, mod_below, mod-pow-add, mul-mod, or_mod, or_lt}
use Rattle.std.proofs.lemmas.Nat.Bits.{bit_at_or, bit_at_above}
use Rattle.flow_base.specs.Words.{Agree}
use Rattle.transfer_rules.specs.Table1.{sum_mask}
use Rattle.transfer_rules.proofs.Agreement.{bit_low, same_low}

-- ---- sums under a modulus

pub sum_mod : (x y k : ℕ) → (x % k + y % k) % k ≡ (x + y) % k
sum_mod x y k = add-mod-mod (x % k) y k ∙ mod-add-mod x k y

once : (s k : ℕ) → k ≤ s → s < k + k → s % k ≡ s - k
once s k from below =
    let whole : s ≡ k + (s - k) = omega arith in
    let rest : s - k < k = omega arith in
    ap (λ x. x % k) whole ∙ add-mod_left k (s - k) ∙ mod-eq_of_lt rest

cancel : (x y r k : ℕ) → x < k → y < k → r < k → (x + r) % k ≡ (y + r) % k → x ≡ y
cancel x y r k p q l e = ⊎_elim
    (λ low. let first : (x + r) % k ≡ x + r = mod-eq_of_lt low in ⊎_elim
    (λ low'. let second : (y + r) % k ≡ y + r = mod-eq_of_lt low' in omega (arith, e, first, second))
    (λ high'. let second : (y + r) % k ≡ y + r - k = once (y + r) k high' (omega arith) in omega (arith, e, first, second))
    (cases_lt (y + r) k))
    (λ high. let first : (x + r) % k ≡ x + r - k = once (x + r) k high (omega arith) in ⊎_elim
    (λ low'. let second : (y + r) % k ≡ y + r = mod-eq_of_lt low' in omega (arith, e, first, second))
    (λ high'. let second : (y + r) % k ≡ y + r - k = once (y + r) k high' (omega arith) in omega (arith, e, first, second))
    (cases_lt (y + r) k))
    (cases_lt (x + r) k)

-- ---- the lowest secret bit

clear_low : (t i : ℕ) → bit_at t i ≡ 0 → t % 2 ^ (1 + i) ≡ t % 2 ^ i
clear_low t i clear = mod-pow-add t 1 i ∙ ap (λ d. d * 2 ^ i + t % 2 ^ i) clear ∙ omega arith

whole_words : (i : ℕ) → i < 32 → 2 ^ 32 % 2 ^ (1 + i) ≡ 0
whole_words i inside =
    let parts : 32 ≡ (31 - i) + (1 + i) = omega arith in
    ap (λ j. 2 ^ j % 2 ^ (1 + i)) parts ∙ ap (λ x. x % 2 ^ (1 + i)) (pow-add 2 (31 - i) (1 + i))
    ∙ mul-mod_left (2 ^ (31 - i)) (2 ^ (1 + i))

clear_both :
    (t n i : ℕ) → t + n ≡ 2 ^ 32 → i < 32 → bit_at t i ≡ 0 → bit_at n i ≡ 0 → t % 2 ^ (1 + i) ≡ 0
clear_both t n i both inside clear clear' =
    let k = 2 ^ (1 + i) in
    let twice : 2 ^ (1 + i) ≡ 2 * 2 ^ i = pow-add 2 1 i in
    let first : t % 2 ^ (1 + i) ≡ t % 2 ^ i = clear_low t i clear in
    let second : n % 2 ^ (1 + i) ≡ n % 2 ^ i = clear_low n i clear' in
    let less : t % 2 ^ i < 2 ^ i = mod_below t (2 ^ i) (pow_pos i) in
    let less' : n % 2 ^ i < 2 ^ i = mod_below n (2 ^ i) (pow_pos i) in
    let small : t % k + n % k < k = omega (arith, twice, first, second, less, less') in
    let none : t % k + n % k ≡ 0 =
    sym (mod-eq_of_lt small) ∙ sum_mod t n k ∙ ap (λ x. x % k) both ∙ whole_words i inside in
    omega (arith, none)

pub secret_low : (t i : ℕ) → t < 2 ^ 32 → i < 32 → bit_at (sum_mask t) i ≡ 0 → t % 2 ^ (1 + i) ≡ 0
secret_low t i fits inside none =
    let both : max (bit_at t i) (bit_at ((2 ^ 32 - t) % 2 ^ 32) i) ≡ 0 = sym (bit_at_or t ((2 ^ 32 - t) % 2 ^ 32) i) ∙ none in
    let first : bit_at t i ≡ 0 = none_left (bit_at t i) (bit_at ((2 ^ 32 - t) % 2 ^ 32) i) both in
    let second : bit_at ((2 ^ 32 - t) % 2 ^ 32) i ≡ 0 = none_right (bit_at t i) (bit_at ((2 ^ 32 - t) % 2 ^ 32) i) both in
    clear_both t (2 ^ 32 - t) i (omega arith) inside first (sym (bit_low 32 (2 ^ 32 - t) i inside) ∙ second)
  where
    none_left : (x y : ℕ) → max x y ≡ 0 → x ≡ 0
    none_left x y e = omega arith

    none_right : (x y : ℕ) → max x y ≡ 0 → y ≡ 0
    none_right x y e = omega arith

-- ---- results that go by the low parts of the operands

pub by_low_parts :
    (f : ℕ → ℕ → ℕ) (m n v w a b : ℕ) → m < 2 ^ 32 → n < 2 ^ 32 → f v w < 2 ^ 32 → f a b < 2 ^ 32 →
    ((k : ℕ) → k ≤ 32 → v % 2 ^ k ≡ a % 2 ^ k → w % 2 ^ k ≡ b % 2 ^ k → f v w % 2 ^ k ≡ f a b % 2 ^ k) →
    Agree m v a → Agree n w b → Agree (sum_mask (bit_or m n)) (f v w) (f a b)
by_low_parts f m n v w a b fm fn fits fits' same h k i none = ⊎_elim
    (λ inside.
    let low : bit_or m n % 2 ^ (1 + i) ≡ 0 = secret_low (bit_or m n) i (or_lt 32 m n fm fn) inside none in
    let apart : bit_or (m % 2 ^ (1 + i)) (n % 2 ^ (1 + i)) ≡ 0 = sym (or_mod m n (1 + i)) ∙ low in
    let no_m : m % 2 ^ (1 + i) ≡ 0 = omega (arith, apart, le_or_l (m % 2 ^ (1 + i)) (n % 2 ^ (1 + i))) in
    let no_n : n % 2 ^ (1 + i) ≡ 0 = omega (arith, apart, le_or_r (m % 2 ^ (1 + i)) (n % 2 ^ (1 + i))) in
    let equal : f v w % 2 ^ (1 + i) ≡ f a b % 2 ^ (1 + i) =
    same (1 + i) (omega arith) (same_low (1 + i) m v a h no_m) (same_low (1 + i) n w b k no_n) in
    sym (bit_low (1 + i) (f v w) i (omega arith)) ∙ ap (λ x. bit_at x i) equal ∙ bit_low (1 + i) (f a b) i (omega arith))
    (λ above. bit_at_above (f v w) 32 i fits above ∙ sym (bit_at_above (f a b) 32 i fits' above))
    (cases_lt i 32)

pub word_part : (n k : ℕ) → k ≤ 32 → n % 2 ^ 32 % 2 ^ k ≡ n % 2 ^ k
word_part n k within =
    let parts : 32 ≡ (32 - k) + k = omega arith in ap (λ j. n % 2 ^ j % 2 ^ k) parts ∙ mod-mod-pow n (32 - k) k

plain_sum : (v w a b k : ℕ) → v % k ≡ a % k → w % k ≡ b % k → (v + w) % k ≡ (a + b) % k
plain_sum v w a b k e e' = sym (sum_mod v w k) ∙ ap₂ (λ x y. (x + y) % k) e e' ∙ sum_mod a b k

pub same_sum :
    (v w a b k : ℕ) → k ≤ 32 → v % 2 ^ k ≡ a % 2 ^ k → w % 2 ^ k ≡ b % 2 ^ k →
    (v + w) % 2 ^ 32 % 2 ^ k ≡ (a + b) % 2 ^ 32 % 2 ^ k
same_sum v w a b k within e e' = word_part (v + w) k within ∙ plain_sum v w a b (2 ^ k) e e' ∙ sym (word_part (a + b) k within)

negated : (w b k : ℕ) → 0 < k → w < 2 ^ 32 → b < 2 ^ 32 → w % k ≡ b % k → (2 ^ 32 - w) % k ≡ (2 ^ 32 - b) % k
negated w b k some fw fb e =
    let first : (2 ^ 32 - w) + w ≡ (2 ^ 32 - b) + b = omega arith in
    cancel ((2 ^ 32 - w) % k) ((2 ^ 32 - b) % k) (w % k) k (mod_below (2 ^ 32 - w) k some) (mod_below (2 ^ 32 - b) k some)
    (mod_below w k some)
    (sum_mod (2 ^ 32 - w) w k ∙ ap (λ x. x % k) first ∙ sym (sum_mod (2 ^ 32 - b) b k)
    ∙ ap (λ x. ((2 ^ 32 - b) % k + x) % k) (sym e))

pub same_difference :
    (v w a b k : ℕ) → w < 2 ^ 32 → b < 2 ^ 32 → k ≤ 32 → v % 2 ^ k ≡ a % 2 ^ k → w % 2 ^ k ≡ b % 2 ^ k →
    (v + (2 ^ 32 - w)) % 2 ^ 32 % 2 ^ k ≡ (a + (2 ^ 32 - b)) % 2 ^ 32 % 2 ^ k
same_difference v w a b k fw fb within e e' =
    same_sum v (2 ^ 32 - w) a (2 ^ 32 - b) k within e (negated w b (2 ^ k) (pow_pos k) fw fb e')

pub same_product :
    (v w a b k : ℕ) → k ≤ 32 → v % 2 ^ k ≡ a % 2 ^ k → w % 2 ^ k ≡ b % 2 ^ k →
    v * w % 2 ^ 32 % 2 ^ k ≡ a * b % 2 ^ 32 % 2 ^ k
same_product v w a b k within e e' =
    word_part (v * w) k within ∙ mul-mod v w (2 ^ k) ∙ ap₂ (λ x y. x * y % 2 ^ k) e e' ∙ sym (mul-mod a b (2 ^ k))
    ∙ sym (word_part (a * b) k within)
