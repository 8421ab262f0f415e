-- Agreement outside a mask: where no bit is secret, where all are, and bits of the low part of a number.
use Rattle.std.proofs.Common.{◌≡◌, ℕ, zero, suc, ◌/◌, ◌%◌, ◌^◌, ◌<◌, refl, sym, ap, ap₂, subst, ◌∙◌, ⊎_elim, arith}
use Rattle.std.proofs.Common.{pow_pos, div-add-mod'}
use Rattle.std.specs.Prelude.{bit_or}
use Rattle.std.specs.Int.{bit_at}
use Rattle.std.proofs.lemmas.Bool.{cases_lt}
use Rattle.std.proofs.lemmas.Nat.{le_or_l, le_or_r, mod_below}
use Rattle.std.proofs.lemmas.Nat.Bits.{bit_at-zero, bit_at_ones, bit_at_above, bit_at_cat_low, same_from_bits}
use Rattle.std.proofs.lemmas.Nat.Bits.{same_from_bits_below}
use Rattle.flow_base.specs.Words.{Agree}
use Rattle.transfer_rules.specs.Table1.{all_mask, one_mask}

pub same_where_none : (a b : ℕ) → Agree 0 a b → a ≡ b
same_where_none a b h = same_from_bits a b (λ i. h i (bit_at-zero i))

pub agree_same : (mask a b : ℕ) → a ≡ b → Agree mask a b
agree_same mask a b e i none = ap (λ x. bit_at x i) e

pub agree_all : (a b : ℕ) → a < 2 ^ 32 → b < 2 ^ 32 → Agree 4294967295 a b
agree_all a b p q i none = ⊎_elim
    (λ below. let one : bit_at 4294967295 i ≡ 1 = bit_at_ones 32 i below in absurd (omega (arith, none, one)))
    (λ above. bit_at_above a 32 i p above ∙ sym (bit_at_above b 32 i q above))
    (cases_lt i 32)

pub agree_one : (a b : ℕ) → a < 2 → b < 2 → Agree 1 a b
agree_one a b p q zero none = absurd (omega (arith, none))
agree_one a b p q (suc i) none = bit_at_above a 1 (suc i) p (omega arith) ∙ sym (bit_at_above b 1 (suc i) q (omega arith))

all_where_some : (t a b : ℕ) → (t ≡ 0 → a ≡ b) → a < 2 ^ 32 → b < 2 ^ 32 → Agree (all_mask t) a b
all_where_some zero a b same p q = agree_same 0 a b (same refl)
all_where_some (suc t) a b same p q =
    let all : all_mask (suc t) ≡ 4294967295 = grind arith in subst (λ x. Agree x a b) (sym all) (agree_all a b p q)

one_where_some : (t a b : ℕ) → (t ≡ 0 → a ≡ b) → a < 2 → b < 2 → Agree (one_mask t) a b
one_where_some zero a b same p q = agree_same 0 a b (same refl)
one_where_some (suc t) a b same p q =
    let one : one_mask (suc t) ≡ 1 = grind arith in subst (λ x. Agree x a b) (sym one) (agree_one a b p q)

-- where no bit of either operand is secret, the operands are equal, and so is every result
pub same_result :
    (f : ℕ → ℕ → ℕ) (m n v w a b : ℕ) → Agree m v a → Agree n w b → bit_or m n ≡ 0 → f v w ≡ f a b
same_result f m n v w a b h k e =
    let no_m : m ≡ 0 = omega (arith, e, le_or_l m n) in
    let no_n : n ≡ 0 = omega (arith, e, le_or_r m n) in
    ap₂ f (same_where_none v a (subst (λ x. Agree x v a) no_m h)) (same_where_none w b (subst (λ x. Agree x w b) no_n k))

pub by_all :
    (f : ℕ → ℕ → ℕ) (m n v w a b : ℕ) → Agree m v a → Agree n w b → f v w < 2 ^ 32 → f a b < 2 ^ 32 →
    Agree (all_mask (bit_or m n)) (f v w) (f a b)
by_all f m n v w a b h k p q = all_where_some (bit_or m n) (f v w) (f a b) (same_result f m n v w a b h k) p q

pub by_one :
    (f : ℕ → ℕ → ℕ) (m n v w a b : ℕ) → Agree m v a → Agree n w b → f v w < 2 → f a b < 2 →
    Agree (one_mask (bit_or m n)) (f v w) (f a b)
by_one f m n v w a b h k p q = one_where_some (bit_or m n) (f v w) (f a b) (same_result f m n v w a b h k) p q

-- ---- the low part of a number

pub bit_low : (k n i : ℕ) → i < k → bit_at (n % 2 ^ k) i ≡ bit_at n i
bit_low k n i inside =
    sym (bit_at_cat_low (n / 2 ^ k) k (n % 2 ^ k) i inside) ∙ ap (λ x. bit_at x i) (div-add-mod' n (2 ^ k))

-- where no low bit is secret, the low parts are equal
pub same_low : (k m v a : ℕ) → Agree m v a → m % 2 ^ k ≡ 0 → v % 2 ^ k ≡ a % 2 ^ k
same_low k m v a h none =
    let clear : (i : ℕ) → i < k → bit_at m i ≡ 0 =
    λ i inside. sym (bit_low k m i inside) ∙ ap (λ x. bit_at x i) none ∙ bit_at-zero i in
    same_from_bits_below k (v % 2 ^ k) (a % 2 ^ k) (mod_below v (2 ^ k) (pow_pos k)) (mod_below a (2 ^ k) (pow_pos k))
    (λ i inside. bit_low k v i inside ∙ h i (clear i inside) ∙ sym (bit_low k a i inside))
