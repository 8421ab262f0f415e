-- The rules of the shifts.
use Rattle.std.proofs.Common.{◌≡◌, ℕ, zero, suc, ◌+◌, ◌-◌, ◌*◌, ◌/◌, ◌%◌, ◌^◌, ◌<◌, ◌≤◌, min, refl, sym, ap, subst, ◌∙◌}
use Rattle.std.proofs.Common.{⊎_elim, arith, pow_pos, shr-shr, add-zero, div-le_self}
use Rattle.transfer_rules.specs.Table1.{flipped}
use Rattle.transfer_rules.proofs.BitRules.{bit_flipped}
use Rattle.std.specs.Prelude.{◌==◌, if◌then◌else◌}
use Rattle.std.specs.Int.{bit_at}
use Rattle.std.proofs.lemmas.Bool.{cases_lt}
use Rattle.std.proofs.lemmas.Nat.Bits.{bit_at-zero, bit_at_above, bit_at-lt, bit_at_cat_low, bit_at_cat_high}
use Rattle.flow_base.specs.Words.{Agree}
use Rattle.rv32im_decode.specs.Operations.{shifted_with_sign}
use Rattle.transfer_rules.proofs.Agreement.{agree_all, bit_low, same_low}

-- ---- to the left

pub left_low : (word places i : ℕ) → i < places → bit_at (word * 2 ^ places) i ≡ 0
left_low word places i below =
    ap (λ x. bit_at x i) (sym (add-zero (word * 2 ^ places))) ∙ bit_at_cat_low word places 0 i below ∙ bit_at-zero i

pub left_high : (word places i : ℕ) → places ≤ i → bit_at (word * 2 ^ places) i ≡ bit_at word (i - places)
left_high word places i from =
    ap (λ x. bit_at x i) (sym (add-zero (word * 2 ^ places))) ∙ bit_at_cat_high word places 0 i (pow_pos places) from

agree_left_whole : (m v a places : ℕ) → Agree m v a → Agree (m * 2 ^ places) (v * 2 ^ places) (a * 2 ^ places)
agree_left_whole m v a places h i none = ⊎_elim
    (λ below. left_low v places i below ∙ sym (left_low a places i below))
    (λ from. left_high v places i from ∙ h (i - places) (sym (left_high m places i from) ∙ none) ∙ sym (left_high a places i from))
    (cases_lt i places)

agree_word : (m v a : ℕ) → Agree m v a → Agree (m % 2 ^ 32) (v % 2 ^ 32) (a % 2 ^ 32)
agree_word m v a h i none = ⊎_elim
    (λ inside. bit_low 32 v i inside ∙ h i (sym (bit_low 32 m i inside) ∙ none) ∙ sym (bit_low 32 a i inside))
    (λ above. bit_at_above (v % 2 ^ 32) 32 i (omega arith) above ∙ sym (bit_at_above (a % 2 ^ 32) 32 i (omega arith) above))
    (cases_lt i 32)

pub agree_left :
    (places m v a : ℕ) → Agree m v a → Agree (m * 2 ^ places % 2 ^ 32) (v * 2 ^ places % 2 ^ 32) (a * 2 ^ places % 2 ^ 32)
agree_left places m v a h = agree_word (m * 2 ^ places) (v * 2 ^ places) (a * 2 ^ places) (agree_left_whole m v a places h)

-- ---- to the right

pub right_bit : (word places i : ℕ) → bit_at (word / 2 ^ places) i ≡ bit_at word (places + i)
right_bit word places i = ap (λ x. x % 2) (shr-shr word places i)

pub agree_right : (places m v a : ℕ) → Agree m v a → Agree (m / 2 ^ places) (v / 2 ^ places) (a / 2 ^ places)
agree_right places m v a h i none =
    right_bit v places i ∙ h (places + i) (sym (right_bit m places i) ∙ none) ∙ sym (right_bit a places i)

-- ---- to the right, with the sign

sign_clear : (word places : ℕ) → word < 2147483648 → shifted_with_sign word places ≡ word / 2 ^ places
sign_clear word places low = grind arith

sign_set :
    (word places : ℕ) → 2147483648 ≤ word →
    shifted_with_sign word places ≡ flipped (flipped word / 2 ^ places)
sign_set word places high = grind arith

clear_bit :
    (word places i : ℕ) → word < 2147483648 →
    bit_at (word / 2 ^ places) i ≡ bit_at word (min (places + i) 31)
clear_bit word places i low = right_bit word places i ∙ ⊎_elim
    (λ below. ap (bit_at word) (omega arith))
    (λ from. bit_at_above word 31 (places + i) low from ∙ sym (bit_at_above word 31 (min (places + i) 31) low (omega arith)))
    (cases_lt (places + i) 31)

quotient_fits : (word places : ℕ) → word < 2 ^ 32 → word / 2 ^ places < 2 ^ 32
quotient_fits word places fits = omega (arith, div-le_self word (2 ^ places))

flipped_bit :
    (word places i : ℕ) → word < 2 ^ 32 → i < 32 →
    bit_at (flipped (flipped word / 2 ^ places)) i ≡ 1 - bit_at (flipped word) (places + i)
flipped_bit word places i fits inside =
    bit_flipped (flipped word / 2 ^ places) i (quotient_fits (flipped word) places (omega arith)) inside
    ∙ ap (λ x. 1 - x) (right_bit (flipped word) places i)

top_bit : (word : ℕ) → 2147483648 ≤ word → word < 2 ^ 32 → bit_at word 31 ≡ 1
top_bit word high fits = omega arith

set_bit :
    (word places i : ℕ) → 2147483648 ≤ word → word < 2 ^ 32 → i < 32 →
    bit_at (flipped (flipped word / 2 ^ places)) i ≡ bit_at word (min (places + i) 31)
set_bit word places i high fits inside = flipped_bit word places i fits inside ∙ ⊎_elim
    (λ below.
    let turned : bit_at (flipped word) (places + i) ≡ 1 - bit_at word (places + i) = bit_flipped word (places + i) fits below in
    let back : 1 - bit_at (flipped word) (places + i) ≡ bit_at word (places + i) =
    ap (λ x. 1 - x) turned ∙ twice (bit_at word (places + i)) (bit_at-lt word (places + i)) in
    back ∙ ap (bit_at word) (omega arith))
    (λ from.
    let gone : bit_at (flipped word) (places + i) ≡ 0 = bit_at_above (flipped word) 32 (places + i) (omega arith) from in
    let last : min (places + i) 31 ≡ 31 = omega arith in
    ap (λ x. 1 - x) gone ∙ sym (ap (bit_at word) last ∙ top_bit word high fits))
    (cases_lt (places + i) 32)
  where
    twice : (b : ℕ) → b < 2 → 1 - (1 - b) ≡ b
    twice b below = omega arith

pub sign_bit :
    (word places i : ℕ) → word < 2 ^ 32 → i < 32 →
    bit_at (shifted_with_sign word places) i ≡ bit_at word (min (places + i) 31)
sign_bit word places i fits inside = ⊎_elim
    (λ low. ap (λ x. bit_at x i) (sign_clear word places low) ∙ clear_bit word places i low)
    (λ high. ap (λ x. bit_at x i) (sign_set word places high) ∙ set_bit word places i high fits inside)
    (cases_lt word 2147483648)

sign_fits : (word places : ℕ) → word < 2 ^ 32 → shifted_with_sign word places < 2 ^ 32
sign_fits word places fits = ⊎_elim
    (λ low. omega (arith, sign_clear word places low, quotient_fits word places fits))
    (λ high. omega (arith, sign_set word places high))
    (cases_lt word 2147483648)

pub agree_sign :
    (places m v a : ℕ) → m < 2 ^ 32 → v < 2 ^ 32 → a < 2 ^ 32 → Agree m v a →
    Agree (shifted_with_sign m places) (shifted_with_sign v places) (shifted_with_sign a places)
agree_sign places m v a fm fv fa h i none = ⊎_elim
    (λ inside.
    sign_bit v places i fv inside ∙ h (min (places + i) 31) (sym (sign_bit m places i fm inside) ∙ none)
    ∙ sym (sign_bit a places i fa inside))
    (λ above.
    bit_at_above (shifted_with_sign v places) 32 i (sign_fits v places fv) above
    ∙ sym (bit_at_above (shifted_with_sign a places) 32 i (sign_fits a places fa) above))
    (cases_lt i 32)

-- ---- where the number of places is known or not

shift_by :
    (low mask x y : ℕ) → (low ≡ 0 → Agree mask x y) → x < 2 ^ 32 → y < 2 ^ 32 →
    Agree (if low == 0 then mask else 4294967295) x y
shift_by zero mask x y known p q = known refl
shift_by (suc low) mask x y known p q =
    let all : (if suc low == 0 then mask else 4294967295) ≡ 4294967295 = grind arith in
    subst (λ z. Agree z x y) (sym all) (agree_all x y p q)

pub by_places :
    (f : ℕ → ℕ → ℕ) (m n v w a b : ℕ) →
    ((places : ℕ) → Agree (f m places) (f v places) (f a places)) →
    ((word places : ℕ) → word < 2 ^ 32 → f word places < 2 ^ 32) →
    v < 2 ^ 32 → a < 2 ^ 32 → Agree n w b →
    Agree (if n % 32 == 0 then f m (w % 32) else 4294967295) (f v (w % 32)) (f a (b % 32))
by_places f m n v w a b agree fits fv fa k =
    shift_by (n % 32) (f m (w % 32)) (f v (w % 32)) (f a (b % 32))
    (λ none.
    let same : w % 32 ≡ b % 32 = same_low 5 n w b k none in
    subst (λ p. Agree (f m (w % 32)) (f v (w % 32)) (f a p)) same (agree (w % 32)))
    (fits v (w % 32) fv)
    (fits a (b % 32) fa)

pub left_fits : (word places : ℕ) → word < 2 ^ 32 → word * 2 ^ places % 2 ^ 32 < 2 ^ 32
left_fits word places fits = omega arith

pub right_fits : (word places : ℕ) → word < 2 ^ 32 → word / 2 ^ places < 2 ^ 32
right_fits = quotient_fits

pub signed_fits : (word places : ℕ) → word < 2 ^ 32 → shifted_with_sign word places < 2 ^ 32
signed_fits = sign_fits
