-- Comparisons by the least and the greatest words, and tests for equality by the bits that are known.
use Rattle.std.proofs.Common.{◌≡◌, ℕ, zero, suc, ◌+◌, ◌-◌, ◌/◌, ◌%◌, ◌^◌, ◌<◌, ◌≤◌, Bool, true, false, ◌||◌, ◌==◌, not}
use Rattle.std.proofs.Common.{nat_lt, nat_le, int_lt, min, max, refl, sym, ap, ap₂, ◌∙◌, ⊎_elim, subst, arith}
use Rattle.std.specs.Prelude.{bit_and, bit_or, bit_xor, if◌then◌else◌}
use Rattle.std.specs.Int.{bit_at}
use Rattle.std.proofs.lemmas.Bool.{cases_lt}
use Rattle.std.specs.Int.Bits.{xor_zero_r}
use Rattle.std.proofs.lemmas.Nat.{le_or_l, le_or_r, or_lt, xor_mod, xor_shr}
use Rattle.std.proofs.lemmas.Int.{ints}
use Rattle.std.proofs.lemmas.Nat.Bits.{bit_at-zero, bit_at_and, bit_at_or, bit_at_xor, bit_at_above, same_from_bits}
use Rattle.flow_base.specs.Words.{Agree}
use Rattle.rv32im_decode.specs.Operations.{signed}
use Rattle.transfer_rules.specs.Table1.{flipped}
use Rattle.transfer_rules.specs.Table2.{least, greatest}
use Rattle.transfer_rules.proofs.Agreement.{agree_one, agree_same, same_where_none}
use Rattle.transfer_rules.proofs.BitRules.{bit_flipped}
use Rattle.transfer_rules.proofs.Bounds.{in_order}

pub agree_unless : (known : Bool) (x y : ℕ) → (known ≡ true → x ≡ y) → x < 2 → y < 2 → Agree (if known then 0 else 1) x y
agree_unless true x y same p q = agree_same 0 x y (same refl)
agree_unless false x y same p q = agree_one x y p q

same_order :
    (low high low' high' x y a b : ℕ) → low ≤ x → x ≤ high → low ≤ a → a ≤ high → low' ≤ y → y ≤ high' → low' ≤ b →
    b ≤ high' → (nat_lt high low' || nat_le high' low) ≡ true → nat_lt x y ≡ nat_lt a b
same_order low high low' high' x y a b lx hx la ha ly hy lb hb known = grind (arith, lx, hx, la, ha, ly, hy, lb, hb, known)

-- where the order is known, words that agree with the operands outside their masks are ordered as these
pub order_known :
    (m n v w a b : ℕ) → v < 2 ^ 32 → w < 2 ^ 32 → m < 2 ^ 32 → n < 2 ^ 32 → Agree m v a → Agree n w b →
    (nat_lt (greatest v m) (least w n) || nat_le (greatest w n) (least v m)) ≡ true → nat_lt v w ≡ nat_lt a b
order_known m n v w a b fv fw fm fn h k known =
    let first = in_order m v v fv fm (λ i none. refl) in
    let first' = in_order m v a fv fm h in
    let second = in_order n w w fw fn (λ i none. refl) in
    let second' = in_order n w b fw fn k in
    same_order (least v m) (greatest v m) (least w n) (greatest w n) v w a b first.0 first.1 first'.0 first'.1
    second.0 second.1 second'.0 second'.1 known

-- ---- signed words

pub agree_turned : (m v a s : ℕ) → Agree m v a → Agree m (bit_xor v s) (bit_xor a s)
agree_turned m v a s h i none = bit_at_xor v s i ∙ ap (λ x. (x + bit_at s i) % 2) (h i none) ∙ sym (bit_at_xor a s i)

turned_high : (x h : ℕ) → x / 2 ^ 31 ≡ h → bit_xor x 2147483648 / 2 ^ 31 ≡ bit_xor h 1
turned_high x h e = xor_shr x 2147483648 31 ∙ ap (λ q. bit_xor q 1) e

turned_low : (x : ℕ) → bit_xor x 2147483648 % 2 ^ 31 ≡ x % 2 ^ 31
turned_low x = xor_mod x 2147483648 31 ∙ xor_zero_r (x % 2 ^ 31)

-- to turn the top bit is to add it
turned_sign : (x : ℕ) → x < 2 ^ 32 → bit_xor x 2147483648 ≡ (x + 2147483648) % 2 ^ 32
turned_sign x fits = ⊎_elim
    (λ low. omega (arith, turned_high x 0 (omega arith), turned_low x))
    (λ high. omega (arith, turned_high x 1 (omega arith), turned_low x))
    (cases_lt x 2147483648)

pub signed_order :
    (x y : ℕ) → x < 2 ^ 32 → y < 2 ^ 32 →
    int_lt (signed x) (signed y) ≡ nat_lt (bit_xor x 2147483648) (bit_xor y 2147483648)
signed_order x y p q = rw (turned_sign x p, turned_sign y q) (plain x y p q)
  where
    plain : (x y : ℕ) → x < 2 ^ 32 → y < 2 ^ 32 →
        int_lt (signed x) (signed y) ≡ nat_lt ((x + 2147483648) % 2 ^ 32) ((y + 2147483648) % 2 ^ 32)
    plain x y p q = grind (arith, ints, p, q)

-- ---- equality

one_equal :
    (p q x y a b : ℕ) → (p ≡ 0 → x ≡ a) → (q ≡ 0 → y ≡ b) → a ≡ b → min ((x + y) % 2) (1 - max p q) ≡ 0
one_equal zero zero x y a b h k e = let e' : x ≡ a = h refl in let e'' : y ≡ b = k refl in omega arith
one_equal zero (suc q) x y a b h k e = omega arith
one_equal (suc p) q x y a b h k e = omega arith

-- where two words that agree with the operands are equal, no known bit of the operands differs
none_differs :
    (m n v w a b : ℕ) → m < 2 ^ 32 → n < 2 ^ 32 → v < 2 ^ 32 → w < 2 ^ 32 → bit_or m n < 2 ^ 32 → Agree m v a →
    Agree n w b → a ≡ b → bit_and (bit_xor v w) (flipped (bit_or m n)) ≡ 0
none_differs m n v w a b fm fn fv fw ft h k e =
    same_from_bits (bit_and (bit_xor v w) (flipped (bit_or m n))) 0 (λ i. ⊎_elim
    (λ inside.
    bit_at_and (bit_xor v w) (flipped (bit_or m n)) i
    ∙ ap₂ min (bit_at_xor v w i)
    (bit_flipped (bit_or m n) i ft inside ∙ ap (λ x. 1 - x) (bit_at_or m n i))
    ∙ one_equal (bit_at m i) (bit_at n i) (bit_at v i) (bit_at w i) (bit_at a i) (bit_at b i) (h i) (k i)
    (ap (λ x. bit_at x i) e)
    ∙ sym (bit_at-zero i))
    (λ above.
    bit_at_and (bit_xor v w) (flipped (bit_or m n)) i
    ∙ first_none (bit_at (bit_xor v w) i) (bit_at (flipped (bit_or m n)) i)
    (bit_at_xor v w i ∙ both_none (bit_at v i) (bit_at w i) (bit_at_above v 32 i fv above) (bit_at_above w 32 i fw above))
    ∙ sym (bit_at-zero i))
    (cases_lt i 32))
  where
    first_none : (x y : ℕ) → x ≡ 0 → min x y ≡ 0
    first_none x y e = omega arith

    both_none : (x y : ℕ) → x ≡ 0 → y ≡ 0 → (x + y) % 2 ≡ 0
    both_none x y e e' = omega arith

same_test :
    (t z v w a b : ℕ) → (t ≡ 0 → v ≡ a) → (t ≡ 0 → w ≡ b) → (v ≡ w → z ≡ 0) → (a ≡ b → z ≡ 0) →
    ((t == 0) || not (z == 0)) ≡ true → (v == w) ≡ (a == b)
same_test zero z v w a b h k p q known = ap₂ (λ x y. x == y) (h refl) (k refl)
same_test (suc t) zero v w a b h k p q known = absurd (grind (arith, known))
same_test (suc t) (suc z) v w a b h k p q known = differ v w p ∙ sym (differ a b q)
  where
    differ : (x y : ℕ) → (x ≡ y → suc z ≡ 0) → (x == y) ≡ false
    differ x y h = grind (arith, h)

pub equality_known :
    (m n v w a b : ℕ) → m < 2 ^ 32 → n < 2 ^ 32 → v < 2 ^ 32 → w < 2 ^ 32 → Agree m v a → Agree n w b →
    ((bit_or m n == 0) || not (bit_and (bit_xor v w) (flipped (bit_or m n)) == 0)) ≡ true → (v == w) ≡ (a == b)
equality_known m n v w a b fm fn fv fw h k known =
    let ft : bit_or m n < 2 ^ 32 = or_lt 32 m n fm fn in
    same_test (bit_or m n) (bit_and (bit_xor v w) (flipped (bit_or m n))) v w a b
    (λ e. same_where_none v a (subst (λ x. Agree x v a) (no_left m n e) h))
    (λ e. same_where_none w b (subst (λ x. Agree x w b) (no_right m n e) k))
    (none_differs m n v w v w fm fn fv fw ft (λ i none. refl) (λ i none. refl))
    (none_differs m n v w a b fm fn fv fw ft h k)
    known
  where
    no_left : (m n : ℕ) → bit_or m n ≡ 0 → m ≡ 0
    no_left m n e = omega (arith, e, le_or_l m n)

    no_right : (m n : ℕ) → bit_or m n ≡ 0 → n ≡ 0
    no_right m n e = omega (arith, e, le_or_r m n)
