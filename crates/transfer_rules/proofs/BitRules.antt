-- The rules that go bit by bit: AND, OR and XOR.
use Rattle.std.proofs.Common.{◌≡◌, ℕ, zero, suc, ◌+◌, ◌-◌, ◌%◌, ◌^◌, ◌<◌, ◌≤◌, min, max, refl, sym, ap, ap₂, ◌∙◌}
use Rattle.std.proofs.Common.{⊎_elim, arith, w32}
use Rattle.std.specs.Prelude.{bit_and, bit_or, bit_xor}
use Rattle.std.specs.Int.{bit_at}
use Rattle.std.proofs.lemmas.Bool.{cases_lt}
use Rattle.std.specs.Int.Bits.{and_self, and_zero_r}
use Rattle.std.proofs.lemmas.Nat.{and-not, and_comm}
use Rattle.std.proofs.lemmas.Nat.Bits.{bit_at_and, bit_at_or, bit_at_xor, bit_at_above, bit_at_not, bit_at-lt}
use Rattle.flow_base.specs.Words.{Agree}
use Rattle.transfer_rules.specs.Table1.{flipped}

-- one bit: masks p and q, operands x and y, other operands a and b
and_bit :
    (p q x y a b : ℕ) → (p ≡ 0 → x ≡ a) → (q ≡ 0 → y ≡ b) → min (min (max p q) (max p x)) (max q y) ≡ 0 →
    min x y ≡ min a b
and_bit zero zero x y a b h k none = ap₂ min (h refl) (k refl)
and_bit zero (suc q) x y a b h k none = let e : x ≡ a = h refl in omega arith
and_bit (suc p) zero x y a b h k none = let e : y ≡ b = k refl in omega arith
and_bit (suc p) (suc q) x y a b h k none = absurd (omega (arith, none))

or_bit :
    (p q x y a b : ℕ) → x < 2 → y < 2 → a < 2 → b < 2 → (p ≡ 0 → x ≡ a) → (q ≡ 0 → y ≡ b) →
    min (min (max p q) (max p (1 - x))) (max q (1 - y)) ≡ 0 → max x y ≡ max a b
or_bit zero zero x y a b lx ly la lb h k none = ap₂ max (h refl) (k refl)
or_bit zero (suc q) x y a b lx ly la lb h k none = let e : x ≡ a = h refl in omega arith
or_bit (suc p) zero x y a b lx ly la lb h k none = let e : y ≡ b = k refl in omega arith
or_bit (suc p) (suc q) x y a b lx ly la lb h k none = absurd (omega (arith, none))

pub agree_and :
    (m n v w a b : ℕ) → Agree m v a → Agree n w b →
    Agree (bit_and (bit_and (bit_or m n) (bit_or m v)) (bit_or n w)) (bit_and v w) (bit_and a b)
agree_and m n v w a b h k i none =
    let outer : bit_at (bit_and (bit_and (bit_or m n) (bit_or m v)) (bit_or n w)) i
    ≡ min (min (max (bit_at m i) (bit_at n i)) (max (bit_at m i) (bit_at v i))) (max (bit_at n i) (bit_at w i)) =
    bit_at_and (bit_and (bit_or m n) (bit_or m v)) (bit_or n w) i
    ∙ ap₂ min (bit_at_and (bit_or m n) (bit_or m v) i ∙ ap₂ min (bit_at_or m n i) (bit_at_or m v i)) (bit_at_or n w i) in
    bit_at_and v w i
    ∙ and_bit (bit_at m i) (bit_at n i) (bit_at v i) (bit_at w i) (bit_at a i) (bit_at b i) (h i) (k i) (sym outer ∙ none)
    ∙ sym (bit_at_and a b i)

pub bit_flipped : (v i : ℕ) → v < 2 ^ 32 → i < 32 → bit_at (flipped v) i ≡ 1 - bit_at v i
bit_flipped v i fits inside = bit_at_not w32 v i fits inside

or_above : (v w i : ℕ) → v < 2 ^ 32 → w < 2 ^ 32 → 32 ≤ i → bit_at (bit_or v w) i ≡ 0
or_above v w i p q above = bit_at_or v w i ∙ ap₂ max (bit_at_above v 32 i p above) (bit_at_above w 32 i q above)

pub agree_or :
    (m n v w a b : ℕ) → v < 2 ^ 32 → w < 2 ^ 32 → a < 2 ^ 32 → b < 2 ^ 32 → Agree m v a → Agree n w b →
    Agree (bit_and (bit_and (bit_or m n) (bit_or m (flipped v))) (bit_or n (flipped w))) (bit_or v w) (bit_or a b)
agree_or m n v w a b fv fw fa fb h k i none = ⊎_elim
    (λ inside.
    let outer : bit_at (bit_and (bit_and (bit_or m n) (bit_or m (flipped v))) (bit_or n (flipped w))) i
    ≡ min (min (max (bit_at m i) (bit_at n i)) (max (bit_at m i) (1 - bit_at v i))) (max (bit_at n i) (1 - bit_at w i)) =
    bit_at_and (bit_and (bit_or m n) (bit_or m (flipped v))) (bit_or n (flipped w)) i
    ∙ ap₂ min
    (bit_at_and (bit_or m n) (bit_or m (flipped v)) i
    ∙ ap₂ min (bit_at_or m n i) (bit_at_or m (flipped v) i ∙ ap (max (bit_at m i)) (bit_flipped v i fv inside)))
    (bit_at_or n (flipped w) i ∙ ap (max (bit_at n i)) (bit_flipped w i fw inside)) in
    bit_at_or v w i
    ∙ or_bit (bit_at m i) (bit_at n i) (bit_at v i) (bit_at w i) (bit_at a i) (bit_at b i)
    (bit_at-lt v i) (bit_at-lt w i) (bit_at-lt a i) (bit_at-lt b i) (h i) (k i) (sym outer ∙ none)
    ∙ sym (bit_at_or a b i))
    (λ above. or_above v w i fv fw above ∙ sym (or_above a b i fa fb above))
    (cases_lt i 32)

pub agree_xor : (m n v w a b : ℕ) → Agree m v a → Agree n w b → Agree (bit_or m n) (bit_xor v w) (bit_xor a b)
agree_xor m n v w a b h k i none =
    let either : max (bit_at m i) (bit_at n i) ≡ 0 = sym (bit_at_or m n i) ∙ none in
    let first : bit_at v i ≡ bit_at a i = h i (omega arith) in
    let second : bit_at w i ≡ bit_at b i = k i (omega arith) in
    bit_at_xor v w i ∙ ap₂ (λ x y. (x + y) % 2) first second ∙ sym (bit_at_xor a b i)

-- no bit of a mask is outside of it
pub none_outside : (mask : ℕ) → bit_and mask (flipped mask) ≡ 0
none_outside mask = ⊎_elim
    (λ word.
    let apart : bit_and (flipped mask) mask + bit_and mask mask ≡ mask = and-not 32 mask mask word word in
    omega (arith, apart, and_self mask, and_comm mask (flipped mask)))
    (λ large. ap (bit_and mask) (omega arith) ∙ and_zero_r mask)
    (cases_lt mask (2 ^ 32))
