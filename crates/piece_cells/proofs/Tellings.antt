-- What bits that are told say of a word.
use Rattle.std.proofs.Common.{◌≡◌, ◌≢◌, ℕ, zero, suc, ◌+◌, ◌-◌, ◌*◌, ◌/◌, ◌%◌, ◌^◌, ◌<◌, ◌≤◌, max, min, Bool, true, false}
use Rattle.std.proofs.Common.{refl, sym, ap, ap₂, subst, ◌∙◌, ⊎_elim, arith, int_lt, nat_le, nat_lt, w32, cond}
use Rattle.std.specs.Prelude.{bit_and, bit_or, bit_xor}
use Rattle.std.specs.Int.{bit_at, leading_zeros, trailing_zeros}
use Rattle.std.proofs.Math.Nat.{div-le_self}
use Rattle.std.proofs.lemmas.Bool.{cases_eq, cases_lt}
use Rattle.std.proofs.lemmas.Int.{ints}
use Rattle.std.proofs.lemmas.Nat.{leading_length, one_shl}
use Rattle.std.proofs.lemmas.Nat.Bits.{bit_at_and, bit_at_or, bit_at_xor, bit_at_above, bit_at_ones, bit_at-lt, bit_at-zero}
use Rattle.std.proofs.lemmas.Nat.Bits.{bit_at-pow_other, bit_at-trailing_zeros, ones_shr, same_from_bits}
use Rattle.flow_base.specs.Words.{Agree}
use Rattle.rv32im_decode.specs.Operations.{signed}
use Rattle.transfer_rules.specs.Table1.{flipped}
use Rattle.transfer_rules.specs.Table2.{least}
use Rattle.transfer_rules.proofs.BitRules.{bit_flipped}
use Rattle.transfer_rules.proofs.Bounds.{bit_least}
use Rattle.piece_cells.specs.Telling.{AgreesUnder, IsOneBit}

-- ---- bits that are told

one_told : (m u v k x : ℕ) → m < 2 → u < 2 → v < 2 → k < 2 → (m ≡ 0 → v ≡ x) → (u ≡ 1 → k ≡ x) → min m (1 - u) ≡ 0 →
    max (min v (1 - u)) (min k u) ≡ x
one_told m zero v k x fm fu fv fk known under none = let e : v ≡ x = known (omega arith) in omega arith
one_told m (suc zero) v k x fm fu fv fk known under none = let e : k ≡ x = under refl in omega arith
one_told m (suc (suc u)) v k x fm fu fv fk known under none = absurd (omega arith)

pub told_agrees :
    (m u v k x : ℕ) → m < 2 ^ 32 → u < 2 ^ 32 → v < 2 ^ 32 → k < 2 ^ 32 → Agree m v x → AgreesUnder u k x →
    Agree (least m u) (bit_or (least v u) (bit_and k u)) x
told_agrees m u v k x fm fu fv fk h told i none =
    bit_at_or (least v u) (bit_and k u) i
    ∙ ap₂ max (bit_least v u i fv fu) (bit_at_and k u i)
    ∙ one_told (bit_at m i) (bit_at u i) (bit_at v i) (bit_at k i) (bit_at x i)
    (bit_at-lt m i) (bit_at-lt u i) (bit_at-lt v i) (bit_at-lt k i) (h i) (told i)
    (sym (bit_least m u i fm fu) ∙ none)

one_contradicts : (m u v k x : ℕ) → u < 2 → (m ≡ 0 → v ≡ x) → (u ≡ 1 → k ≡ x) → min (min ((v + k) % 2) u) (1 - m) ≡ 0
one_contradicts (suc m) u v k x fu known under = omega arith
one_contradicts zero zero v k x fu known under = omega arith
one_contradicts zero (suc zero) v k x fu known under =
    let e : v ≡ x = known refl in let e' : k ≡ x = under refl in omega arith
one_contradicts zero (suc (suc u)) v k x fu known under = absurd (omega arith)

-- no known bit of a word is otherwise than what is told of it
pub none_contradicts :
    (m u v k x : ℕ) → m < 2 ^ 32 → u < 2 ^ 32 → Agree m v x → AgreesUnder u k x →
    bit_and (bit_and (bit_xor v k) u) (flipped m) ≡ 0
none_contradicts m u v k x fm fu h told = same_from_bits (bit_and (bit_and (bit_xor v k) u) (flipped m)) 0 (λ i. ⊎_elim
    (λ inside.
    bit_at_and (bit_and (bit_xor v k) u) (flipped m) i
    ∙ ap₂ min (bit_at_and (bit_xor v k) u i ∙ ap (λ b. min b (bit_at u i)) (bit_at_xor v k i)) (bit_flipped m i fm inside)
    ∙ one_contradicts (bit_at m i) (bit_at u i) (bit_at v i) (bit_at k i) (bit_at x i) (bit_at-lt u i) (h i) (told i)
    ∙ sym (bit_at-zero i))
    (λ high.
    bit_at_and (bit_and (bit_xor v k) u) (flipped m) i
    ∙ ap (λ b. min b (bit_at (flipped m) i)) (bit_at_and (bit_xor v k) u i)
    ∙ no_bit (bit_at (bit_xor v k) i) (bit_at u i) (bit_at (flipped m) i) (bit_at_above u 32 i fu high)
    ∙ sym (bit_at-zero i))
    (cases_lt i 32))
  where
    no_bit : (a b c : ℕ) → b ≡ 0 → min (min a b) c ≡ 0
    no_bit a b c e = omega arith

-- ---- words up to a limit

pub above_zero : (most word : ℕ) → most < 2 ^ 32 → leading_zeros w32 most ≡ 32 → word ≤ most → (mask : ℕ) → AgreesUnder mask 0 word
above_zero most word fits zeros within mask i one =
    let long = leading_length 32 most fits in
    let none : long.0 ≡ 0 = omega (arith, long.1, zeros) in
    let short : most < 2 ^ 0 = subst (λ m. most < 2 ^ m) none long.2 in
    ap (λ n. bit_at n i) (sym (omega (arith, short, within)))

pub above_limit : (most word : ℕ) → most < 2 ^ 32 → word ≤ most →
    AgreesUnder (flipped (4294967295 / 2 ^ leading_zeros w32 most)) 0 word
above_limit most word fits within i one =
    let long = leading_length 32 most fits in
    let z = leading_zeros w32 most in
    let inside : z ≤ 32 = omega (arith, long.1) in
    let rest : 32 - z ≡ long.0 = omega (arith, long.1) in
    let ones : 4294967295 / 2 ^ z ≡ 2 ^ long.0 - 1 = ones_shr 32 z inside ∙ ap (λ k. 2 ^ k - 1) rest in
    let mask : bit_at (flipped (2 ^ long.0 - 1)) i ≡ 1 = ap (λ n. bit_at (flipped n) i) (sym ones) ∙ one in
    ⊎_elim
    (λ low.
    let under : 2 ^ long.0 - 1 < 2 ^ 32 = subst (λ n. n < 2 ^ 32) ones (omega (arith, shorter (2 ^ z))) in
    let known : bit_at (flipped (2 ^ long.0 - 1)) i ≡ 1 - bit_at (2 ^ long.0 - 1) i =
    bit_flipped (2 ^ long.0 - 1) i under (omega (arith, long.1, low)) in
    absurd (omega (arith, known, mask, bit_at_ones long.0 i low)))
    (λ high. bit_at-zero i ∙ sym (bit_at_above word long.0 i (omega (arith, long.2, within)) high))
    (cases_lt i long.0)
  where
    shorter : (k : ℕ) → 4294967295 / k ≤ 4294967295
    shorter k = div-le_self 4294967295 k

-- ---- signs

pub sign_told : (word : ℕ) (negative : Bool) → word < 2 ^ 32 → nat_le 2147483648 word ≡ negative →
    AgreesUnder 2147483648 (cond negative 2147483648 0) word
sign_told word negative fits is i one = ⊎_elim
    (λ (here : i ≡ 31). at_sign negative is i here)
    (λ (there : i ≢ 31). absurd (omega (arith, one, bit_at-pow_other 31 i there)))
    (cases_eq i 31)
  where
    at_sign : (negative : Bool) → nat_le 2147483648 word ≡ negative → (i : ℕ) → i ≡ 31 →
        bit_at (cond negative 2147483648 0) i ≡ bit_at word i
    at_sign true is i here = subst (λ j. bit_at 2147483648 j ≡ bit_at word j) (sym here) (high (grind (arith, is)))
      where
        high : 2147483648 ≤ word → bit_at 2147483648 31 ≡ bit_at word 31
        high le = omega (arith, le, fits)
    at_sign false is i here = subst (λ j. bit_at 0 j ≡ bit_at word j) (sym here) (low (grind (arith, is)))
      where
        low : word < 2147483648 → bit_at 0 31 ≡ bit_at word 31
        low lt = omega (arith, lt)

pub low_signed : (x y : ℕ) → x < 2147483648 → y < 2147483648 → int_lt (signed x) (signed y) ≡ nat_lt x y
low_signed x y p q = grind (arith, ints, p, q)

pub below_zero : (x : ℕ) → x < 2 ^ 32 → int_lt (signed x) (signed 0) ≡ nat_le 2147483648 x
below_zero x p = grind (arith, ints, p)

pub above_none : (x : ℕ) → x < 2 ^ 32 → int_lt (signed 0) (signed x) ≡ true → nat_le 2147483648 x ≡ false
above_none x p is = grind (arith, ints, p, is)

-- ---- words that are the same, or are not

-- what has bits agrees with their values under what is known
pub under_known : (m v x : ℕ) → m < 2 ^ 32 → Agree m v x → AgreesUnder (flipped m) v x
under_known m v x fm h i one = ⊎_elim
    (λ inside. h i (omega (arith, one, bit_flipped m i fm inside, bit_at-lt m i)))
    (λ high. absurd (omega (arith, one, bit_at_above (flipped m) 32 i (omega arith) high)))
    (cases_lt i 32)

pub one_bit : (mask : ℕ) → mask < 2 ^ 32 → 0 < mask → mask ≡ 1 * 2 ^ trailing_zeros w32 mask % 2 ^ 32 → IsOneBit mask
one_bit mask fits some is i j first second =
    let place = trailing_zeros w32 mask in
    let inside : place < 32 = (bit_at-trailing_zeros w32 mask some fits).0 in
    let power : mask ≡ 2 ^ place = is ∙ one_shl place 32 inside in
    only place power i first ∙ sym (only place power j second)
  where
    only : (place : ℕ) → mask ≡ 2 ^ place → (k : ℕ) → bit_at mask k ≡ 1 → k ≡ place
    only place power k one = ⊎_elim
        (λ same. same)
        (λ other. absurd (omega (arith, one, ap (λ n. bit_at n k) power, bit_at-pow_other place k other)))
        (cases_eq k place)

one_known : (m v w x : ℕ) → v < 2 → w < 2 → m ≡ 0 → v ≡ x → min ((v + w) % 2) (1 - m) ≡ 0 → x ≡ w
one_known m zero zero x fv fw e same none = omega arith
one_known m zero (suc zero) x fv fw e same none = absurd (omega arith)
one_known m (suc zero) zero x fv fw e same none = absurd (omega arith)
one_known m (suc zero) (suc zero) x fv fw e same none = omega arith
one_known m (suc (suc v)) w x fv fw e same none = absurd (omega arith)
one_known m zero (suc (suc w)) x fv fw e same none = absurd (omega arith)
one_known m (suc zero) (suc (suc w)) x fv fw e same none = absurd (omega arith)

-- a word that is as another but for one bit, and is another, has the other value of that bit
pub other_bit :
    (m v w x : ℕ) → m < 2 ^ 32 → v < 2 ^ 32 → w < 2 ^ 32 → x < 2 ^ 32 → Agree m v x → IsOneBit m →
    bit_and (bit_xor v w) (flipped m) ≡ 0 → x ≢ w → AgreesUnder m (flipped w) x
other_bit m v w x fm fv fw fx h single known differs i one = ⊎_elim
    (λ (same : bit_at x i ≡ bit_at w i). absurd (differs (same_from_bits x w (each same))))
    (λ (other : bit_at x i ≢ bit_at w i). ⊎_elim
    (λ inside. bit_flipped w i fw inside ∙ turned (bit_at w i) (bit_at x i) (bit_at-lt w i) (bit_at-lt x i) other)
    (λ high. absurd (omega (arith, one, bit_at_above m 32 i fm high)))
    (cases_lt i 32))
    (cases_eq (bit_at x i) (bit_at w i))
  where
    turned : (a b : ℕ) → a < 2 → b < 2 → b ≢ a → 1 - a ≡ b
    turned a b p q differ = omega arith

    outside : (j : ℕ) → bit_at m j ≡ 0 → bit_at x j ≡ bit_at w j
    outside j none = ⊎_elim
        (λ inside.
        one_known (bit_at m j) (bit_at v j) (bit_at w j) (bit_at x j) (bit_at-lt v j) (bit_at-lt w j) none (h j none)
        (sym (bit_at_and (bit_xor v w) (flipped m) j
        ∙ ap₂ min (bit_at_xor v w j) (bit_flipped m j fm inside))
        ∙ ap (λ n. bit_at n j) known ∙ bit_at-zero j))
        (λ high. bit_at_above x 32 j fx high ∙ sym (bit_at_above w 32 j fw high))
        (cases_lt j 32)

    each : bit_at x i ≡ bit_at w i → (j : ℕ) → bit_at x j ≡ bit_at w j
    each same j = ⊎_elim
        (λ (none : bit_at m j ≡ 0). outside j none)
        (λ (some : bit_at m j ≢ 0).
        let e : i ≡ j = single i j one (omega (arith, bit_at-lt m j)) in subst (λ k. bit_at x k ≡ bit_at w k) e same)
        (cases_eq (bit_at m j) 0)
