-- What the law of one passing needs of values that agree outside a mask.
use Rattle.std.proofs.Common.{◌≡◌, ℕ, zero, suc, ◌+◌, ◌*◌, ◌/◌, ◌%◌, ◌^◌, ◌-◌, ◌<◌, ◌≤◌, ◌⊎◌, inl, inr, ⊎_elim, min}
use Rattle.std.proofs.Common.{Bool, List, refl, sym, ap, ap₂, subst, ◌∙◌, arith, shr-shr}
use Rattle.std.proofs.Common.{div-add-mod', mod-lt, pow_pos}
use Rattle.std.specs.Prelude.{◌==◌, bit_and}
use Rattle.std.specs.Int.{bit_at}
use Rattle.std.proofs.lemmas.Bool.{cases_lt}
use Rattle.std.proofs.lemmas.Nat.Bits.{bit_at_lowest, bit_at-suc, bit_at-zero, bit_at-lt, bit_at_and, same_from_bits}
use Rattle.std.proofs.lemmas.Nat.Bits.{bit_at_above, bit_at_cat_low, bit_at_cat_high, bit_at_ones, bit_at_ones_above}
use Rattle.flow_base.specs.Words.{Agree, bits_below, bits_under, patched_below, patched, first_bit, later_bits}
use Rattle.flow_base.specs.Words.{number_of_bit}
use Rattle.crossing_bits.proofs.Places.{parity, put_back, patched_bound}
use Rattle.transfer_rules.specs.Table1.{flipped}
use Rattle.transfer_rules.proofs.BitRules.{bit_flipped}
use Rattle.acceptance_law.specs.Covers.{IsMaskWithin}

pub agree_refl : (mask a : ℕ) → Agree mask a a
agree_refl mask a i clear = refl

pub agree_zero : (a b : ℕ) → Agree 0 a b → a ≡ b
agree_zero a b h = same_from_bits a b (λ i. h i (bit_at-zero i))

pub agree_more : (mask other a b : ℕ) → IsMaskWithin mask other → Agree mask a b → Agree other a b
agree_more mask other a b inside h i clear = h i (inside i clear)

-- ---- a value with the bits of another under a mask

number_of_parity : (n : ℕ) → number_of_bit (n % 2 == 1) ≡ n % 2
number_of_parity n = elim (parity n) [
  | inl e ↦ rw e refl
  | inr e ↦ rw e refl
]

patched_odd :
    (p y m r : ℕ) → m % 2 ≡ 1 →
    patched_below (suc p) y m (bits_below (suc p) r m)
    ≡ r % 2 + 2 * patched_below p (y / 2) (m / 2) (bits_below p (r / 2) (m / 2))
unfolding patched_below bits_below
patched_odd p y m r e =
    rw e (ap (λ b. b + 2 * patched_below p (y / 2) (m / 2) (bits_below p (r / 2) (m / 2))) (number_of_parity r))

patched_even :
    (p y m r : ℕ) → m % 2 ≡ 0 →
    patched_below (suc p) y m (bits_below (suc p) r m)
    ≡ y % 2 + 2 * patched_below p (y / 2) (m / 2) (bits_below p (r / 2) (m / 2))
unfolding patched_below bits_below
patched_even p y m r e = rw e refl

-- the lowest bit, and the others, of a number that is put together
bit_lowest : (n b x : ℕ) → n ≡ b % 2 + 2 * x → bit_at n 0 ≡ bit_at b 0
bit_lowest n b x e =
    let low : n % 2 ≡ b % 2 = omega (arith, e) in bit_at_lowest n ∙ low ∙ sym (bit_at_lowest b)

bit_later : (n b x i : ℕ) → n ≡ b % 2 + 2 * x → bit_at n (suc i) ≡ bit_at x i
bit_later n b x i e =
    let high : n / 2 ≡ x = omega (arith, e) in bit_at-suc n i ∙ ap (λ k. bit_at k i) high

-- each bit is that of the one value or of the other
bit_patched :
    (p y m r i : ℕ) → i < p →
    (bit_at (patched_below p y m (bits_below p r m)) i ≡ bit_at r i)
    ⊎ (bit_at (patched_below p y m (bits_below p r m)) i ≡ bit_at y i)
bit_patched zero y m r i h = absurd (omega arith)
bit_patched (suc p) y m r zero h = elim (parity m) [
  | inl e ↦ inr (bit_lowest _ y _ (patched_even p y m r e))
  | inr e ↦ inl (bit_lowest _ r _ (patched_odd p y m r e))
]
bit_patched (suc p) y m r (suc i) h =
    let below : i < p = omega arith in
    let later : bit_at (patched_below (suc p) y m (bits_below (suc p) r m)) (suc i)
    ≡ bit_at (patched_below p (y / 2) (m / 2) (bits_below p (r / 2) (m / 2))) i = elim (parity m) [
      | inl e ↦ bit_later _ y _ i (patched_even p y m r e)
      | inr e ↦ bit_later _ r _ i (patched_odd p y m r e)
    ] in
    ⊎_elim
    (λ same. inl (later ∙ same ∙ sym (bit_at-suc r i)))
    (λ same. inr (later ∙ same ∙ sym (bit_at-suc y i)))
    (bit_patched p (y / 2) (m / 2) (r / 2) i below)

-- at a place of the mask it is that of the one
patched_takes :
    (p y m r i : ℕ) → i < p → bit_at m i ≡ 1 → bit_at (patched_below p y m (bits_below p r m)) i ≡ bit_at r i
patched_takes zero y m r i h e = absurd (omega arith)
patched_takes (suc p) y m r zero h e = bit_lowest _ r _ (patched_odd p y m r (sym (bit_at_lowest m) ∙ e))
patched_takes (suc p) y m r (suc i) h e =
    let below : i < p = omega arith in
    let later : bit_at (patched_below (suc p) y m (bits_below (suc p) r m)) (suc i)
    ≡ bit_at (patched_below p (y / 2) (m / 2) (bits_below p (r / 2) (m / 2))) i = elim (parity m) [
      | inl none ↦ bit_later _ y _ i (patched_even p y m r none)
      | inr one ↦ bit_later _ r _ i (patched_odd p y m r one)
    ] in
    later ∙ patched_takes p (y / 2) (m / 2) (r / 2) i below (sym (bit_at-suc m i) ∙ e) ∙ sym (bit_at-suc r i)

-- a patch keeps that two values agree outside a mask
pub patched_agrees : (m c r y : ℕ) → r < 2 ^ 32 → Agree m r y → Agree m r (patched y c (bits_under r c))
patched_agrees m c r y fits agree i clear = ⊎_elim
    (λ below. ⊎_elim (λ e. sym e) (λ e. agree i clear ∙ sym e) (bit_patched 32 y c r i below))
    (λ above. bit_at_above r 32 i fits above
    ∙ sym (bit_at_above (patched y c (bits_under r c)) 32 i (patched_bound y c (bits_under r c)) above))
    (cases_lt i 32)

agree_half : (m a b : ℕ) → Agree m a b → Agree (m / 2) (a / 2) (b / 2)
agree_half m a b h i clear =
    sym (bit_at-suc a i) ∙ h (suc i) (bit_at-suc m i ∙ clear) ∙ bit_at-suc b i

-- where two values agree outside the mask of a patch, the patch makes the same of both
patched_alike :
    (p m a b : ℕ) (bits : List Bool) → Agree m a b → patched_below p a m bits ≡ patched_below p b m bits
unfolding patched_below
patched_alike zero m a b bits h = refl
patched_alike (suc p) m a b bits h = elim (parity m) [
  | inl e ↦
      let low : a % 2 ≡ b % 2 =
      sym (bit_at_lowest a) ∙ h 0 (bit_at_lowest m ∙ e) ∙ bit_at_lowest b in
      rw e (ap₂ (λ x y. x + 2 * y) low (patched_alike p (m / 2) (a / 2) (b / 2) bits (agree_half m a b h)))
  | inr e ↦
      rw e (ap (λ x. first_bit bits + 2 * x)
      (patched_alike p (m / 2) (a / 2) (b / 2) (later_bits bits) (agree_half m a b h)))
]

-- a patch under a mask with all bits of the one outside which two values agree makes them equal
pub patched_covers :
    (m c r y : ℕ) → r < 2 ^ 32 → IsMaskWithin m c → Agree m r y → r ≡ patched y c (bits_under r c)
patched_covers m c r y fits inside agree =
    sym (put_back r c fits) ∙ patched_alike 32 c r y (bits_under r c) (agree_more m c r y inside agree)

-- a patch under a mask leaves of the bits in which two values may differ those that the mask does not have
pub patched_uncrossed : (m c r y : ℕ) → r < 2 ^ 32 → c < 2 ^ 32 → Agree m r y →
    Agree (bit_and m (flipped c)) r (patched y c (bits_under r c))
patched_uncrossed m c r y fits small agree i clear = ⊎_elim
    (λ below. taken below (bit_at c i) refl (bit_at-lt c i))
    (λ above. bit_at_above r 32 i fits above
    ∙ sym (bit_at_above (patched y c (bits_under r c)) 32 i (patched_bound y c (bits_under r c)) above))
    (cases_lt i 32)
  where
    taken : i < 32 → (b : ℕ) → bit_at c i ≡ b → b < 2 → bit_at r i ≡ bit_at (patched y c (bits_under r c)) i
    taken below zero e small_bit =
        let turned : bit_at (flipped c) i ≡ 1 - bit_at c i = bit_flipped c i small below in
        let low = bit_at-lt m i in
        let none : min (bit_at m i) (bit_at (flipped c) i) ≡ 0 = sym (bit_at_and m (flipped c) i) ∙ clear in
        patched_agrees m c r y fits agree i (omega (arith, turned, e, low, none))
    taken below (suc zero) e small_bit = sym (patched_takes 32 y c r i below e)
    taken below (suc (suc b)) e small_bit = absurd (omega (arith, small_bit))

pub patched_same : (c r : ℕ) → r < 2 ^ 32 → r ≡ patched r c (bits_under r c)
patched_same c r fits = sym (put_back r c fits)

-- ---- values of a width

pub agree_width : (k mask a b : ℕ) → mask ≡ 2 ^ k - 1 → a < 2 ^ k → b < 2 ^ k → Agree mask a b
agree_width k mask a b all p q i clear = ⊎_elim
    (λ below.
    let one : bit_at mask i ≡ 1 = ap (λ x. bit_at x i) all ∙ bit_at_ones k i below in
    absurd (omega (arith, one, clear)))
    (λ above. bit_at_above a k i p above ∙ sym (bit_at_above b k i q above))
    (cases_lt i k)

-- ---- parts of words

bit_at_shr : (n k i : ℕ) → bit_at (n / 2 ^ k) i ≡ bit_at n (k + i)
bit_at_shr n k i = ap (λ x. x % 2) (shr-shr n k i)

bit_at_low : (n k i : ℕ) → i < k → bit_at (n % 2 ^ k) i ≡ bit_at n i
bit_at_low n k i h =
    let e : n / 2 ^ k * 2 ^ k + n % 2 ^ k ≡ n = div-add-mod' n (2 ^ k) in
    sym (bit_at_cat_low (n / 2 ^ k) k (n % 2 ^ k) i h) ∙ ap (λ x. bit_at x i) e

bit_at_low_above : (n k i : ℕ) → k ≤ i → bit_at (n % 2 ^ k) i ≡ 0
bit_at_low_above n k i h = bit_at_above (n % 2 ^ k) k i (mod-lt n (pow_pos k)) h

agree_shr : (k m a b : ℕ) → Agree m a b → Agree (m / 2 ^ k) (a / 2 ^ k) (b / 2 ^ k)
agree_shr k m a b h i clear =
    bit_at_shr a k i ∙ h (k + i) (sym (bit_at_shr m k i) ∙ clear) ∙ sym (bit_at_shr b k i)

agree_low : (k m a b : ℕ) → Agree m a b → Agree (m % 2 ^ k) (a % 2 ^ k) (b % 2 ^ k)
agree_low k m a b h i clear = ⊎_elim
    (λ lt. bit_at_low a k i lt ∙ h i (sym (bit_at_low m k i lt) ∙ clear) ∙ sym (bit_at_low b k i lt))
    (λ le. bit_at_low_above a k i le ∙ sym (bit_at_low_above b k i le))
    (cases_lt i k)

-- the byte of a word from a place on
pub agree_part : (k m a b : ℕ) → Agree m a b → Agree (m / 2 ^ k % 2 ^ 8) (a / 2 ^ k % 2 ^ 8) (b / 2 ^ k % 2 ^ 8)
agree_part k m a b h = agree_low 8 _ _ _ (agree_shr k m a b h)

agree_cat :
    (k m n a b c d : ℕ) → Agree m a b → Agree n c d →
    Agree (m * 2 ^ k + n % 2 ^ k) (a * 2 ^ k + c % 2 ^ k) (b * 2 ^ k + d % 2 ^ k)
agree_cat k m n a b c d high low i clear = ⊎_elim
    (λ lt. bit_at_cat_low a k _ i lt ∙ agree_low k n c d low i (sym (bit_at_cat_low m k _ i lt) ∙ clear)
    ∙ sym (bit_at_cat_low b k _ i lt))
    (λ le. bit_at_cat_high a k _ i (mod-lt c (pow_pos k)) le
    ∙ high (i - k) (sym (bit_at_cat_high m k _ i (mod-lt n (pow_pos k)) le) ∙ clear)
    ∙ sym (bit_at_cat_high b k _ i (mod-lt d (pow_pos k)) le))
    (cases_lt i k)

-- a byte below other bits
pub agree_joined :
    (m n a b c d : ℕ) → n < 256 → c < 256 → d < 256 → Agree m a b → Agree n c d →
    Agree (n + 256 * m) (c + 256 * a) (d + 256 * b)
agree_joined m n a b c d hn hc hd high low =
    let whole : (x y : ℕ) → y < 256 → x * 2 ^ 8 + y % 2 ^ 8 ≡ y + 256 * x = λ x y h. omega (arith, h) in
    subst (λ z. Agree z (c + 256 * a) (d + 256 * b)) (whole m n hn)
    (subst (λ z. Agree (m * 2 ^ 8 + n % 2 ^ 8) z (d + 256 * b)) (whole a c hc)
    (subst (λ z. Agree (m * 2 ^ 8 + n % 2 ^ 8) (a * 2 ^ 8 + c % 2 ^ 8) z) (whole b d hd)
    (agree_cat 8 m n a b c d high low)))

-- ---- a sign that is extended

-- a number whose bit is repeated from a place on
abbrev pub repeated_from : ℕ → ℕ → ℕ → ℕ
repeated_from k ones n = (bit_at n (k - 1) * ones) * 2 ^ k + n % 2 ^ k

agree_repeated : (ones m a b : ℕ) → m < 2 → a < 2 → b < 2 → (m ≡ 0 → a ≡ b) → Agree (m * ones) (a * ones) (b * ones)
agree_repeated ones zero a b hm ha hb h i clear = ap (λ x. bit_at (x * ones) i) (h refl)
agree_repeated ones (suc zero) a b hm ha hb h i clear =
    let none : bit_at ones i ≡ 0 = ap (λ x. bit_at x i) (omega arith) ∙ clear in
    repeated_clear ones i none a ha ∙ sym (repeated_clear ones i none b hb)
  where
    repeated_clear : (n i : ℕ) → bit_at n i ≡ 0 → (a : ℕ) → a < 2 → bit_at (a * n) i ≡ 0
    repeated_clear n i clear zero h =
        let none : 0 * n ≡ 0 = omega arith in ap (λ x. bit_at x i) none ∙ bit_at-zero i
    repeated_clear n i clear (suc zero) h =
        let one : 1 * n ≡ n = omega arith in ap (λ x. bit_at x i) one ∙ clear
    repeated_clear n i clear (suc (suc a)) h = absurd (omega arith)
agree_repeated ones (suc (suc m)) a b hm ha hb h i clear = absurd (omega arith)

pub agree_extended :
    (k ones m a b : ℕ) → Agree m a b → Agree (repeated_from k ones m) (repeated_from k ones a) (repeated_from k ones b)
agree_extended k ones m a b h =
    agree_cat k _ m _ _ a b
    (agree_repeated ones _ _ _ (bit_at-lt m (k - 1)) (bit_at-lt a (k - 1)) (bit_at-lt b (k - 1)) (h (k - 1)))
    h

-- ---- patches within a width

-- a number without bits from a place on is below that power of two
below_of_bits : (k n : ℕ) → ((i : ℕ) → k ≤ i → bit_at n i ≡ 0) → n < 2 ^ k
below_of_bits k n none =
    let same : n ≡ n % 2 ^ k = same_from_bits n (n % 2 ^ k) (λ i. ⊎_elim
    (λ lt. sym (bit_at_low n k i lt)) (λ le. none i le ∙ sym (bit_at_low_above n k i le)) (cases_lt i k)) in
    subst (λ x. x < 2 ^ k) (sym same) (mod-lt n (pow_pos k))

pub patched_below_width : (k c r y : ℕ) → r < 2 ^ k → y < 2 ^ k → r < 2 ^ 32 → patched y c (bits_under r c) < 2 ^ k
patched_below_width k c r y p q fits =
    let agree : Agree (2 ^ k - 1) r (patched y c (bits_under r c)) =
    patched_agrees (2 ^ k - 1) c r y fits (agree_width k (2 ^ k - 1) r y refl p q) in
    below_of_bits k (patched y c (bits_under r c)) (λ i above.
    sym (agree i (bit_at_ones_above k i above)) ∙ bit_at_above r k i p above)
