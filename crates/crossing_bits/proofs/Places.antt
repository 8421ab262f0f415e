-- Bits under a mask: place by place, and at the width of a word.
use Rattle.std.proofs.Common.{◌≡◌, ℕ, zero, suc, ◌+◌, ◌-◌, ◌*◌, ◌/◌, ◌%◌, ◌^◌, ◌≤◌, ◌<◌, ◌⊎◌, inl, inr, List, [], ◌∷◌, ◌++◌, length, refl, ap, sym, ◌∙◌, Bool, true, false, arith, append-nil, add-one, min, take, drop, get_or}
use Rattle.std.specs.Prelude.{◌==◌, bit_and, if◌then◌else◌}
use Rattle.std.specs.Int.{bit_at}
use Rattle.std.proofs.lemmas.Nat.Bits.{bit_at_lowest, bit_at-suc}
use Rattle.std.specs.Int.Count.{ones}
use mir.Val.{bool_byte}
use Rattle.std.proofs.lemmas.List.{take_rest, take_all}
use Rattle.crossing_bits.specs.HexText.{spelt_number, byte_at, first_bytes}
use Rattle.crossing_bits.specs.Returns.{ReturnLaw, AgreeLaw}
use Rattle.crossing_bits.proofs.Feeding.{le_or_lt}
use Rattle.std.proofs.lemmas.Nat.{ones_cat, and_block, and_le_r, and_mask}
use Rattle.std.proofs.Math.Nat.{pow-suc}
use Rattle.flow_base.specs.Words.{bits_below, bits_under, count_below, bit_count, number_of_bit, first_bit, later_bits, patched_below, patched}

pub parity : (n : ℕ) → (n % 2 ≡ 0) ⊎ (n % 2 ≡ 1)
parity n = elim (n % 2) as (λ r. n % 2 ≡ r → (n % 2 ≡ 0) ⊎ (n % 2 ≡ 1)) [
  | zero ↦ (λ e. inl e)
  | suc r ↦ (λ e. inr (omega (arith, e)))
] refl

half : (p n : ℕ) → n < 2 ^ suc p → n / 2 < 2 ^ p
half p n h = omega (arith, h, pow-suc 2 p)

-- ---- one place

count_odd : (p m : ℕ) → m % 2 ≡ 1 → count_below (suc p) m ≡ suc (count_below p (m / 2))
unfolding count_below
count_odd p m e = rw e refl

count_even : (p m : ℕ) → m % 2 ≡ 0 → count_below (suc p) m ≡ count_below p (m / 2)
unfolding count_below
count_even p m e = rw e refl

bits_odd : (p v m : ℕ) → m % 2 ≡ 1 → bits_below (suc p) v m ≡ (v % 2 == 1) ∷ bits_below p (v / 2) (m / 2)
unfolding bits_below
bits_odd p v m e = rw e refl

bits_even : (p v m : ℕ) → m % 2 ≡ 0 → bits_below (suc p) v m ≡ bits_below p (v / 2) (m / 2)
unfolding bits_below
bits_even p v m e = rw e refl

patched_odd :
    (p v m : ℕ) (bs : List Bool) → m % 2 ≡ 1 →
    patched_below (suc p) v m bs ≡ first_bit bs + 2 * patched_below p (v / 2) (m / 2) (later_bits bs)
unfolding patched_below
patched_odd p v m bs e = rw e refl

patched_even :
    (p v m : ℕ) (bs : List Bool) → m % 2 ≡ 0 →
    patched_below (suc p) v m bs ≡ v % 2 + 2 * patched_below p (v / 2) (m / 2) bs
unfolding patched_below
patched_even p v m bs e = rw e refl

count_none : (m : ℕ) → count_below zero m ≡ 0
unfolding count_below
count_none m = refl

bits_none : (v m : ℕ) → bits_below zero v m ≡ []
unfolding bits_below
bits_none v m = refl

patched_none : (v m : ℕ) (bs : List Bool) → patched_below zero v m bs ≡ 0
unfolding patched_below
patched_none v m bs = refl

-- ---- the mask that has no place

pub count_zero : (p : ℕ) → count_below p 0 ≡ 0
count_zero zero = count_none 0
count_zero (suc p) = count_even p 0 refl ∙ count_zero p

pub bits_zero : (p v : ℕ) → bits_below p v 0 ≡ []
bits_zero zero v = bits_none v 0
bits_zero (suc p) v = bits_even p v 0 refl ∙ bits_zero p (v / 2)

pub patched_zero : (p v : ℕ) (bs : List Bool) → v < 2 ^ p → patched_below p v 0 bs ≡ v
patched_zero zero v bs h = patched_none v 0 bs ∙ omega arith
patched_zero (suc p) v bs h = patched_even p v 0 bs refl ∙ omega (arith, patched_zero p (v / 2) bs (half p v h))

-- ---- one place more than the mask needs

count_more : (p m : ℕ) → m < 2 ^ p → count_below (suc p) m ≡ count_below p m
count_more zero m h = let e : m ≡ 0 = omega arith in rw e (count_zero 1 ∙ sym (count_zero 0))
count_more (suc p) m h = elim (parity m) [
  | inl e ↦ count_even (suc p) m e ∙ (count_more p (m / 2) (half p m h) ∙ sym (count_even p m e))
  | inr e ↦ count_odd (suc p) m e ∙ (ap (λ n. suc n) (count_more p (m / 2) (half p m h)) ∙
      sym (count_odd p m e))
]

bits_more : (p v m : ℕ) → m < 2 ^ p → bits_below (suc p) v m ≡ bits_below p v m
bits_more zero v m h = let e : m ≡ 0 = omega arith in rw e (bits_zero 1 v ∙ sym (bits_zero 0 v))
bits_more (suc p) v m h = elim (parity m) [
  | inl e ↦ bits_even (suc p) v m e ∙ (bits_more p (v / 2) (m / 2) (half p m h) ∙ sym (bits_even p v m e))
  | inr e ↦ bits_odd (suc p) v m e ∙ (ap (λ bs. (v % 2 == 1) ∷ bs) (bits_more p (v / 2) (m / 2) (half p m h)) ∙
      sym (bits_odd p v m e))
]

patched_more :
    (p v m : ℕ) (bs : List Bool) → v < 2 ^ p → m < 2 ^ p → patched_below (suc p) v m bs ≡ patched_below p v m bs
patched_more zero v m bs k h =
    let e : m ≡ 0 = omega arith in let f : v ≡ 0 = omega arith in
    rw (e, f) (patched_zero 1 0 bs (omega arith) ∙ sym (patched_zero 0 0 bs (omega arith)))
patched_more (suc p) v m bs k h = elim (parity m) [
  | inl e ↦ patched_even (suc p) v m bs e ∙
      (ap (λ n. v % 2 + 2 * n) (patched_more p (v / 2) (m / 2) bs (half p v k) (half p m h)) ∙
      sym (patched_even p v m bs e))
  | inr e ↦ patched_odd (suc p) v m bs e ∙
      (ap (λ n. first_bit bs + 2 * n) (patched_more p (v / 2) (m / 2) (later_bits bs) (half p v k) (half p m h)) ∙ sym (patched_odd p v m bs e))
]

-- ---- laws

pub count_is_ones : (p m : ℕ) → m < 2 ^ p → count_below p m ≡ ones m
unfolding ones
count_is_ones zero m h = let e : m ≡ 0 = omega arith in rw e (count_none 0)
count_is_ones (suc p) m h =
    let whole : m / 2 * 2 ^ 1 + m % 2 ≡ m = omega arith in
    let split : ones m ≡ ones (m / 2) + ones (m % 2) = ap (λ n. ones n) (sym whole) ∙
    ones_cat 1 (m / 2) (m % 2) (omega arith) in
    let below : count_below p (m / 2) ≡ ones (m / 2) = count_is_ones p (m / 2) (half p m h) in
    elim (parity m) [
      | inl e ↦ let none : ones (m % 2) ≡ 0 = rw e refl in omega (arith, count_even p m e, split, below, none)
      | inr e ↦ let one : ones (m % 2) ≡ 1 = rw e refl in omega (arith, count_odd p m e, split, below, one)
    ]

pub length_bits : (p v m : ℕ) → length (bits_below p v m) ≡ count_below p m
length_bits zero v m = rw (bits_none v m, count_none m) refl
length_bits (suc p) v m = elim (parity m) [
  | inl e ↦ rw (bits_even p v m e, count_even p m e) (length_bits p (v / 2) (m / 2))
  | inr e ↦ rw (bits_odd p v m e, count_odd p m e) (ap (λ n. suc n) (length_bits p (v / 2) (m / 2)))
]

first_below : (bs : List Bool) → first_bit bs < 2
first_below [] = omega arith
first_below (true ∷ bs) = omega arith
first_below (false ∷ bs) = omega arith

pub patched_below_bound : (p v m : ℕ) (bs : List Bool) → patched_below p v m bs < 2 ^ p
patched_below_bound zero v m bs = rw (patched_none v m bs) (omega arith)
patched_below_bound (suc p) v m bs = elim (parity m) [
  | inl e ↦ omega (arith, patched_even p v m bs e, patched_below_bound p (v / 2) (m / 2) bs, pow-suc 2 p)
  | inr e ↦ omega (arith, patched_odd p v m bs e, patched_below_bound p (v / 2) (m / 2) (later_bits bs), first_below bs, pow-suc 2 p)
]

bit_number : (v : ℕ) → number_of_bit (v % 2 == 1) ≡ v % 2
bit_number v = elim (parity v) [ inl e ↦ rw e refl | inr e ↦ rw e refl ]

-- the bits of a value under a mask, put back in their places, whatever follows them
pub put_back_below :
    (p v m : ℕ) (rest : List Bool) → v < 2 ^ p → patched_below p v m (bits_below p v m ++ rest) ≡ v
put_back_below zero v m rest h = patched_none v m (bits_below zero v m ++ rest) ∙ omega arith
put_back_below (suc p) v m rest h = elim (parity m) [
  | inl e ↦ rw (bits_even p v m e) (patched_even p v m (bits_below p (v / 2) (m / 2) ++ rest) e ∙
      omega (arith, put_back_below p (v / 2) (m / 2) rest (half p v h)))
  | inr e ↦ rw (bits_odd p v m e) (patched_odd p v m ((v % 2 == 1) ∷ (bits_below p (v / 2) (m / 2) ++ rest)) e ∙ omega (arith, bit_number v, put_back_below p (v / 2) (m / 2) rest (half p v h)))
]

and_half : (v m : ℕ) → bit_and v m ≡ bit_and (v / 2) (m / 2) * 2 + bit_and (v % 2) (m % 2)
and_half v m =
    let value : v / 2 * 2 ^ 1 + v % 2 ≡ v = omega arith in
    let mask : m / 2 * 2 ^ 1 + m % 2 ≡ m = omega arith in
    let block : bit_and (v / 2 * 2 ^ 1 + v % 2) (m / 2 * 2 ^ 1 + m % 2) ≡ bit_and (v / 2) (m / 2) * 2 ^ 1 + bit_and (v % 2) (m % 2) =
    and_block 1 (v / 2) (m / 2) (v % 2) (m % 2) (omega arith) (omega arith) in
    rw (value, mask) at block

and_even : (v m : ℕ) → m % 2 ≡ 0 → bit_and v m ≡ 2 * bit_and (v / 2) (m / 2)
and_even v m e =
    let none : bit_and (v % 2) (m % 2) ≤ m % 2 = and_le_r (v % 2) (m % 2) in omega (arith, and_half v m, none)

and_odd : (v m : ℕ) → m % 2 ≡ 1 → bit_and v m ≡ v % 2 + 2 * bit_and (v / 2) (m / 2)
and_odd v m e =
    let one : bit_and (v % 2) (m % 2) ≡ v % 2 % 2 = rw e (and_mask (v % 2) 1) in
    omega (arith, and_half v m, one)

-- the bits of a value under a mask, alone in their places
pub taken_back_below :
    (p v m : ℕ) (rest : List Bool) → m < 2 ^ p → patched_below p 0 m (bits_below p v m ++ rest) ≡ bit_and v m
taken_back_below zero v m rest h =
    let none : bit_and v m ≤ m = and_le_r v m in patched_none 0 m (bits_below zero v m ++ rest) ∙ omega arith
taken_back_below (suc p) v m rest h = elim (parity m) [
  | inl e ↦ rw (bits_even p v m e) (patched_even p 0 m (bits_below p (v / 2) (m / 2) ++ rest) e ∙
      omega (arith, taken_back_below p (v / 2) (m / 2) rest (half p m h), and_even v m e))
  | inr e ↦ rw (bits_odd p v m e) (patched_odd p 0 m ((v % 2 == 1) ∷ (bits_below p (v / 2) (m / 2) ++ rest)) e ∙ omega (arith, bit_number v, taken_back_below p (v / 2) (m / 2) rest (half p m h), and_odd v m e))
]

-- outside the mask the value stays
pub patched_below_agrees :
    (p v m : ℕ) (bs : List Bool) → v < 2 ^ p → (i : ℕ) → bit_at m i ≡ 0 →
    bit_at (patched_below p v m bs) i ≡ bit_at v i
patched_below_agrees zero v m bs h i e =
    let none : v ≡ 0 = omega arith in rw (none, patched_none 0 m bs) refl
patched_below_agrees (suc p) v m bs h zero e =
    let clear : m % 2 ≡ 0 = sym (bit_at_lowest m) ∙ e in
    let low : patched_below (suc p) v m bs % 2 ≡ v % 2 = omega (arith, patched_even p v m bs clear) in
    bit_at_lowest (patched_below (suc p) v m bs) ∙ (low ∙ sym (bit_at_lowest v))
patched_below_agrees (suc p) v m bs h (suc i) e =
    let above : bit_at (m / 2) i ≡ 0 = sym (bit_at-suc m i) ∙ e in
    let same : bit_at (patched_below (suc p) v m bs / 2) i ≡ bit_at (v / 2) i = elim (parity m) [
      | inl o ↦
          let shifted : patched_below (suc p) v m bs / 2 ≡ patched_below p (v / 2) (m / 2) bs =
          omega (arith, patched_even p v m bs o) in
          rw shifted (patched_below_agrees p (v / 2) (m / 2) bs (half p v h) i above)
      | inr o ↦
          let shifted : patched_below (suc p) v m bs / 2 ≡ patched_below p (v / 2) (m / 2) (later_bits bs) =
          omega (arith, patched_odd p v m bs o, first_below bs) in
          rw shifted (patched_below_agrees p (v / 2) (m / 2) (later_bits bs) (half p v h) i above)
    ] in
    bit_at-suc (patched_below (suc p) v m bs) i ∙ (same ∙ sym (bit_at-suc v i))

pub count_below_bound : (p m : ℕ) → count_below p m ≤ p
count_below_bound zero m = rw (count_none m) (omega arith)
count_below_bound (suc p) m = elim (parity m) [
  | inl e ↦ omega (arith, count_even p m e, count_below_bound p (m / 2))
  | inr e ↦ omega (arith, count_odd p m e, count_below_bound p (m / 2))
]

-- ---- words

pub count_bound : (m : ℕ) → bit_count m ≤ 32
count_bound m = count_below_bound 32 m

pub agree_law : AgreeLaw
agree_law v m bs h i e = patched_below_agrees 32 v m bs h i e

pub return_law : ReturnLaw
return_law v m rest k h = (taken_back_below 32 v m rest h, put_back_below 32 v m rest k)

pub count_is_count_ones : (m : ℕ) → m < 2 ^ 32 → bit_count m ≡ ones m
count_is_count_ones m h = count_is_ones 32 m h

pub count_of_zero : bit_count 0 ≡ 0
count_of_zero = count_zero 32

pub bits_of_zero : (v : ℕ) → bits_under v 0 ≡ []
bits_of_zero v = bits_zero 32 v

pub patched_by_zero : (v : ℕ) (bs : List Bool) → v < 2 ^ 32 → patched v 0 bs ≡ v
patched_by_zero v bs h = patched_zero 32 v bs h

pub length_bits_under : (v m : ℕ) → length (bits_under v m) ≡ bit_count m
length_bits_under v m = length_bits 32 v m

pub patched_bound : (v m : ℕ) (bs : List Bool) → patched v m bs < 2 ^ 32
patched_bound v m bs = patched_below_bound 32 v m bs

pub put_back : (v m : ℕ) → v < 2 ^ 32 → patched v m (bits_under v m) ≡ v
put_back v m h = rw (← append-nil (bits_under v m)) (put_back_below 32 v m [] h)

-- the bit of the lowest place, where the mask has it
abbrev pub lowest : ℕ → ℕ → List Bool
lowest v m = if m % 2 == 1 then (v % 2 == 1) ∷ [] else []

pub bits_step : (v m : ℕ) → m < 2 ^ 32 → bits_under v m ≡ lowest v m ++ bits_under (v / 2) (m / 2)
bits_step v m h =
    let more : bits_below 32 (v / 2) (m / 2) ≡ bits_below 31 (v / 2) (m / 2) =
    bits_more 31 (v / 2) (m / 2) (half 31 m h) in
    elim (parity m) [ inl e ↦ rw (more, e) (bits_even 31 v m e) | inr e ↦ rw (more, e) (bits_odd 31 v m e) ]

pub count_step : (m : ℕ) → m < 2 ^ 32 → bit_count m ≡ m % 2 + bit_count (m / 2)
count_step m h =
    let more : count_below 32 (m / 2) ≡ count_below 31 (m / 2) = count_more 31 (m / 2) (half 31 m h) in
    elim (parity m) [ inl e ↦ omega (arith, more, e, count_even 31 m e) | inr e ↦ omega (arith, more, e, count_odd 31 m e) ]

pub patched_step_odd :
    (v m : ℕ) (bs : List Bool) → v < 2 ^ 32 → m < 2 ^ 32 → m % 2 ≡ 1 →
    patched v m bs ≡ first_bit bs + 2 * patched (v / 2) (m / 2) (later_bits bs)
patched_step_odd v m bs k h e =
    rw (patched_more 31 (v / 2) (m / 2) (later_bits bs) (half 31 v k) (half 31 m h)) (patched_odd 31 v m bs e)

pub patched_step_even :
    (v m : ℕ) (bs : List Bool) → v < 2 ^ 32 → m < 2 ^ 32 → m % 2 ≡ 0 →
    patched v m bs ≡ v % 2 + 2 * patched (v / 2) (m / 2) bs
patched_step_even v m bs k h e =
    rw (patched_more 31 (v / 2) (m / 2) bs (half 31 v k) (half 31 m h)) (patched_even 31 v m bs e)

pub half_bound : (v m : ℕ) (bs : List Bool) → v < 2 ^ 32 → m < 2 ^ 32 → patched (v / 2) (m / 2) bs < 2 ^ 31
half_bound v m bs k h =
    rw (patched_more 31 (v / 2) (m / 2) bs (half 31 v k) (half 31 m h)) (patched_below_bound 31 (v / 2) (m / 2) bs)

-- ---- the code's reads of a slice

later_is : (bs : List Bool) → later_bits bs ≡ drop 1 bs
later_is [] = refl
later_is (b ∷ bs) = refl

later_slice : (bs : List Bool) → take (length bs - 1) (drop 1 bs) ≡ later_bits bs
later_slice bs = take_rest bs 1 ∙ sym (later_is bs)

first_read : (bs : List Bool) → 1 ≤ length bs → bool_byte (get_or bs 0 false) ≡ first_bit bs
first_read [] h = absurd (omega arith)
first_read (true ∷ bs) h = refl
first_read (false ∷ bs) h = refl

pub bool_bound : (b : Bool) → bool_byte b < 2
bool_bound true = omega arith
bool_bound false = omega arith

pub patched_read :
    (v m : ℕ) (bs : List Bool) → v < 2 ^ 32 → m < 2 ^ 32 → (m % 2 ≡ 0 → ⊥) → 1 ≤ length bs →
    bool_byte (get_or bs 0 false) + 2 * patched (v / 2) (m / 2) (take (length bs - 1) (drop 1 bs)) ≡ patched v m bs
patched_read v m bs k h o l =
    let odd : m % 2 ≡ 1 = omega arith in
    rw (first_read bs l, later_slice bs) (sym (patched_step_odd v m bs k h odd))

pub patched_empty :
    (v m : ℕ) (bs : List Bool) → v < 2 ^ 32 → m < 2 ^ 32 → (m % 2 ≡ 0 → ⊥) → length bs < 1 →
    2 * patched (v / 2) (m / 2) bs ≡ patched v m bs
patched_empty v m [] k h o l =
    let odd : m % 2 ≡ 1 = omega arith in omega (arith, patched_step_odd v m [] k h odd)
patched_empty v m (b ∷ bs) k h o l = absurd (omega arith)

pub number_read :
    (bs : List Bool) → 1 ≤ length bs →
    bool_byte (get_or bs 0 false) + 2 * spelt_number (take (length bs - 1) (drop 1 bs)) ≡ spelt_number bs
unfolding spelt_number
number_read [] l = absurd (omega arith)
number_read (b ∷ bs) l = rw (later_slice (b ∷ bs), first_read (b ∷ bs) l) refl

pub number_empty : (bs : List Bool) → length bs < 1 → spelt_number bs ≡ 0
unfolding spelt_number
number_empty [] l = refl
number_empty (b ∷ bs) l = absurd (omega arith)

pub take_min : (bs : List Bool) → take (min (length bs) 8) bs ≡ take 8 bs
take_min bs = elim (le_or_lt (length bs) 8) [
  | inl few ↦ take_all (min (length bs) 8) bs (omega arith) ∙ sym (take_all 8 bs few)
  | inr many ↦ let eight : min (length bs) 8 ≡ 8 = omega arith in ap (λ n. take n bs) eight
]

pub first_bytes_none : (bits : List Bool) → first_bytes 0 bits ≡ []
unfolding first_bytes
first_bytes_none bits = refl

pub first_bytes_more :
    (n : ℕ) (bits : List Bool) → first_bytes (n + 1) bits ≡ first_bytes n bits ++ byte_at bits n ∷ []
unfolding first_bytes
first_bytes_more n bits = rw add-one refl
