-- The mask of a shift over all amounts is sound, is the mask shifted where the amount is known, and is nowhere wider
-- than the mask of table 1.
use Rattle.std.proofs.Common.{◌≡◌, ℕ, zero, suc, ◌+◌, ◌-◌, ◌*◌, ◌/◌, ◌%◌, ◌^◌, ◌<◌, ◌≤◌, min, max, refl, sym, ap, ap₂, subst}
use Rattle.std.proofs.Common.{◌∙◌, ◌⊎◌, inl, inr, ⊎_elim, Bool, true, false, IsTrue, arith, eqb-true, eq-eqb}
use Rattle.std.specs.Prelude.{◌==◌, bit_and, bit_or, bit_xor, if◌then◌else◌}
use Rattle.std.specs.Int.{bit_at}
use Rattle.std.specs.Int.Bits.{or_zero_l, and_zero_r}
use Rattle.std.proofs.lemmas.Bool.{cases_lt, cases_Bool, false≢true, false_from_ne_true}
use Rattle.std.proofs.lemmas.Nat.{and_le_l, mod_below, or_lt}
use Rattle.std.proofs.lemmas.Nat.Bits.{bit_at_and, bit_at_or, bit_at_xor, bit_at-zero, bit_at_above, bit_at-lt}
use Rattle.std.proofs.lemmas.Nat.Bits.{same_from_bits, same_from_bits_below}
use Rattle.flow_base.specs.Words.{Agree}
use Rattle.rv32im_decode.specs.declared.instructions.OpKind.{OpKind}
use Rattle.rv32im_decode.specs.declared.instructions.OpKind.TheVariants as op
use Rattle.rv32im_decode.specs.Operations.{op_result, shifted_with_sign}
use Rattle.transfer_rules.specs.declared.operands.Operands.{Operands}
use Rattle.transfer_rules.specs.Shifts3.{in_some, is_shift, may_shift_by, shift_range}
use Rattle.transfer_rules.specs.Soundness.{AreWords, KeepsMask}
use Rattle.transfer_rules.specs.Table1.{flipped, shift_mask}
use Rattle.transfer_rules.specs.Table2.{least, greatest}
use Rattle.transfer_rules.proofs.Agreement.{bit_low}
use Rattle.transfer_rules.proofs.BitRules.{bit_flipped, none_outside}
use Rattle.transfer_rules.proofs.Bounds.{between, bit_least, bit_greatest, least_fits}
use Rattle.transfer_rules.proofs.Shifts.{left_low, left_high, right_bit, sign_bit, left_fits, right_fits, signed_fits}

-- ---- each bit of a shifted word is a bit of the word, or 0

-- a place of the shifted words is 0 in all, or is the same place of all words
abbrev pub MovesAt : (ℕ → ℕ) → ℕ → Type 0
MovesAt shifted i =
    ((x : ℕ) → x < 2 ^ 32 → bit_at (shifted x) i ≡ 0)
    ⊎ ((j : ℕ) × ((x : ℕ) → x < 2 ^ 32 → bit_at (shifted x) i ≡ bit_at x j))

outside : (shifted : ℕ → ℕ) (i : ℕ) → ((x : ℕ) → x < 2 ^ 32 → shifted x < 2 ^ 32) → 32 ≤ i → MovesAt shifted i
outside shifted i fits above = inl (λ x p. bit_at_above (shifted x) 32 i (fits x p) above)

left_moves : (places i : ℕ) → MovesAt (λ x. x * 2 ^ places % 2 ^ 32) i
left_moves places i = ⊎_elim
    (λ inside. ⊎_elim
    (λ below. inl (λ x p. bit_low 32 (x * 2 ^ places) i inside ∙ left_low x places i below))
    (λ from. inr (i - places, λ x p. bit_low 32 (x * 2 ^ places) i inside ∙ left_high x places i from))
    (cases_lt i places))
    (outside (λ x. x * 2 ^ places % 2 ^ 32) i (λ x p. left_fits x places p))
    (cases_lt i 32)

right_moves : (places i : ℕ) → MovesAt (λ x. x / 2 ^ places) i
right_moves places i = inr (places + i, λ x p. right_bit x places i)

sign_moves : (places i : ℕ) → MovesAt (λ x. shifted_with_sign x places) i
sign_moves places i = ⊎_elim
    (λ inside. inr (min (places + i) 31, λ x p. sign_bit x places i p inside))
    (outside (λ x. shifted_with_sign x places) i (λ x p. signed_fits x places p))
    (cases_lt i 32)

-- what a shift is: it gives words, goes by the low five bits of the amount, and moves bits
pub record Shifts (shift : ℕ → ℕ → ℕ) : Type 0 where
  pub fits : (x amount : ℕ) → x < 2 ^ 32 → shift x amount < 2 ^ 32
  pub by_low : (x amount : ℕ) → shift x (amount % 32) ≡ shift x amount
  pub moves : (amount i : ℕ) → MovesAt (λ x. shift x amount) i

low_of_low : (amount : ℕ) → amount % 32 % 32 ≡ amount % 32
low_of_low amount = omega arith

pub shifts : (kind : OpKind) → IsTrue (is_shift kind) → Shifts (op_result kind)
shifts op.Sll may = record {
  fits = λ x amount p. left_fits x (amount % 32) p;
  by_low = λ x amount. ap (λ n. x * 2 ^ n % 2 ^ 32) (low_of_low amount);
  moves = λ amount i. left_moves (amount % 32) i;
}
shifts op.Srl may = record {
  fits = λ x amount p. right_fits x (amount % 32) p;
  by_low = λ x amount. ap (λ n. x / 2 ^ n) (low_of_low amount);
  moves = λ amount i. right_moves (amount % 32) i;
}
shifts op.Sra may = record {
  fits = λ x amount p. signed_fits x (amount % 32) p;
  by_low = λ x amount. ap (shifted_with_sign x) (low_of_low amount);
  moves = λ amount i. sign_moves (amount % 32) i;
}
shifts other may = absurd (false≢true may)

-- where a word has all bits of another, so has what it is shifted to
shifted_le :
    (shifted : ℕ → ℕ) (x y i : ℕ) → MovesAt shifted i → x < 2 ^ 32 → y < 2 ^ 32 →
    ((j : ℕ) → bit_at x j ≤ bit_at y j) → bit_at (shifted x) i ≤ bit_at (shifted y) i
shifted_le shifted x y i moves p q le = ⊎_elim
    (λ none. omega (arith, none x p))
    (λ moved. omega (arith, moved.1 x p, moved.1 y q, le moved.0))
    moves

-- ---- the amounts

pub amounts_more :
    (o : Operands) (word_of : ℕ → ℕ) (amount : ℕ) → may_shift_by o amount ≡ true →
    in_some o word_of (suc amount) ≡ bit_or (in_some o word_of amount) (word_of amount)
unfolding in_some
amounts_more o word_of amount may =
    ap (λ b. if b then bit_or (in_some o word_of amount) (word_of amount) else in_some o word_of amount) may

pub amounts_skip :
    (o : Operands) (word_of : ℕ → ℕ) (amount : ℕ) → may_shift_by o amount ≡ false →
    in_some o word_of (suc amount) ≡ in_some o word_of amount
unfolding in_some
amounts_skip o word_of amount cannot =
    ap (λ b. if b then bit_or (in_some o word_of amount) (word_of amount) else in_some o word_of amount) cannot

pub amounts_none : (o : Operands) (word_of : ℕ → ℕ) → in_some o word_of 0 ≡ 0
unfolding in_some
amounts_none o word_of = refl

-- a turn of a loop over the amounts
pub taken_step :
    (o : Operands) (word_of : ℕ → ℕ) (amount so_far word : ℕ) → may_shift_by o amount ≡ true →
    so_far ≡ in_some o word_of amount → word ≡ word_of amount →
    bit_or so_far word ≡ in_some o word_of (amount + 1)
taken_step o word_of amount so_far word may e f =
    ap₂ bit_or e f ∙ sym (amounts_more o word_of amount may) ∙ ap (in_some o word_of) (omega arith)

pub skipped_step :
    (o : Operands) (word_of : ℕ → ℕ) (amount so_far : ℕ) → may_shift_by o amount ≡ false →
    so_far ≡ in_some o word_of amount → so_far ≡ in_some o word_of (amount + 1)
skipped_step o word_of amount so_far cannot e =
    e ∙ sym (amounts_skip o word_of amount cannot) ∙ ap (in_some o word_of) (omega arith)

-- a place that is 0 in all words together is 0 in each
clear_in_each :
    (o : Operands) (word_of : ℕ → ℕ) (i bound amount : ℕ) → bit_at (in_some o word_of bound) i ≡ 0 → amount < bound →
    may_shift_by o amount ≡ true → bit_at (word_of amount) i ≡ 0
clear_in_each o word_of i zero amount none below may = absurd (omega arith)
clear_in_each o word_of i (suc bound) amount none below may = ⊎_elim
    (λ taken.
    let both : max (bit_at (in_some o word_of bound) i) (bit_at (word_of bound) i) ≡ 0 =
    sym (bit_at_or (in_some o word_of bound) (word_of bound) i)
    ∙ sym (ap (λ n. bit_at n i) (amounts_more o word_of bound taken)) ∙ none in
    ⊎_elim
    (λ inner. clear_in_each o word_of i bound amount (omega arith) inner may)
    (λ last. let e : amount ≡ bound = omega arith in ap (λ n. bit_at (word_of n) i) e ∙ omega arith)
    (cases_lt amount bound))
    (λ skipped. ⊎_elim
    (λ inner.
    clear_in_each o word_of i bound amount (sym (ap (λ n. bit_at n i) (amounts_skip o word_of bound skipped)) ∙ none) inner
    may)
    (λ last.
    let e : amount ≡ bound = omega arith in
    absurd (differ (may_shift_by o bound) skipped (sym (ap (may_shift_by o) e) ∙ may)))
    (cases_lt amount bound))
    (cases_Bool (may_shift_by o bound))
  where
    differ : (b : Bool) → b ≡ false → b ≡ true → ⊥
    differ b p q = cc

-- the low bits of what is asked of an amount
asked_bit :
    (o : Operands) (amount i : ℕ) → o.m2 < 2 ^ 32 → i < 5 →
    bit_at (bit_and (bit_xor amount o.v2) (flipped o.m2) % 2 ^ 5) i
    ≡ min ((bit_at amount i + bit_at o.v2 i) % 2) (1 - bit_at o.m2 i)
asked_bit o amount i fits low =
    bit_low 5 (bit_and (bit_xor amount o.v2) (flipped o.m2)) i low
    ∙ bit_at_and (bit_xor amount o.v2) (flipped o.m2) i
    ∙ ap₂ min (bit_at_xor amount o.v2 i) (bit_flipped o.m2 i fits (omega arith))

-- what the second operand may be, shifts by an amount that is looked at
pub agreeing_amount :
    (o : Operands) (second : ℕ) → o.m2 < 2 ^ 32 → Agree o.m2 o.v2 second → may_shift_by o (second % 32) ≡ true
agreeing_amount o second fits h = eq-eqb _ _ (same_from_bits_below 5 _ 0 (mod_below _ 32 (omega arith)) (omega arith)
    (λ i low.
    asked_bit o (second % 32) i fits low
    ∙ ap (λ b. min ((b + bit_at o.v2 i) % 2) (1 - bit_at o.m2 i)) (bit_low 5 second i low)
    ∙ one (bit_at second i) (bit_at o.v2 i) (bit_at o.m2 i) (bit_at-lt second i) (bit_at-lt o.v2 i) (h i)
    ∙ sym (bit_at-zero i)))
  where
    one : (b w n : ℕ) → b < 2 → w < 2 → (n ≡ 0 → w ≡ b) → min ((b + w) % 2) (1 - n) ≡ 0
    one b w zero p q same = let e : w ≡ b = same refl in omega arith
    one b w (suc n) p q same = omega arith

-- where no bit of the amount is secret, no other amount is looked at
known_amount :
    (o : Operands) (amount : ℕ) → o.m2 < 2 ^ 32 → o.m2 % 32 ≡ 0 → amount < 32 → may_shift_by o amount ≡ true →
    amount ≡ o.v2 % 32
known_amount o amount fits known below may =
    same_from_bits_below 5 amount (o.v2 % 32) below (mod_below o.v2 32 (omega arith))
    (λ i low.
    let gone : bit_at (bit_and (bit_xor amount o.v2) (flipped o.m2) % 2 ^ 5) i ≡ 0 =
    ap (λ n. bit_at n i) (eqb-true _ _ may) ∙ bit_at-zero i in
    let clear : bit_at o.m2 i ≡ 0 = sym (bit_low 5 o.m2 i low) ∙ ap (λ n. bit_at n i) known ∙ bit_at-zero i in
    same (bit_at amount i) (bit_at o.v2 i) (bit_at o.m2 i) (bit_at-lt amount i) (bit_at-lt o.v2 i) clear
    (sym (asked_bit o amount i fits low) ∙ gone)
    ∙ sym (bit_low 5 o.v2 i low))
  where
    same : (a w n : ℕ) → a < 2 → w < 2 → n ≡ 0 → min ((a + w) % 2) (1 - n) ≡ 0 → a ≡ w
    same a w n p q clear none = omega arith

own_amount : (o : Operands) → o.m2 < 2 ^ 32 → may_shift_by o (o.v2 % 32) ≡ true
own_amount o fits = agreeing_amount o o.v2 fits (λ i none. refl)

-- of one amount there is one word
none_before :
    (o : Operands) (word_of : ℕ → ℕ) (bound : ℕ) → o.m2 < 2 ^ 32 → o.m2 % 32 ≡ 0 → bound ≤ o.v2 % 32 →
    in_some o word_of bound ≡ 0
none_before o word_of zero fits known before = amounts_none o word_of
none_before o word_of (suc bound) fits known before =
    amounts_skip o word_of bound
    (false_from_ne_true _ (λ may. omega (arith, known_amount o bound fits known (omega arith) may)))
    ∙ none_before o word_of bound fits known (omega arith)

one_after :
    (o : Operands) (word_of : ℕ → ℕ) (bound : ℕ) → o.m2 < 2 ^ 32 → o.m2 % 32 ≡ 0 → o.v2 % 32 < bound → bound ≤ 32 →
    in_some o word_of bound ≡ word_of (o.v2 % 32)
one_after o word_of zero fits known after within = absurd (omega arith)
one_after o word_of (suc bound) fits known after within = ⊎_elim
    (λ later.
    amounts_skip o word_of bound
    (false_from_ne_true _ (λ may. omega (arith, known_amount o bound fits known (omega arith) may)))
    ∙ one_after o word_of bound fits known later (omega arith))
    (λ last.
    let e : o.v2 % 32 ≡ bound = omega arith in
    amounts_more o word_of bound (sym (ap (may_shift_by o) e) ∙ own_amount o fits)
    ∙ ap (λ n. bit_or n (word_of bound)) (none_before o word_of bound fits known last)
    ∙ or_zero_l (word_of bound) ∙ ap word_of (sym e))
    (cases_lt (o.v2 % 32) bound)

-- ---- where the amount is known

greatest_fits : (v m : ℕ) → v < 2 ^ 32 → m < 2 ^ 32 → greatest v m < 2 ^ 32
greatest_fits v m p q = or_lt 32 v m p q

differing_bit :
    (o : Operands) (shifted : ℕ → ℕ) (i : ℕ) → AreWords o → MovesAt shifted i →
    min (bit_at (shifted (greatest o.v1 o.m1)) i) (1 - bit_at (shifted (least o.v1 o.m1)) i) ≡ bit_at (shifted o.m1) i
differing_bit o shifted i words moves = ⊎_elim
    (λ none. omega (arith, none (greatest o.v1 o.m1) (greatest_fits o.v1 o.m1 words.0 words.1), none o.m1 words.1))
    (λ moved.
    ap₂ (λ x y. min x (1 - y))
    (moved.1 (greatest o.v1 o.m1) (greatest_fits o.v1 o.m1 words.0 words.1) ∙ bit_greatest o.v1 o.m1 moved.0)
    (moved.1 (least o.v1 o.m1) (least_fits o.v1 o.m1 words.0) ∙ bit_least o.v1 o.m1 moved.0 words.0 words.1)
    ∙ one (bit_at o.v1 moved.0) (bit_at o.m1 moved.0) (bit_at-lt o.v1 moved.0) (bit_at-lt o.m1 moved.0)
    ∙ sym (moved.1 o.m1 words.1))
    moves
  where
    one : (v m : ℕ) → v < 2 → m < 2 → min (max v m) (1 - min v (1 - m)) ≡ m
    one v m p q = omega arith

pub one_amount :
    (o : Operands) (kind : OpKind) → AreWords o → IsTrue (is_shift kind) → o.m2 % 32 ≡ 0 →
    op_result kind o.m1 o.v2 ≡ shift_range o kind
one_amount o kind words may known =
    let s : Shifts (op_result kind) = shifts kind may in
    let amount = o.v2 % 32 in
    let most = op_result kind (greatest o.v1 o.m1) amount in
    let fewest = op_result kind (least o.v1 o.m1) amount in
    let most_fits : most < 2 ^ 32 = s.fits (greatest o.v1 o.m1) amount (greatest_fits o.v1 o.m1 words.0 words.1) in
    let fewest_fits : fewest < 2 ^ 32 = s.fits (least o.v1 o.m1) amount (least_fits o.v1 o.m1 words.0) in
    let one : shift_range o kind ≡ bit_and most (flipped fewest) =
    ap₂ bit_and
    (one_after o (λ n. op_result kind (greatest o.v1 o.m1) n) 32 words.3 known (omega arith) (omega arith))
    (one_after o (λ n. flipped (op_result kind (least o.v1 o.m1) n)) 32 words.3 known (omega arith) (omega arith)) in
    sym (s.by_low o.m1 o.v2)
    ∙ same_from_bits (op_result kind o.m1 amount) (bit_and most (flipped fewest))
    (λ i. ⊎_elim
    (λ inside.
    sym (differing_bit o (λ x. op_result kind x amount) i words (s.moves amount i))
    ∙ sym (bit_at_and most (flipped fewest) i ∙ ap (min (bit_at most i)) (bit_flipped fewest i fewest_fits inside)))
    (λ above.
    bit_at_above (op_result kind o.m1 amount) 32 i (s.fits o.m1 amount words.1) above
    ∙ sym (bit_at_and most (flipped fewest) i
    ∙ gone (bit_at most i) (bit_at (flipped fewest) i) (bit_at_above most 32 i most_fits above)))
    (cases_lt i 32))
    ∙ sym one
  where
    gone : (a b : ℕ) → a ≡ 0 → min a b ≡ 0
    gone a b none = omega arith

-- ---- soundness

-- what the operands may be gives no bit that no greatest word gives
clear_bit :
    (o : Operands) (kind : OpKind) (first second i : ℕ) → AreWords o → Shifts (op_result kind) → first < 2 ^ 32 →
    Agree o.m1 o.v1 first → Agree o.m2 o.v2 second →
    bit_at (in_some o (λ n. op_result kind (greatest o.v1 o.m1) n) 32) i ≡ 0 → bit_at (op_result kind first second) i ≡ 0
clear_bit o kind first second i words s p h k none =
    let amount = second % 32 in
    let most : bit_at (op_result kind (greatest o.v1 o.m1) amount) i ≡ 0 =
    clear_in_each o (λ n. op_result kind (greatest o.v1 o.m1) n) i 32 amount none (omega arith)
    (agreeing_amount o second words.3 k) in
    let le : bit_at (op_result kind first amount) i ≤ bit_at (op_result kind (greatest o.v1 o.m1) amount) i =
    shifted_le (λ x. op_result kind x amount) first (greatest o.v1 o.m1) i (s.moves amount i) p
    (greatest_fits o.v1 o.m1 words.0 words.1) (between o.m1 o.v1 first words.0 words.1 h).to in
    ap (λ n. bit_at n i) (sym (s.by_low first second)) ∙ none_of (bit_at (op_result kind first amount) i) _ le most
  where
    none_of : (a b : ℕ) → a ≤ b → b ≡ 0 → a ≡ 0
    none_of a b le e = omega arith

-- and gives each bit that every least word gives
set_bit :
    (o : Operands) (kind : OpKind) (first second i : ℕ) → AreWords o → Shifts (op_result kind) → first < 2 ^ 32 →
    Agree o.m1 o.v1 first → Agree o.m2 o.v2 second → i < 32 →
    bit_at (in_some o (λ n. flipped (op_result kind (least o.v1 o.m1) n)) 32) i ≡ 0 →
    bit_at (op_result kind first second) i ≡ 1
set_bit o kind first second i words s p h k inside none =
    let amount = second % 32 in
    let low_fits : least o.v1 o.m1 < 2 ^ 32 = least_fits o.v1 o.m1 words.0 in
    let turned : 1 - bit_at (op_result kind (least o.v1 o.m1) amount) i ≡ 0 =
    sym (bit_flipped (op_result kind (least o.v1 o.m1) amount) i (s.fits (least o.v1 o.m1) amount low_fits) inside)
    ∙ clear_in_each o (λ n. flipped (op_result kind (least o.v1 o.m1) n)) i 32 amount none (omega arith)
    (agreeing_amount o second words.3 k) in
    let le : bit_at (op_result kind (least o.v1 o.m1) amount) i ≤ bit_at (op_result kind first amount) i =
    shifted_le (λ x. op_result kind x amount) (least o.v1 o.m1) first i (s.moves amount i) low_fits p
    (between o.m1 o.v1 first words.0 words.1 h).from in
    ap (λ n. bit_at n i) (sym (s.by_low first second))
    ∙ one_of _ (bit_at (op_result kind first amount) i) (bit_at-lt (op_result kind first amount) i) le turned
  where
    one_of : (a b : ℕ) → b < 2 → a ≤ b → 1 - a ≡ 0 → b ≡ 1
    one_of a b below le e = omega arith

either_none : (a b : ℕ) → min a b ≡ 0 → (a ≡ 0) ⊎ (b ≡ 0)
either_none zero b e = inl refl
either_none (suc a) zero e = inr refl
either_none (suc a) (suc b) e = absurd (omega (arith, e))

pub range_keeps :
    (o : Operands) (kind : OpKind) → AreWords o → IsTrue (is_shift kind) →
    KeepsMask o (shift_range o kind) (op_result kind)
range_keeps o kind words may first second p q h k i none =
    let s : Shifts (op_result kind) = shifts kind may in
    let mosts = in_some o (λ n. op_result kind (greatest o.v1 o.m1) n) 32 in
    let leasts = in_some o (λ n. flipped (op_result kind (least o.v1 o.m1) n)) 32 in
    ⊎_elim
    (λ inside. ⊎_elim
    (λ clear.
    clear_bit o kind o.v1 o.v2 i words s words.0 (λ j e. refl) (λ j e. refl) clear
    ∙ sym (clear_bit o kind first second i words s p h k clear))
    (λ set.
    set_bit o kind o.v1 o.v2 i words s words.0 (λ j e. refl) (λ j e. refl) inside set
    ∙ sym (set_bit o kind first second i words s p h k inside set))
    (either_none (bit_at mosts i) (bit_at leasts i) (sym (bit_at_and mosts leasts i) ∙ none)))
    (λ above.
    bit_at_above (op_result kind o.v1 o.v2) 32 i (s.fits o.v1 o.v2 words.0) above
    ∙ sym (bit_at_above (op_result kind first second) 32 i (s.fits first second p) above))
    (cases_lt i 32)

-- ---- nowhere wider than table 1

narrower_by :
    (range shifted low : ℕ) → (low ≡ 0 → shifted ≡ range) →
    bit_and range (flipped (if low == 0 then shifted else 4294967295)) ≡ 0
narrower_by range shifted zero same =
    subst (λ x. bit_and x (flipped shifted) ≡ 0) (same refl) (none_outside shifted)
narrower_by range shifted (suc low) same =
    let all : (if suc low == 0 then shifted else 4294967295) ≡ 4294967295 = grind arith in
    ap (λ x. bit_and range (flipped x)) all ∙ and_zero_r range

-- the mask has no bit that the mask of table 1 has not
pub range_is_narrower :
    (o : Operands) (kind : OpKind) → AreWords o → IsTrue (is_shift kind) →
    bit_and (shift_range o kind) (flipped (shift_mask o kind)) ≡ 0
range_is_narrower o kind words may =
    narrower_by (shift_range o kind) (op_result kind o.m1 o.v2) (o.m2 % 32)
    (one_amount o kind words may)

pub keeps_by_range :
    (o : Operands) (kind : OpKind) (mask : ℕ) → AreWords o → IsTrue (is_shift kind) → mask ≡ shift_range o kind →
    KeepsMask o mask (op_result kind)
keeps_by_range o kind mask words may e =
    subst (λ x. KeepsMask o x (op_result kind)) (sym e) (range_keeps o kind words may)

-- ---- the mask is a word

some_fits :
    (o : Operands) (word_of : ℕ → ℕ) (bound : ℕ) → ((amount : ℕ) → word_of amount < 2 ^ 32) →
    in_some o word_of bound < 2 ^ 32
some_fits o word_of zero fits = omega (arith, amounts_none o word_of)
some_fits o word_of (suc bound) fits =
    let before : in_some o word_of bound < 2 ^ 32 = some_fits o word_of bound fits in
    ⊎_elim
    (λ taken. subst (λ n. n < 2 ^ 32) (sym (amounts_more o word_of bound taken))
    (or_lt 32 (in_some o word_of bound) (word_of bound) before (fits bound)))
    (λ skipped. subst (λ n. n < 2 ^ 32) (sym (amounts_skip o word_of bound skipped)) before)
    (cases_Bool (may_shift_by o bound))

pub range_fits : (o : Operands) (kind : OpKind) → AreWords o → IsTrue (is_shift kind) → shift_range o kind < 2 ^ 32
range_fits o kind words may =
    let mosts = in_some o (λ n. op_result kind (greatest o.v1 o.m1) n) 32 in
    let leasts = in_some o (λ n. flipped (op_result kind (least o.v1 o.m1) n)) 32 in
    let small : mosts < 2 ^ 32 =
    some_fits o (λ n. op_result kind (greatest o.v1 o.m1) n) 32
    (λ amount. (shifts kind may).fits (greatest o.v1 o.m1) amount (greatest_fits o.v1 o.m1 words.0 words.1)) in
    omega (arith, small, and_le_l mosts leasts)
