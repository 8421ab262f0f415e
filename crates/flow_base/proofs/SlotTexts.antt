-- The text of a slot is read as that slot, and as no other.
use Rattle.std.proofs.Common.{◌≡◌, ℕ, ◌+◌, ◌%◌, ◌/◌, ◌^◌, ◌<◌, ◌≤◌, ◌&&◌, Bool, true, false, List, [], ◌∷◌, ◌++◌}
use Rattle.std.proofs.Common.{◌==◌, length, get_or, if◌then◌else◌, Option, Some, None, refl, sym, ◌∙◌, ap, subst, arith, inl, inr, rules}
use Rattle.std.specs.Prelude.{IfSome}
use Rattle.std.specs.Fmt.{decimal}
use Rattle.std.specs.Str.{bytes_eq}
use Rattle.std.proofs.lemmas.Fmt.{decimal_by_steps, decimal_injective}
use Rattle.std.proofs.lemmas.Slice.Eq.{bytes_eq-Decides}
use Rattle.std.proofs.lemmas.Bool.{and_parts, both_ways, cases_Bool, cases_eq, eq-eqb, lt-ltb, ltb-true, ne_eqb}
use Rattle.std.proofs.lemmas.List.{append-nil, append_cancel_left}
use Rattle.flow_base.specs.declared.points.Slot.{Slot}
use Rattle.flow_base.specs.declared.points.Slot.TheVariants.{First, Second, Address, Result, Decision, Number, Arg0}
use Rattle.flow_base.specs.declared.points.Slot.TheVariants.{Arg1, Arg2, SecretIn, ByteOut, Status, OutReg, OutRange}
use Rattle.flow_base.specs.Points.{is_slot, slot_text}
use Rattle.flow_base.specs.TextPieces.{after_text}
use Rattle.flow_base.specs.TextWords.{begins_with_digit, is_digit, short_number, slot_at, slot_in}
use Rattle.flow_base.proofs.NumberTexts.{number_first}
use Rattle.flow_base.proofs.WantedTexts.{after_found, after_own}

-- a number begins with a digit
record Begins (number : ℕ) (digits : List ℕ) : Type 0 where
  some : 0 < length digits
  digit : is_digit (get_or digits 0 0) ≡ true

one_begins : (number : ℕ) → number < 10 → Begins number ((48 + number) ∷ [])
one_begins number small = record { some = omega arith; digit = grind arith }

more_begin : (number : ℕ) (digits : List ℕ) → 10 ≤ number → Begins (number / 10) digits →
    Begins number (digits ++ ((48 + number % 10) ∷ []))
more_begin number [] large ih = absurd (let some = ih.some in omega (arith, some))
more_begin number (digit ∷ digits) large ih = record { some = omega arith; digit = ih.digit }

begins_before : (digits rest : List ℕ) → 0 < length digits → is_digit (get_or digits 0 0) ≡ true →
    is_digit (get_or (digits ++ rest) 0 0) ≡ true
begins_before [] rest some begins = absurd (omega arith)
begins_before (digit ∷ digits) rest some begins = begins

pub decimal_begins : (number : ℕ) (rest : List ℕ) → number < 2 ^ 48 →
    is_digit (get_or (decimal number ++ rest) 0 0) ≡ true
decimal_begins number rest small =
    let begins = decimal_by_steps Begins one_begins more_begin number (omega arith) in
    begins_before (decimal number) rest begins.some begins.digit

short_own : (number : ℕ) → number < 256 → short_number number ≡ number
short_own number small = rw (lt-ltb number 256 small) refl

pub slot_first : (slot : Slot) (rest : List ℕ) → is_slot slot ≡ true → begins_with_digit rest ≡ false →
    slot_at (slot_text slot ++ rest) ≡ (slot, rest)
unfolding slot_at
slot_first First rest known other = refl
slot_first Second rest known other = refl
slot_first Address rest known other = refl
slot_first Result rest known other = refl
slot_first Decision rest known other = refl
slot_first Number rest known other = refl
slot_first Arg0 rest known other = refl
slot_first Arg1 rest known other = refl
slot_first Arg2 rest known other = refl
slot_first SecretIn rest known other = refl
slot_first ByteOut rest known other = refl
slot_first Status rest known other = refl
slot_first (OutReg register) rest known other =
    let small : register < 256 = grind arith in
    rw (number_first register rest (omega arith) other, short_own register small) refl
slot_first (OutRange range) rest known other =
    let small : range < 64 = ltb-true range 64 known in
    rw (
      decimal_begins range rest (omega arith),
      number_first range rest (omega arith) other,
      short_own range (omega arith),
    ) refl

pub slot_own : (slot : Slot) → is_slot slot ≡ true → slot_in (slot_text slot) ≡ Some slot
unfolding slot_in
slot_own slot known =
    let front : slot_at (slot_text slot) ≡ (slot, []) =
    ap slot_at (sym (append-nil (slot_text slot))) ∙ slot_first slot [] known refl in
    let equal : bytes_eq (slot_text slot) (slot_text slot) ≡ true = (bytes_eq-Decides (slot_text slot) (slot_text slot)).1 refl in
    rw (front, known, equal) refl

-- ---- what is read was written

pub record IsSlotOf (bytes : List ℕ) (slot : Slot) : Type 0 where
  pub text : bytes ≡ slot_text slot
  pub known : is_slot slot ≡ true

slot_or : Option Slot → Slot
slot_or None = First
slot_or (Some slot) = slot

gate : (test : Bool) (value answer : Slot) → (if test then Some value else None) ≡ Some answer →
    (test ≡ true) × (value ≡ answer)
unfolding slot_or
gate true value answer e = (refl, ap slot_or e)
gate false value answer e = absurd cc

pub slot_found : (bytes : List ℕ) (slot : Slot) → slot_in bytes ≡ Some slot → IsSlotOf bytes slot
unfolding slot_in
slot_found bytes slot e =
    let passed = gate (is_slot (slot_at bytes).0 && bytes_eq bytes (slot_text (slot_at bytes).0)) (slot_at bytes).0 slot e in
    let tests = and_parts (is_slot (slot_at bytes).0) _ passed.0 in
    let text : bytes ≡ slot_text (slot_at bytes).0 = (bytes_eq-Decides bytes (slot_text (slot_at bytes).0)).0 tests.1 in
    record {
      text = text ∙ ap slot_text passed.1;
      known = subst (λ (s : Slot). is_slot s ≡ true) passed.1 tests.0;
    }

-- ---- what the contract says

pub slot_is : (word : List ℕ) (found : Option Slot) → found ≡ slot_in word → IfSome found (λ slot. word ≡ slot_text slot)
slot_is word None e = search rules
slot_is word (Some slot) e = (slot_found word slot (sym e)).text

pub slot_is_known : (word : List ℕ) (found : Option Slot) → found ≡ slot_in word → IfSome found (λ slot. is_slot slot ≡ true)
slot_is_known word None e = search rules
slot_is_known word (Some slot) e = (slot_found word slot (sym e)).known

pub slot_is_none : (word : List ℕ) (found : Option Slot) → found ≡ slot_in word → found ≡ None →
    (slot : Slot) → is_slot slot ≡ true → ¬ (word ≡ slot_text slot)
slot_is_none word found e none slot known text =
    let read : slot_in word ≡ Some slot = ap slot_in text ∙ slot_own slot known in
    absurd (let never : Some slot ≡ None = sym read ∙ (sym e ∙ none) in cc)

-- ---- whether a word is the text of a slot

different : (xs ys : List ℕ) → (xs ≡ ys → ⊥) → bytes_eq xs ys ≡ false
different xs ys never =
    elim (cases_Bool (bytes_eq xs ys)) [
      | inl equal ↦ absurd (never ((bytes_eq-Decides xs ys).0 equal))
      | inr other ↦ other
    ]

pub after_same : (name word digits number : List ℕ) → after_text name word ≡ Some digits →
    bytes_eq digits number ≡ bytes_eq word (name ++ number)
after_same name word digits number e =
    let text = after_found name word digits e in
    elim (cases_Bool (bytes_eq digits number)) [
      | inl equal ↦ equal ∙ sym ((bytes_eq-Decides word (name ++ number)).1
          (text ∙ ap (λ (l : List ℕ). name ++ l) ((bytes_eq-Decides digits number).0 equal)))
      | inr other ↦ other ∙ sym (different word (name ++ number) (λ same. both_ways (bytes_eq digits number) other
          ((bytes_eq-Decides digits number).1 (append_cancel_left name digits number (sym text ∙ same)))))
    ]

pub after_different : (name word number : List ℕ) → after_text name word ≡ None →
    false ≡ bytes_eq word (name ++ number)
after_different name word number e =
    sym (different word (name ++ number) (λ same. absurd (
    let never : Some number ≡ None = sym (ap (after_text name) same ∙ after_own name number) ∙ e in cc)))

pub decimal_same : (number : ℕ) (digits : List ℕ) (found : ℕ) → number < 256 → found < 2 ^ 32 →
    digits ≡ decimal found → (found == number) ≡ bytes_eq digits (decimal number)
decimal_same number digits found small fits text =
    elim (cases_eq found number) [
      | inl same ↦ eq-eqb found number same ∙ sym ((bytes_eq-Decides digits (decimal number)).1 (text ∙ ap decimal same))
      | inr other ↦ ne_eqb found number other ∙ sym (different digits (decimal number) (λ e. other
          (decimal_injective found number (omega (arith, fits)) (omega (arith, small)) (sym text ∙ e))))
    ]
