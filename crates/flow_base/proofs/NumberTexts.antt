-- A decimal text is read as the number that it is written from, and as no other.
use Rattle.std.proofs.Common.{◌≡◌, ℕ, ◌+◌, ◌-◌, ◌*◌, ◌/◌, ◌%◌, ◌^◌, ◌<◌, ◌≤◌, nat_lt, Bool, true, false, List, [], ◌∷◌}
use Rattle.std.proofs.Common.{◌++◌, ◌&&◌, length, get_or, if◌then◌else◌, Option, Some, None, refl, sym, ◌∙◌, ap, subst}
use Rattle.std.proofs.Common.{append_assoc, arith, rules, inl, inr}
use Rattle.std.specs.Prelude.{IfSome}
use Rattle.std.specs.Fmt.{decimal}
use Rattle.std.specs.Str.{all_ascii_digits}
use Rattle.std.proofs.lemmas.Fmt.{decimal-digits_value, decimal_by_steps, decimal_digit, first_decimal}
use Rattle.std.proofs.lemmas.Str.Parse.{IsNumeralModel, numerals_by_fold}
use Rattle.std.proofs.lemmas.Bool.{and_parts, cases_Bool, cases_eq, lt-ltb, ltb-true, ne_eqb}
use Rattle.std.proofs.lemmas.List.{append-nil}
use Rattle.flow_base.specs.TextWords.{begins_with_digit, digits_at, grown, has_no_leading_zero, is_digit, is_nothing}
use Rattle.flow_base.specs.TextWords.{number_at, number_in}

-- ---- what is written is read

digit_step : (number digit : ℕ) (rest : List ℕ) → digit < 10 → number < 2 ^ 48 →
    digits_at number ((48 + digit) ∷ rest) ≡ digits_at (number * 10 + digit) rest
unfolding grown
digit_step number digit rest small fits = grind arith

abbrev ReadsBack : ℕ → List ℕ → Type 0
ReadsBack number digits = (rest : List ℕ) → number < 2 ^ 48 → digits_at 0 (digits ++ rest) ≡ digits_at number rest

one_digit : (number : ℕ) → number < 10 → ReadsBack number ((48 + number) ∷ [])
one_digit number small rest fits =
    digit_step 0 number rest small (omega arith)
    ∙ ap (λ (n : ℕ). digits_at n rest) (let e : 0 * 10 + number ≡ number = omega arith in e)

more_digits : (number : ℕ) (digits : List ℕ) → 10 ≤ number → ReadsBack (number / 10) digits →
    ReadsBack number (digits ++ ((48 + number % 10) ∷ []))
more_digits number digits large ih rest fits =
    let e : number / 10 * 10 + number % 10 ≡ number = omega arith in
    rw append_assoc (ih ((48 + number % 10) ∷ rest) (omega arith)
    ∙ digit_step (number / 10) (number % 10) rest (omega arith) (omega arith) ∙ ap (λ (n : ℕ). digits_at n rest) e)

stops : (number : ℕ) (rest : List ℕ) → begins_with_digit rest ≡ false → digits_at number rest ≡ (number, rest)
stops number [] other = refl
stops number (byte ∷ rest) other = rw other refl

pub number_first : (number : ℕ) (rest : List ℕ) → number < 2 ^ 48 → begins_with_digit rest ≡ false →
    number_at (decimal number ++ rest) ≡ (number, rest)
unfolding number_at
number_first number rest small other =
    decimal_by_steps ReadsBack one_digit more_digits number (omega arith) rest small ∙ stops number rest other

no_leading_zero : (word : List ℕ) → 48 < get_or word 0 0 → has_no_leading_zero word ≡ true
no_leading_zero [] above = absurd (omega (arith, above))
no_leading_zero (byte ∷ []) above = refl
no_leading_zero (byte ∷ (next ∷ bytes)) above = rw (ne_eqb byte 48 (λ e. omega (arith, e, above))) refl

decimal_leads : (number : ℕ) → number < 4294967296 → has_no_leading_zero (decimal number) ≡ true
decimal_leads number small =
    elim (cases_eq number 0) [
      | inl zero ↦ ap (λ (n : ℕ). has_no_leading_zero (decimal n)) zero
          ∙ ap has_no_leading_zero (decimal_digit 0 (omega arith))
      | inr other ↦ no_leading_zero (decimal number) (first_decimal number (omega (arith, other)) (omega arith))
    ]

pub number_own : (number : ℕ) → number < 4294967296 → number_in (decimal number) ≡ Some number
unfolding number_in
number_own number small =
    let front : number_at (decimal number) ≡ (number, []) =
    ap number_at (sym (append-nil (decimal number))) ∙ number_first number [] (omega arith) refl in
    rw (front, decimal_leads number small, lt-ltb number 4294967296 small) refl

-- ---- what is read was written

read_on : ℕ → List ℕ → ℕ
read_on number [] = number
read_on number (byte ∷ bytes) = read_on (10 * number + (byte - 48)) bytes

own : IsNumeralModel (λ ds. all_ascii_digits ds ≡ true) (read_on 0)
unfolding read_on
own = numerals_by_fold _ (search rules) read_on (search rules)

grown_more : (number byte : ℕ) → number ≤ grown number byte
unfolding grown
grown_more number byte = grind arith

digits_more : (number : ℕ) (bytes : List ℕ) → number ≤ (digits_at number bytes).0
digits_more number [] = omega arith
digits_more number (byte ∷ bytes) =
    elim (cases_Bool (is_digit byte)) [
      | inl digit ↦ rw digit (omega (arith, grown_more number byte, digits_more (grown number byte) bytes))
      | inr other ↦ rw other (omega arith)
    ]

-- digits alone, and their number
abbrev IsRead : ℕ → List ℕ → Type 0
IsRead number bytes =
    is_nothing (digits_at number bytes).1 ≡ true → (digits_at number bytes).0 < 2 ^ 48 →
    (all_ascii_digits bytes ≡ true) × (read_on number bytes ≡ (digits_at number bytes).0)

grown_small : (number byte : ℕ) → number < 2 ^ 48 → grown number byte ≡ 10 * number + (byte - 48)
unfolding grown
grown_small number byte small = grind arith

digits_read : (number : ℕ) (bytes : List ℕ) → IsRead number bytes
unfolding read_on
digits_read number [] = λ nothing. λ small. (refl, refl)
digits_read number (byte ∷ bytes) =
    elim (cases_Bool (is_digit byte)) [
      | inl digit ↦ rw digit (λ nothing. λ small.
          let fits : number < 2 ^ 48 = omega (arith, small, grown_more number byte, digits_more (grown number byte) bytes) in
          let inner = digits_read (grown number byte) bytes nothing small in
          (inner.0, ap (λ (n : ℕ). read_on n bytes) (sym (grown_small number byte fits)) ∙ inner.1))
      | inr other ↦ rw other (λ nothing. λ small. absurd cc)
    ]

pub record IsNumberOf (word : List ℕ) (number : ℕ) : Type 0 where
  pub text : word ≡ decimal number
  pub small : number < 4294967296

some_bytes : (word : List ℕ) → has_no_leading_zero word ≡ true → 0 < length word
some_bytes [] plain = absurd cc
some_bytes (byte ∷ bytes) plain = omega arith

zero_alone : (word : List ℕ) → has_no_leading_zero word ≡ true → get_or word 0 0 ≡ 48 → length word ≡ 1
zero_alone [] plain zero = absurd cc
zero_alone (byte ∷ []) plain zero = refl
zero_alone (byte ∷ (next ∷ bytes)) plain zero = absurd (grind (arith, zero))

number_read : (word : List ℕ) → is_nothing (number_at word).1 ≡ true → has_no_leading_zero word ≡ true →
    (number_at word).0 < 4294967296 → word ≡ decimal (number_at word).0
unfolding number_at
number_read word nothing plain small =
    let read = digits_read 0 word nothing (omega (arith, small)) in
    sym (decimal-digits_value own word read.0 (some_bytes word plain) (zero_alone word plain) (omega (arith, read.1, small)))
    ∙ ap decimal read.1

number_or : Option ℕ → ℕ
number_or None = 0
number_or (Some n) = n

pub gate : (test : Bool) (value answer : ℕ) → (if test then Some value else None) ≡ Some answer →
    (test ≡ true) × (value ≡ answer)
unfolding number_or
gate true value answer e = (refl, ap number_or e)
gate false value answer e = absurd cc

pub number_found : (word : List ℕ) (number : ℕ) → number_in word ≡ Some number → IsNumberOf word number
unfolding number_in
number_found word number e =
    let passed = gate (is_nothing (number_at word).1 && (has_no_leading_zero word && nat_lt (number_at word).0 4294967296))
    (number_at word).0 number e in
    let tests = and_parts (is_nothing (number_at word).1) _ passed.0 in
    let more = and_parts (has_no_leading_zero word) _ tests.1 in
    let small : (number_at word).0 < 4294967296 = ltb-true (number_at word).0 4294967296 more.1 in
    record {
      text = number_read word tests.0 more.0 small ∙ ap decimal passed.1;
      small = subst (λ (n : ℕ). n < 4294967296) passed.1 small;
    }

-- ---- what the contract says

pub number_is : (word : List ℕ) (found : Option ℕ) → found ≡ number_in word → IfSome found (λ number. word ≡ decimal number)
number_is word None e = search rules
number_is word (Some number) e = (number_found word number (sym e)).text

pub number_is_none : (word : List ℕ) (found : Option ℕ) → found ≡ number_in word → found ≡ None →
    (number : ℕ) → number < 2 ^ 32 → ¬ (word ≡ decimal number)
number_is_none word found e none number small text =
    let read : number_in word ≡ Some number = ap number_in text ∙ number_own number (omega (arith, small)) in
    absurd (let never : Some number ≡ None = sym read ∙ (sym e ∙ none) in cc)
