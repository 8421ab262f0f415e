-- A word that is the decimal text of a number has its digits' value.
use Rattle.std.proofs.Common.{◌≡◌, ◌∙◌, ◌<◌, ◌≤◌, ◌^◌, ◌&&◌, ℕ, List, Bool, true, false, Some, None, nat_le, ap, refl, arith, if◌then◌else◌}
use Rattle.std.proofs.lemmas.Bool.{and_parts, leb-true}
use Rattle.std.proofs.lemmas.Bool.Decides.{nat_tests}
use Rattle.std.proofs.lemmas.Fmt.{decimal_is_IsNumeral}
use Rattle.std.proofs.lemmas.Slice.Eq.{bytes_eq-Decides}
use Rattle.std.specs.Fmt.{decimal}
use Rattle.std.specs.Str.{bytes_eq}
use Rattle.std.specs.Str.Parse.{digits_value}
use Rattle.command_line.specs.CommandLines.{number_within}

number_found : (lowest highest number : ℕ) (word : List ℕ) → number < 2 ^ 32 → word ≡ decimal number →
    number_within lowest highest word ≡ (if nat_le lowest number && nat_le number highest then Some number else None)
number_found lowest highest number word small e =
    let value : digits_value 10 word ≡ number = ap (λ w. digits_value 10 w) e ∙ (decimal_is_IsNumeral number (omega (arith, small))).1 in
    let same : bytes_eq word (decimal number) ≡ true = (bytes_eq-Decides word (decimal number)).1 e in
    rw (value, same) refl

pub number_kept : (lowest highest number : ℕ) (word : List ℕ) → number < 2 ^ 32 → word ≡ decimal number →
    lowest ≤ number → number ≤ highest → number_within lowest highest word ≡ Some number
number_kept lowest highest number word small e low high =
    let test : (nat_le lowest number && nat_le number highest) ≡ true = grind (arith, nat_tests, low, high) in
    number_found lowest highest number word small e ∙ rw test refl

pub number_low : (lowest highest number : ℕ) (word : List ℕ) → number < 2 ^ 32 → word ≡ decimal number →
    number < lowest → number_within lowest highest word ≡ None
number_low lowest highest number word small e low =
    let test : (nat_le lowest number && nat_le number highest) ≡ false = grind (arith, nat_tests, low) in
    number_found lowest highest number word small e ∙ rw test refl

pub number_high : (lowest highest number : ℕ) (word : List ℕ) → number < 2 ^ 32 → word ≡ decimal number →
    highest < number → number_within lowest highest word ≡ None
number_high lowest highest number word small e high =
    let test : (nat_le lowest number && nat_le number highest) ≡ false = grind (arith, nat_tests, high) in
    number_found lowest highest number word small e ∙ rw test refl

pub number_none : (lowest highest : ℕ) (word : List ℕ) → highest < 2 ^ 32 →
    ((number : ℕ) → number < 2 ^ 32 → word ≡ decimal number → ⊥) → number_within lowest highest word ≡ None
number_none lowest highest word small none = by _ refl
  where
    by : (test : Bool) → (bytes_eq word (decimal (digits_value 10 word))
        && (nat_le lowest (digits_value 10 word) && nat_le (digits_value 10 word) highest)) ≡ test →
        (if test then Some (digits_value 10 word) else None) ≡ None
    by true e =
        let both = and_parts _ _ e in
        let range = and_parts _ _ both.1 in
        let high = leb-true (digits_value 10 word) highest range.1 in
        absurd (none (digits_value 10 word) (omega (arith, high, small)) ((bytes_eq-Decides word (decimal (digits_value 10 word))).0 both.0))
    by false e = refl
