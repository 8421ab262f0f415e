-- The register that is written is read.
use Rattle.std.proofs.Common.{◌≡◌, ◌∙◌, ℕ, ◌+◌, ◌/◌, ◌%◌, ◌<◌, ◌==◌, nat_le, nat_lt, Bool, true, false, List, [], ◌∷◌}
use Rattle.std.proofs.Common.{◌++◌}
use Rattle.std.proofs.Common.{Option, Some, None, refl, ap, arith, inl, inr}
use Rattle.std.specs.Prelude.{option_and_then, if◌then◌else◌}
use Rattle.std.specs.Fmt.{decimal}
use Rattle.std.proofs.lemmas.Fmt.{decimal_digit, decimal_step}
use Rattle.std.proofs.lemmas.Bool.{agree_below_at, and_parts, cases_lt, cond_above, cond_below, eqb-true, leb-true}
use Rattle.flow_base.specs.RegisterNames.{convention_names, plain_names, register_named}
use Rattle.enclosure_regions.specs.Regions.{is_register}
use Rattle.enclosure_regions.specs.Shapes.{not_zero, register_at}
use Rattle.region_learn.specs.RegionTexts.{register_data}

-- one or two digits
abbrev digits : ℕ → List ℕ
digits number = if nat_lt number 10 then (48 + number) ∷ [] else (48 + number / 10) ∷ (48 + number % 10) ∷ []

digits_are : (number : ℕ) → number < 100 → decimal number ≡ digits number
digits_are number small = elim (cases_lt number 10) [
  | inl one ↦ decimal_digit number one ∙ cond_below number 10 _ _ one
  | inr two ↦ decimal_step number two (omega arith)
      ∙ ap (λ (l : List ℕ). l ++ (48 + number % 10) ∷ []) (decimal_digit (number / 10) (omega arith))
      ∙ cond_above number 10 _ _ _ two refl
]

-- a register is read of its digits, if it may be named
abbrev read : ℕ → Option ℕ
read register = option_and_then not_zero (register_named (120 ∷ digits register))

abbrev is_it : ℕ → Option ℕ → Bool
is_it register None = false
is_it register (Some other) = other == register

it_is : (register : ℕ) (found : Option ℕ) → is_it register found ≡ true → found ≡ Some register
it_is register None h = absurd cc
it_is register (Some other) h = ap Some (eqb-true other register h)

read_it : (register : ℕ) → register < 32 → is_it register (read register) ≡ is_register register
unfolding plain_names convention_names
read_it register small =
    agree_below_at (λ (r : ℕ). is_it r (read r)) is_register 32 register refl small

pub register_own : (register : ℕ) → is_register register ≡ true → register_at (register_data register) ≡ Some register
register_own register known =
    let above = and_parts (nat_le 1 register) (nat_le register 31) known in
    let small : register < 32 = omega (arith, leb-true register 31 above.1) in
    let same : register_at (register_data register) ≡ read register =
    ap (λ (l : List ℕ). option_and_then not_zero (register_named (120 ∷ l))) (digits_are register (omega arith)) in
    same ∙ it_is register (read register) (read_it register small ∙ known)
