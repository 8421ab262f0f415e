-- A sum of powers of two in units of one of them, rounded up.
use Rattle.std.specs.Prelude.{ℕ, ◌*◌, ◌^◌, ◌≤◌, List, [], ◌∷◌}
use Rattle.std.specs.List.{sum_by}

-- so many units of 2 ^ places are the least that are as much as an amount
pub record IsCeiling (amount places units : ℕ) : Type 0 where
  pub enough : (other : ℕ) → units ≤ other → amount ≤ other * 2 ^ places
  pub least : (other : ℕ) → amount ≤ other * 2 ^ places → units ≤ other

-- the sum of 2 to each of these
abbrev pub sum_of_powers : List ℕ → ℕ
sum_of_powers exponents = sum_by (λ exponent. 2 ^ exponent) exponents

-- numbers that do not fall, from one number to another
abbrev pub Ascend : ℕ → ℕ → List ℕ → Type 0
Ascend low high [] = low ≤ high
Ascend low high (exponent ∷ exponents) = (low ≤ exponent) × Ascend exponent high exponents
