-- Numbers of digits, up to a bound.
use Rattle.std.proofs.Common.{◌≡◌, ℕ, ◌+◌, ◌*◌, ◌<◌, ◌≤◌, ◌⊎◌, inl, inr, min, nat_lt, Bool, true, false, cond, List}
use Rattle.std.proofs.Common.{[], ◌∷◌, option_map, None, Some, Option, ℤ, refl, ap, arith}
use Rattle.std.proofs.lemmas.Grind.{common_steps}
use Rattle.std.proofs.Math.Nat.{le-mul_of_pos_right}
use Rattle.std.specs.Option.{option_and_then}
use Rattle.flow_base.specs.HexWords.{digit_of}
use Rattle.rv32im_asm.specs.Operands.{at_most, digits_after}

abbrev pub bound : ℕ
bound = 4294967296

grown_same : (base digit m n : ℕ) → 1 ≤ base → min bound m ≡ min bound n
    → min bound (m * base + digit) ≡ min bound (n * base + digit)
grown_same base digit m n some same =
    let first : m ≤ m * base = le-mul_of_pos_right m (omega arith) in
    let second : n ≤ n * base = le-mul_of_pos_right n (omega arith) in
    let cases : (m ≡ n) ⊎ ((bound ≤ m) × (bound ≤ n)) = grind arith in
    elim cases [ inl equal ↦ ap (λ k. min bound (k * base + digit)) equal | inr high ↦ omega (arith, high.0, high.1) ]

bounded_step : (b : Bool) (base byte : ℕ) (rest : List ℕ) (m n : ℕ)
    → option_map (min bound) (digits_after base (m * base + digit_of byte) rest)
    ≡ option_map (min bound) (digits_after base (n * base + digit_of byte) rest)
    → option_map (min bound) (cond b (digits_after base (m * base + digit_of byte) rest) None)
    ≡ option_map (min bound) (cond b (digits_after base (n * base + digit_of byte) rest) None)
bounded_step true base byte rest m n known = known
bounded_step false base byte rest m n known = refl

-- numbers that are the same up to the bound stay so as digits follow
pub digits_bounded : (base : ℕ) → 1 ≤ base → (rest : List ℕ) (m n : ℕ) → min bound m ≡ min bound n
    → option_map (min bound) (digits_after base m rest) ≡ option_map (min bound) (digits_after base n rest)
digits_bounded base some [] m n same = ap Some same
digits_bounded base some (byte ∷ rest) m n same =
    bounded_step (nat_lt (digit_of byte) base) base byte rest m n
    (digits_bounded base some rest (m * base + digit_of byte) (n * base + digit_of byte)
    (grown_same base (digit_of byte) m n some same))

-- a magnitude up to the bound is at most what is below the bound where the magnitude is
at_most_min : (limit m : ℕ) (sign : ℕ → ℤ) → limit < bound → at_most limit sign (min bound m) ≡ at_most limit sign m
at_most_min limit m sign low = grind (arith, common_steps)

pub and_then_min : (limit : ℕ) (sign : ℕ → ℤ) (found : Option ℕ) → limit < bound
    → option_and_then (at_most limit sign) (option_map (min bound) found) ≡ option_and_then (at_most limit sign) found
and_then_min limit sign None low = refl
and_then_min limit sign (Some m) low = at_most_min limit m sign low

pub ruleset bounded = (and_then_min)
