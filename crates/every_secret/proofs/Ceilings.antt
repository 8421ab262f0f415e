-- Sums of powers of two in units of one of them, rounded up.
use Rattle.std.proofs.Common.{◌≡◌, ⊎_elim, ℕ, zero, suc, ◌+◌, ◌-◌, ◌*◌, ◌/◌, ◌%◌, ◌^◌, ◌≤◌, ◌<◌, List, [], ◌∷◌}
use Rattle.std.proofs.Common.{sym, ap, subst, ◌∙◌, arith, length, take, drop, get_or, All}
use Rattle.std.specs.List.{AllByRecursion}
use Rattle.std.specs.List.Sorted.{IsNonDecreasing}
use Rattle.std.proofs.lemmas.List.{take_all}
use Rattle.std.proofs.lemmas.List.Elements.{recursion_from_All}
use Rattle.std.proofs.lemmas.List.Sums.{sum_by-cons}
use Rattle.std.proofs.lemmas.Nat.{pow_pos, pow-add}
use Rattle.std.proofs.Math.Nat.{pow-suc, mul_assoc, suc-mul, le-mul_of_pos_right}
use Rattle.std.proofs.Math.Pow.{pow-lt}
use Rattle.crossing_bits.proofs.Feeding.{le_or_lt}
use Rattle.every_secret.specs.Bounds.{IsLeastPower}
use Rattle.every_secret.specs.Private.Numbers.{Ascend, IsCeiling, sum_of_powers}

twice : (n left : ℕ) → n * 2 ^ suc left ≡ 2 * (n * 2 ^ left)
twice n left =
    let whole : n * 2 ^ suc left ≡ n * (2 ^ left * 2) = ap (λ p. n * p) (pow-suc 2 left) in
    let apart : n * 2 ^ left * 2 ≡ n * (2 ^ left * 2) = mul_assoc n (2 ^ left) 2 in
    omega (arith, whole, apart)

-- ---- units are halved until no places are left

-- so many are left of units, where so many places are left
pub record Rounds (units places left rounded : ℕ) : Type 0 where
  pub enough : (other : ℕ) → rounded ≤ other * 2 ^ left → units ≤ other * 2 ^ places
  pub least : (other : ℕ) → units ≤ other * 2 ^ places → rounded ≤ other * 2 ^ left

pub rounds_start : (units places : ℕ) → Rounds units places places units
rounds_start units places = record { enough = λ other h. h; least = λ other h. h }

pub rounds_half : (units places left rounded : ℕ) → 0 < left → Rounds units places left rounded →
    Rounds units places (left - 1) (rounded / 2 + rounded % 2)
rounds_half units places left rounded some rounds = halved (left - 1) (omega arith)
  where
    halved : (less : ℕ) → suc less ≡ left → Rounds units places less (rounded / 2 + rounded % 2)
    halved less is = record {
      enough = λ other h. rounds.enough other
          (subst (λ n. rounded ≤ other * 2 ^ n) is (omega (arith, h, twice other less)));
      least = λ other h.
          let before : rounded ≤ other * 2 ^ suc less =
          subst (λ n. rounded ≤ other * 2 ^ n) (sym is) (rounds.least other h) in
          omega (arith, before, twice other less);
    }

pub rounds_end : (units places left rounded : ℕ) → (1 < rounded → left ≡ 0) → Rounds units places left rounded →
    IsCeiling units places rounded
rounds_end units places left rounded done rounds = record {
  enough = λ other h. rounds.enough other (omega (arith, h, le-mul_of_pos_right other (pow_pos left)));
  least = λ other h. few other (rounds.least other h);
}
  where
    few : (other : ℕ) → rounded ≤ other * 2 ^ left → rounded ≤ other
    few zero h = omega (arith, h)
    few (suc n) h = ⊎_elim (λ (one : rounded ≤ 1). omega (arith, one))
        (λ (many : 1 < rounded).
        let none : suc n * 2 ^ left ≡ suc n * 1 = ap (λ i. suc n * 2 ^ i) (done many) in omega (arith, h, none))
        (le_or_lt rounded 1)

-- ---- the bits for units

pub record Halves (units bits rounded : ℕ) : Type 0 where
  pub ceiling : IsCeiling units bits rounded
  pub least : (fewer : ℕ) → units ≤ 2 ^ fewer → bits ≤ fewer
  pub falls : bits + rounded ≤ units

pub halves_start : (units : ℕ) → Halves units 0 units
halves_start units = record {
  ceiling = record { enough = λ other h. omega (arith, h); least = λ other h. omega (arith, h) };
  least = λ fewer h. omega arith;
  falls = omega arith;
}

pub halves_more : (units bits rounded : ℕ) → 1 < rounded → Halves units bits rounded →
    Halves units (bits + 1) (rounded / 2 + rounded % 2)
halves_more units bits rounded many halves =
    subst (λ n. Halves units n (rounded / 2 + rounded % 2)) one (record {
      ceiling = record {
        enough = λ other h.
            let before = halves.ceiling.enough (2 * other) (omega (arith, h)) in
            omega (arith, before, shifted other);
        least = λ other h.
            let before = halves.ceiling.least (2 * other) (omega (arith, h, shifted other)) in omega (arith, before);
      };
      least = λ fewer h. more fewer h;
      falls = omega (arith, halves.falls, many);
    })
  where
    one : suc bits ≡ bits + 1
    one = omega arith

    shifted : (other : ℕ) → 2 * other * 2 ^ bits ≡ other * 2 ^ suc bits
    shifted other = mul_assoc 2 other (2 ^ bits) ∙ sym (twice other bits)

    more : (fewer : ℕ) → units ≤ 2 ^ fewer → suc bits ≤ fewer
    more fewer h = ⊎_elim (λ (enough : suc bits ≤ fewer). enough)
        (λ (short : fewer < suc bits).
        let so_far : bits ≤ fewer = halves.least fewer h in
        let same : fewer ≡ bits = omega (arith, so_far, short) in
        let all : units ≤ 2 ^ bits = subst (λ n. units ≤ 2 ^ n) same h in
        let only : rounded ≤ 1 = halves.ceiling.least 1 (omega (arith, all)) in
        absurd (omega (arith, only, many)))
        (le_or_lt (suc bits) fewer)

pub halves_end : (units bits rounded : ℕ) → rounded ≤ 1 → Halves units bits rounded → IsLeastPower units bits
halves_end units bits rounded few halves = record {
  enough = let all = halves.ceiling.enough 1 few in omega (arith, all);
  least = halves.least;
}

-- ---- the powers are added up from the least

-- the sum of the first of the powers in units of the last of them, rounded up, and what is left to add
pub record Adds (high : ℕ) (exponents rest : List ℕ) (places units : ℕ) : Type 0 where
  pub sum : ℕ
  pub whole : sum + sum_of_powers rest ≡ sum_of_powers exponents
  pub ceiling : IsCeiling sum places units
  pub reaches : (fewer : ℕ) → sum ≤ 2 ^ fewer → places ≤ fewer
  pub ascend : Ascend places high rest
  pub few : units + length rest ≤ length exponents

pub adds_start : (high : ℕ) (exponents : List ℕ) → Ascend 0 high exponents → Adds high exponents exponents 0 0
adds_start high exponents ascend = record {
  sum = 0;
  whole = omega arith;
  ceiling = record { enough = λ other h. omega arith; least = λ other h. omega arith };
  reaches = λ fewer h. omega arith;
  ascend = ascend;
  few = omega arith;
}

-- of a sum in units of a power, rounded up, and these in units of a greater one
further : (sum places units more rounded : ℕ) → IsCeiling sum places units → IsCeiling units more rounded →
    IsCeiling sum (more + places) rounded
further sum places units more rounded first second = record {
  enough = λ other h.
      let all = first.enough (other * 2 ^ more) (second.enough other h) in omega (arith, all, split other);
  least = λ other h. second.least other (first.least (other * 2 ^ more) (omega (arith, h, split other)));
}
  where
    split : (other : ℕ) → other * 2 ^ more * 2 ^ places ≡ other * 2 ^ (more + places)
    split other = mul_assoc other (2 ^ more) (2 ^ places) ∙ ap (λ p. other * p) (sym (pow-add 2 more places))

-- with one unit more
one_more : (sum places units : ℕ) → IsCeiling sum places units → IsCeiling (sum + 2 ^ places) places (units + 1)
one_more sum places units ceiling = record { enough = enough; least = least }
  where
    enough : (other : ℕ) → units + 1 ≤ other → sum + 2 ^ places ≤ other * 2 ^ places
    enough zero h = absurd (omega (arith, h))
    enough (suc n) h =
        let all = ceiling.enough n (omega (arith, h)) in omega (arith, all, suc-mul n (2 ^ places))

    least : (other : ℕ) → sum + 2 ^ places ≤ other * 2 ^ places → units + 1 ≤ other
    least zero h = absurd (omega (arith, h, pow_pos places))
    least (suc n) h =
        let few = ceiling.least n (omega (arith, h, suc-mul n (2 ^ places))) in omega (arith, few)

pub adds_more : (high : ℕ) (exponents : List ℕ) (exponent : ℕ) (rest : List ℕ) (places units rounded : ℕ) →
    Adds high exponents (exponent ∷ rest) places units → IsCeiling units (exponent - places) rounded →
    Adds high exponents rest exponent (rounded + 1)
adds_more high exponents exponent rest places units rounded adds ceiling = record {
  sum = adds.sum + 2 ^ exponent;
  whole = let parts = sum_by-cons (λ e. 2 ^ e) exponent rest in let before = adds.whole in omega (arith, parts, before);
  ceiling = one_more adds.sum exponent rounded at_exponent;
  reaches = λ fewer h. ⊎_elim (λ (enough : exponent ≤ fewer). enough)
      (λ (short : fewer < exponent).
      let less : 2 ^ fewer < 2 ^ exponent = pow-lt short in absurd (omega (arith, h, less)))
      (le_or_lt exponent fewer);
  ascend = adds.ascend.1;
  few =
      let kept : rounded ≤ units =
      ceiling.least units (le-mul_of_pos_right units (pow_pos (exponent - places))) in
      let before = adds.few in
      omega (arith, kept, before);
}
  where
    at_exponent : IsCeiling adds.sum exponent rounded
    at_exponent =
        let above : places ≤ exponent = adds.ascend.0 in
        let same : exponent - places + places ≡ exponent = omega (arith, above) in
        subst (λ n. IsCeiling adds.sum n rounded) same
        (further adds.sum places units (exponent - places) rounded adds.ceiling ceiling)

-- the same of a list with a first power
pub adds_next : (high : ℕ) (exponents rest : List ℕ) (places units rounded count : ℕ) → count ≡ length rest - 1 →
    0 < length rest → Adds high exponents rest places units → IsCeiling units (get_or rest 0 0 - places) rounded →
    Adds high exponents (take count (drop 1 rest)) (get_or rest 0 0) (rounded + 1)
adds_next high exponents [] places units rounded count is some adds ceiling = absurd (omega (arith, some))
adds_next high exponents (exponent ∷ rest) places units rounded count is some adds ceiling =
    subst (λ left. Adds high exponents left exponent (rounded + 1)) (sym (take_all count rest (omega (arith, is))))
    (adds_more high exponents exponent rest places units rounded adds ceiling)

-- the units stay as few as the powers
pub adds_few : (high : ℕ) (exponents rest : List ℕ) (places units more rounded : ℕ) → 0 < length rest →
    Adds high exponents rest places units → IsCeiling units more rounded → rounded + 1 ≤ length exponents
adds_few high exponents rest places units more rounded some adds ceiling =
    let kept : rounded ≤ units = ceiling.least units (le-mul_of_pos_right units (pow_pos more)) in
    let few = adds.few in
    omega (arith, kept, few, some)

pub adds_end : (high : ℕ) (exponents rest : List ℕ) (places units bits : ℕ) → length rest < 1 →
    Adds high exponents rest places units → IsLeastPower units bits →
    IsLeastPower (sum_of_powers exponents) (places + bits)
adds_end high exponents (exponent ∷ rest) places units bits none adds power = absurd (omega (arith, none))
adds_end high exponents [] places units bits none adds power = record {
  enough =
      let all = adds.ceiling.enough (2 ^ bits) power.enough in
      let split : 2 ^ (bits + places) ≡ 2 ^ bits * 2 ^ places = pow-add 2 bits places in
      let turned : 2 ^ (places + bits) ≡ 2 ^ (bits + places) = ap (λ n. 2 ^ n) (omega arith) in
      let whole = adds.whole in
      omega (arith, all, split, turned, whole);
  least = λ fewer h.
      let all : adds.sum ≤ 2 ^ fewer = let whole = adds.whole in omega (arith, h, whole) in
      let above : places ≤ fewer = adds.reaches fewer all in
      let same : fewer - places + places ≡ fewer = omega (arith, above) in
      let split : 2 ^ (fewer - places + places) ≡ 2 ^ (fewer - places) * 2 ^ places =
      pow-add 2 (fewer - places) places in
      let turned : 2 ^ (fewer - places + places) ≡ 2 ^ fewer = ap (λ n. 2 ^ n) same in
      let few = adds.ceiling.least (2 ^ (fewer - places)) (omega (arith, all, split, turned)) in
      let left = power.least (fewer - places) few in
      omega (arith, left, above);
}

-- ---- numbers in order

steps : (high x : ℕ) (xs : List ℕ) → AllByRecursion (λ y. y ≤ high) (x ∷ xs) → IsNonDecreasing (x ∷ xs) →
    Ascend x high xs
steps high x [] few sorted = few.0
steps high x (y ∷ ys) few sorted = (
  sorted 0 1 0 (omega arith) (omega arith),
  steps high y ys few.1
      (λ i j d below within. sorted (suc i) (suc j) d (omega (arith, below)) (omega (arith, within))),
)

pub ascend_from_sorted : (high : ℕ) (xs : List ℕ) → All (λ x. x ≤ high) xs → IsNonDecreasing xs → Ascend 0 high xs
ascend_from_sorted high [] few sorted = omega arith
ascend_from_sorted high (x ∷ xs) few sorted =
    (omega arith, steps high x xs (recursion_from_All (λ y. y ≤ high) (x ∷ xs) few) sorted)
