use Rattle.std.proofs.Common.{◌≤◌, ◌^◌, ap, sym, subst, ◌∙◌}
use Rattle.std.proofs.lemmas.List.Sorted.{All-permutation, IsNonDecreasingBy-from_sort, sum_by-IsPermutation}
use Rattle.every_secret.specs.Bounds.{IsLeastPower}
use Rattle.every_secret.specs.Private.Numbers.{Ascend, sum_of_powers}
use Rattle.every_secret.proofs.Ceilings.{ascend_from_sorted}
use Rattle.every_secret.proofs.numbers.output_bits.Goals as goal

pub bits_for_powers-requires : goal.bits_for_powers-requires
bits_for_powers-requires c =
    let sorted = c.sort_unstable.new.self.items in
    subst (λ exponents. Ascend 0 (2 ^ 70) exponents) (sym c.deref.ensures.value)
    (ascend_from_sorted (2 ^ 70) sorted
    (All-permutation (λ bits. bits ≤ 2 ^ 70) c.in_ok-exponents.exponents.items sorted c.sort_unstable.ensures.permutation
    c.in_ok-exponents.ensures.few)
    (IsNonDecreasingBy-from_sort (λ bits. bits) sorted c.sort_unstable.ensures.sorted))

pub returns : goal.returns
returns c =
    let sorted = c.sort_unstable.new.self.items in
    subst (λ count. IsLeastPower count c.bits_for_powers.result)
    (ap (λ exponents. sum_of_powers exponents) c.deref.ensures.value
    ∙ sum_by-IsPermutation (λ bits. 2 ^ bits) c.in_ok-exponents.exponents.items sorted
    c.sort_unstable.ensures.permutation
    ∙ c.in_ok-exponents.ensures.sum) c.bits_for_powers.ensures
