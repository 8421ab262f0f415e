-- What the tests of a certificate say of each of its numbers.
use Rattle.std.proofs.Common.{◌≡◌, ℕ, zero, suc, ◌^◌, true, List, [], ◌∷◌, arith}
use Rattle.std.specs.List.{list_all}
use Rattle.std.proofs.lemmas.Bool.{and_parts, ltb-true}
use Rattle.flow_certificate.specs.Keeping.{is_number}
use Rattle.flow_certificate.specs.Private.Sums.{AreSmall}

pub all_small : (numbers : List ℕ) → list_all is_number numbers ≡ true → AreSmall numbers
all_small [] all i = omega arith
all_small (n ∷ ns) all zero = ltb-true n (2 ^ 48) (and_parts (is_number n) (list_all is_number ns) all).0
all_small (n ∷ ns) all (suc i) = all_small ns (and_parts (is_number n) (list_all is_number ns) all).1 i
