-- A search through what is read of each item is one through the items.
use Rattle.std.proofs.Common.{◌≡◌, ◌||◌, Bool, List, [], ◌∷◌, map, refl, ap}
use Rattle.std.specs.List.{list_any}

pub list_any_map : {X Y : Type 0} (test : Y → Bool) (read : X → Y) (xs : List X)
    → list_any test (map read xs) ≡ list_any (λ x. test (read x)) xs
list_any_map test read [] = refl
list_any_map test read (x ∷ xs) = ap (λ rest. test (read x) || rest) (list_any_map test read xs)
