-- The place of what is read of an item is that of the item.
use Rattle.std.proofs.Common.{◌≡◌, ℕ, ◌+◌, Bool, List, [], ◌∷◌, Some, map, cond, refl, ap}
use Rattle.std.specs.List.{position_from}

pub position_from_map : {X Y : Type 0} (test : Y → Bool) (read : X → Y) (place : ℕ) (xs : List X)
    → position_from test place (map read xs) ≡ position_from (λ x. test (read x)) place xs
position_from_map test read place [] = refl
position_from_map test read place (x ∷ xs) =
    ap (λ rest. cond (test (read x)) (Some place) rest) (position_from_map test read (place + 1) xs)
