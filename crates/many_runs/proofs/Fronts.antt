-- A list that is not empty is its first item before the others.
use Rattle.std.proofs.Common.{◌≡◌, ◌-◌, ◌≤◌, ◌<◌, [], ◌∷◌, List, length, get_or, drop, take, refl, sym, ap, ◌∙◌, arith}

-- all of a list
pub take_all : {X : Type 0} (xs : List X) → take (length xs) xs ≡ xs
take_all [] = refl
take_all (x ∷ xs) = ap (λ ys. x ∷ ys) (take_all xs)

pub rest_is : {X : Type 0} (x : X) (xs : List X) → take (length (x ∷ xs) - 1) (drop 1 (x ∷ xs)) ≡ xs
rest_is x xs = let n : length (x ∷ xs) - 1 ≡ length xs = omega arith in ap (λ k. take k xs) n ∙ take_all xs

pub opens : {X : Type 0} (xs : List X) (d : X) → 1 ≤ length xs →
    xs ≡ get_or xs 0 d ∷ take (length xs - 1) (drop 1 xs)
opens [] d some = absurd (omega arith)
opens (x ∷ xs) d some = ap (λ ys. x ∷ ys) (sym (rest_is x xs))

pub is_none : {X : Type 0} (xs : List X) → length xs < 1 → xs ≡ []
is_none [] few = refl
is_none (x ∷ xs) few = absurd (omega arith)
