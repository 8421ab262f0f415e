-- A list up to an index, and what is left of it.
use Rattle.std.proofs.Common.{◌≡◌, ℕ, zero, suc, List, [], ◌∷◌, ◌++◌, length, take, drop, refl, ap, sym, arith}
use Rattle.std.proofs.lemmas.Grind.{common_steps}

-- what holds where the list has one more element at the index
pub record HasNext {X : Type 0} (all : List X) (index : ℕ) (x : X) (rest : List X) : Type 0 where
  pub front : take (suc index) all ≡ take index all ++ x ∷ []
  pub left : drop (suc index) all ≡ rest
  pub count : length (take index all) ≡ index

next_suc : {X : Type 0} (y : X) (ys : List X) (index : ℕ) (x : X) (rest : List X) → HasNext ys index x rest
    → HasNext (y ∷ ys) (suc index) x rest
next_suc y ys index x rest next = record {
  front = ap (λ zs. y ∷ zs) next.front;
  left = next.left;
  count = ap suc next.count;
}

pub has_next : {X : Type 0} (all : List X) (index : ℕ) (x : X) (rest : List X) → drop index all ≡ x ∷ rest
    → HasNext all index x rest
has_next [] zero x rest h = absurd (grind (arith, common_steps))
has_next [] (suc n) x rest h = absurd (grind (arith, common_steps))
has_next (y ∷ ys) zero x rest h = record {
  front = grind (arith, common_steps);
  left = grind (arith, common_steps);
  count = refl;
}
has_next (y ∷ ys) (suc n) x rest h = next_suc y ys n x rest (has_next ys n x rest h)

-- all is the front where nothing is left
pub all_front : {X : Type 0} (all : List X) (index : ℕ) → drop index all ≡ [] → take index all ≡ all
all_front [] zero h = refl
all_front [] (suc n) h = refl
all_front (y ∷ ys) zero h = sym h
all_front (y ∷ ys) (suc n) h = ap (λ zs. y ∷ zs) (all_front ys n h)
