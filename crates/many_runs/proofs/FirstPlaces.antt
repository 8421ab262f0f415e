-- The first item of a list that has not a property stands at one place.
use Rattle.std.proofs.Common.{◌≡◌, ◌++◌, ◌∷◌, [], List, length, refl, sym, ap, subst}
use Rattle.std.specs.Prelude.{suc}
use Rattle.std.specs.List.{AllByRecursion}

pub record AreSamePlaces {A : Type 0} (earlier others : List A) (item other : A) : Type 0 where
  pub places : length earlier ≡ length others
  pub items : item ≡ other

head_same : {A : Type 0} (a b : A) (items others : List A) → a ∷ items ≡ b ∷ others → a ≡ b
head_same a b items others same = cc

tail_same : {A : Type 0} (a b : A) (items others : List A) → a ∷ items ≡ b ∷ others → items ≡ others
tail_same a b items others same = cc

pub one_first : {A : Type 0} (P : A → Type 0) (earlier others later rest : List A) (item other : A) →
    AllByRecursion P earlier → AllByRecursion P others → ¬ P item → ¬ P other →
    earlier ++ item ∷ later ≡ others ++ other ∷ rest → AreSamePlaces earlier others item other
one_first P [] [] later rest item other all also lacks none same =
    record { places = refl; items = head_same item other later rest same }
one_first P [] (b ∷ others) later rest item other all also lacks none same =
    absurd (lacks (subst P (sym (head_same item b later (others ++ other ∷ rest) same)) also.0))
one_first P (a ∷ earlier) [] later rest item other all also lacks none same =
    absurd (none (subst P (head_same a other (earlier ++ item ∷ later) rest same) all.0))
one_first P (a ∷ earlier) (b ∷ others) later rest item other all also lacks none same =
    let go = one_first P earlier others later rest item other all.1 also.1 lacks none
    (tail_same a b (earlier ++ item ∷ later) (others ++ other ∷ rest) same) in
    record { places = ap suc go.places; items = go.items }
