-- What holds of each item of a list.
use Rattle.std.proofs.Common.{◌≡◌, ℕ, zero, suc, List, [], ◌∷◌, ◌++◌, map, take}
use Rattle.std.specs.List.{AllByRecursion}

pub each_weaker : {A : Type 0} (P Q : A → Type 0) → ((item : A) → P item → Q item) → (items : List A) →
    AllByRecursion P items → AllByRecursion Q items
each_weaker P Q weaker [] all = tt
each_weaker P Q weaker (item ∷ items) (one, all) = (weaker item one, each_weaker P Q weaker items all)

-- the same where it follows from two facts
pub each_of_both : {A : Type 0} (P Q R : A → Type 0) → ((item : A) → P item → Q item → R item) → (items : List A) →
    AllByRecursion P items → AllByRecursion Q items → AllByRecursion R items
each_of_both P Q R weaker [] all more = tt
each_of_both P Q R weaker (item ∷ items) (one, all) (other, more) =
    (weaker item one other, each_of_both P Q R weaker items all more)

pub each_appended : {A : Type 0} (P : A → Type 0) (first second : List A) → AllByRecursion P first →
    AllByRecursion P second → AllByRecursion P (first ++ second)
each_appended P [] second one two = two
each_appended P (item ∷ first) second (here, one) two = (here, each_appended P first second one two)

pub each_first : {A : Type 0} (P : A → Type 0) (first second : List A) → AllByRecursion P (first ++ second) →
    AllByRecursion P first
each_first P [] second all = tt
each_first P (item ∷ first) second (here, all) = (here, each_first P first second all)

pub each_taken : {A : Type 0} (P : A → Type 0) (count : ℕ) (items : List A) → AllByRecursion P items →
    AllByRecursion P (take count items)
each_taken P zero items all = tt
each_taken P (suc count) [] all = tt
each_taken P (suc count) (item ∷ items) (here, all) = (here, each_taken P count items all)

pub each_mapped : {A B : Type 0} (P : B → Type 0) (f : A → B) (items : List A) →
    AllByRecursion (λ item. P (f item)) items → AllByRecursion P (map f items)
each_mapped P f [] all = tt
each_mapped P f (item ∷ items) (here, all) = (here, each_mapped P f items all)

pub each_unmapped : {A B : Type 0} (P : B → Type 0) (f : A → B) (items : List A) → AllByRecursion P (map f items) →
    AllByRecursion (λ item. P (f item)) items
each_unmapped P f [] all = tt
each_unmapped P f (item ∷ items) (here, all) = (here, each_unmapped P f items all)

pub map_taken : {A B : Type 0} (f : A → B) (count : ℕ) (items : List A) →
    map f (take count items) ≡ take count (map f items)
map_taken f zero items = λ i. []
map_taken f (suc count) [] = λ i. []
map_taken f (suc count) (item ∷ items) = λ i. f item ∷ map_taken f count items i
