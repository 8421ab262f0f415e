-- The next string of a string that begins with another, and of what is left of one.
use Rattle.std.proofs.Common.{◌≡◌, ℕ, zero, suc, ◌≤◌, ◌<◌, ◌++◌, List, [], ◌∷◌, Bool, true, false, Option, Some, None}
use Rattle.std.proofs.Common.{refl, ap, ◌∙◌, drop, take, length, arith}
use Rattle.every_secret.specs.Paths.{next_or, next_string}

-- what comes before stays
pub next_within : (before bits next : List Bool) → next_string bits ≡ Some next →
    next_string (before ++ bits) ≡ Some (before ++ next)
next_within [] bits next is = is
next_within (bit ∷ before) bits next is = ap (λ found. next_or bit found) (next_within before bits next is)

none_next : (bit : Bool) (found : Option (List Bool)) → next_or bit found ≡ None → found ≡ None
none_next bit None is = refl
none_next true (Some next) is = absurd (cc)
none_next false (Some next) is = absurd (cc)

-- where no string is next, none is next of what is left of this one
pub dropped_none : (depth : ℕ) (bits : List Bool) → next_string bits ≡ None → next_string (drop depth bits) ≡ None
dropped_none zero bits none = none
dropped_none (suc depth) [] none = none
dropped_none (suc depth) (bit ∷ bits) none = dropped_none depth bits (none_next bit (next_string bits) none)

-- the next string is not empty
never_empty : (bits : List Bool) → next_string bits ≡ Some [] → ⊥
never_empty [] is = absurd (cc)
never_empty (bit ∷ bits) is = by bit (next_string bits) is
  where
    by : (b : Bool) (found : Option (List Bool)) → next_or b found ≡ Some [] → ⊥
    by true None h = absurd (cc)
    by false None h = absurd (cc)
    by true (Some next) h = absurd (cc)
    by false (Some next) h = absurd (cc)

some_next : (bit : Bool) (found : Option (List Bool)) (next : List Bool) → next_or bit found ≡ Some (bit ∷ next) →
    found ≡ Some next
some_next true None next is = absurd (cc)
some_next false None next is = absurd (cc)
some_next true (Some more) next is = let same : more ≡ next = cc in ap (λ s. Some s) same
some_next false (Some more) next is = let same : more ≡ next = cc in ap (λ s. Some s) same

-- what is left of a string from no further than the place
pub dropped_next : (depth : ℕ) (bits : List Bool) (place : ℕ) → place < length bits → depth ≤ place →
    next_string bits ≡ Some (take place bits ++ true ∷ []) →
    next_string (drop depth bits) ≡ Some (drop depth (take place bits ++ true ∷ []))
dropped_next zero bits place within before is = is
dropped_next (suc depth) [] place within before is = absurd (omega (arith, within))
dropped_next (suc depth) (bit ∷ bits) zero within before is = absurd (omega (arith, before))
dropped_next (suc depth) (bit ∷ bits) (suc place) within before is =
    dropped_next depth bits place (omega (arith, within)) (omega (arith, before))
    (some_next bit (next_string bits) (take place bits ++ true ∷ []) is)

-- and what comes before it stays
pub taken_next : (depth : ℕ) (bits : List Bool) (place : ℕ) → place < length bits → depth ≤ place →
    take depth (take place bits ++ true ∷ []) ≡ take depth bits
taken_next zero bits place within before = refl
taken_next (suc depth) [] place within before = absurd (omega (arith, within))
taken_next (suc depth) (bit ∷ bits) zero within before = absurd (omega (arith, before))
taken_next (suc depth) (bit ∷ bits) (suc place) within before =
    ap (λ s. bit ∷ s) (taken_next depth bits place (omega (arith, within)) (omega (arith, before)))

-- after the place none is next
first_turned : (bit : Bool) (bits : List Bool) → next_string (bit ∷ bits) ≡ Some (true ∷ []) → next_string bits ≡ None
first_turned bit bits is = by bit (next_string bits) refl is
  where
    by : (b : Bool) (found : Option (List Bool)) → next_string bits ≡ found → next_or b found ≡ Some (true ∷ []) →
        next_string bits ≡ None
    by b None at h = at
    by true (Some next) at h =
        let none : next ≡ [] = cc in absurd (never_empty bits (at ∙ ap (λ s. Some s) none))
    by false (Some next) at h = absurd (cc)

pub dropped_last : (depth : ℕ) (bits : List Bool) (place : ℕ) → place < depth → depth ≤ length bits →
    next_string bits ≡ Some (take place bits ++ true ∷ []) → next_string (drop depth bits) ≡ None
dropped_last zero bits place after within is = absurd (omega (arith, after))
dropped_last (suc depth) [] place after within is = refl
dropped_last (suc depth) (bit ∷ bits) zero after within is = dropped_none depth bits (first_turned bit bits is)
dropped_last (suc depth) (bit ∷ bits) (suc place) after within is =
    dropped_last depth bits place (omega (arith, after)) (omega (arith, within))
    (some_next bit (next_string bits) (take place bits ++ true ∷ []) is)
