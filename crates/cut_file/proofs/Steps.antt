-- Steps that may fail.
use Rattle.std.proofs.Common.{◌≡◌, ◌⊎◌, ℕ, ◌<◌, Bool, true, false, if◌then◌else◌, inl, inr}
use Rattle.std.proofs.Common.{Option, Some, None, refl, ap, subst, arith}
use Rattle.std.specs.Prelude.{option_map}
use Rattle.cut_file.specs.Cuts.{is_word}
use Rattle.cut_file.specs.Private.Reading.{◌>>=◌, or_else}

pub record IsThen {A B : Type 0} (first : Option A) (next : A → Option B) (answer : B) : Type 0 where
  pub value : A
  pub is : first ≡ Some value
  pub then_is : next value ≡ Some answer

pub then_found : {A B : Type 0} (first : Option A) (next : A → Option B) (answer : B) →
    (first >>= next) ≡ Some answer →
    IsThen first next answer
then_found None next answer e = absurd cc
then_found (Some value) next answer e = record { value = value; is = refl; then_is = e }

pub then_own : {A B : Type 0} (first : Option A) (next : A → Option B) (value : A) → first ≡ Some value →
    (first >>= next) ≡ next value
then_own first next value e = rw e refl

some_or : {A : Type 0} → A → Option A → A
some_or other None = other
some_or other (Some value) = value

abbrev some_value : {A : Type 0} → A → Option A
some_value value = Some value

pub the_same : {A : Type 0} (a b : A) → some_value a ≡ some_value b → a ≡ b
unfolding some_or
the_same a b e = ap (some_or a) e

pub kept_found : {A : Type 0} (test : Bool) (value answer : A) (P : A → Type 0) →
    (if test then Some value else None) ≡ Some answer →
    (test ≡ true → P value) → P answer
kept_found true value answer P e own = subst P (the_same value answer e) (own refl)
kept_found false value answer P e own = absurd cc

pub below_word : (number : ℕ) → number < 4294967296 → is_word number ≡ true
below_word number small = grind arith

pub word_below : (number : ℕ) → is_word number ≡ true → number < 4294967296
word_below number e = grind arith

pub else_found : {A : Type 0} (first other : Option A) (answer : A) → or_else first other ≡ Some answer →
    (first ≡ Some answer) ⊎ (other ≡ Some answer)
else_found None other answer e = inr e
else_found (Some value) other answer e = inl e

pub map_found : {A B : Type 0} (form : A → B) (o : Option A) (answer : B) → option_map form o ≡ Some answer →
    (value : A) × (o ≡ Some value) × (form value ≡ answer)
map_found form None answer e = absurd cc
map_found form (Some value) answer e = (value, refl, the_same (form value) answer e)

pub not_both : {A : Type 0} (o : Option A) (value : A) → o ≡ None → o ≡ Some value → ⊥
not_both None value e f = absurd cc
not_both (Some x) value e f = absurd cc
