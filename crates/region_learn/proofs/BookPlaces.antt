-- The notes of a region stand at one place of a book.
use Rattle.std.proofs.Common.{◌≡◌, ◌≢◌, ◌∙◌, ◌<◌, ◌==◌, ◌||◌, ℕ, zero, suc, Bool, true, false, List, [], ◌∷◌, length, get_or, not}
use Rattle.std.proofs.Common.{refl, sym, ap, arith, inl, inr, subst}
use Rattle.std.proofs.lemmas.Bool.{cases_Bool, eqb-true, eq-eqb, and_parts, not_from_true, or_left, or_right}
use Rattle.region_learn.specs.declared.notes.Notes.{Notes}
use Rattle.region_learn.specs.Private.Books.{are_own, has_notes, numbers_of}
use Rattle.flow_base.specs.Listed.{is_listed}

true_false : ◌≡◌ {A = Bool} true false → ⊥
true_false e = cc

none_false : (book : List Notes) (number : ℕ) →
    ((place : ℕ) (none : Notes) → place < length book → (get_or book place none).region ≢ number) →
    has_notes book number ≡ false
none_false [] number h = refl
none_false (notes ∷ book) number h = elim (cases_Bool (notes.region == number)) [
  | inl same ↦ absurd (h 0 notes (omega arith) (eqb-true notes.region number same))
  | inr differs ↦
      ap (λ (b : Bool). b || has_notes book number) differs
      ∙ none_false book number (λ place none below. h (suc place) none (omega arith))
]

-- where there are notes of a region, not all are of others
pub some_place : (book : List Notes) (number : ℕ) → has_notes book number ≡ true →
    ((place : ℕ) (none : Notes) → place < length book → (get_or book place none).region ≢ number) → ⊥
some_place book number has h = let none = none_false book number h in true_false (sym has ∙ none)

stands_at : (book : List Notes) (place : ℕ) (none : Notes) → place < length book →
    is_listed (numbers_of book) (get_or book place none).region ≡ true
stands_at [] place none below = absurd (omega arith)
stands_at (notes ∷ book) zero none below =
    or_left (notes.region == notes.region) (is_listed (numbers_of book) notes.region) (eq-eqb notes.region notes.region refl)
stands_at (notes ∷ book) (suc place) none below =
    or_right (notes.region == (get_or book place none).region) (is_listed (numbers_of book) (get_or book place none).region)
    (stands_at book place none (omega arith))

-- different places have different regions
pub one_place : (book : List Notes) (first second : ℕ) (none : Notes) → are_own book ≡ true → first < length book →
    second < length book → (get_or book first none).region ≡ (get_or book second none).region → first ≡ second
one_place [] first second none own below within same = absurd (omega arith)
one_place (notes ∷ book) zero zero none own below within same = refl
one_place (notes ∷ book) zero (suc second) none own below within same =
    let parts = and_parts (not (is_listed (numbers_of book) notes.region)) (are_own book) own in
    let stands : is_listed (numbers_of book) notes.region ≡ true =
    subst (λ (n : ℕ). is_listed (numbers_of book) n ≡ true) (sym same) (stands_at book second none (omega arith)) in
    absurd (true_false (sym parts.0 ∙ not_from_true (is_listed (numbers_of book) notes.region) stands))
one_place (notes ∷ book) (suc first) zero none own below within same =
    let parts = and_parts (not (is_listed (numbers_of book) notes.region)) (are_own book) own in
    let stands : is_listed (numbers_of book) notes.region ≡ true =
    subst (λ (n : ℕ). is_listed (numbers_of book) n ≡ true) same (stands_at book first none (omega arith)) in
    absurd (true_false (sym parts.0 ∙ not_from_true (is_listed (numbers_of book) notes.region) stands))
one_place (notes ∷ book) (suc first) (suc second) none own below within same =
    let parts = and_parts (not (is_listed (numbers_of book) notes.region)) (are_own book) own in
    ap suc (one_place book first second none parts.1 (omega arith) (omega arith) same)
