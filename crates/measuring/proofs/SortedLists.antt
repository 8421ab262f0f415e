-- A list in strict order is what it holds.
use Rattle.std.proofs.Common.{◌≡◌, ◌⊎◌, ℕ, ◌<◌, nat_eq, nat_lt, Bool, true, false, List, [], ◌∷◌, inl, inr, refl, sym, ap, ap₂, ◌∙◌, ⊎_elim, arith}
use Rattle.std.specs.Cmp.{IsTotalOrder}
use Rattle.std.specs.List.{list_all, list_any}
use Rattle.std.specs.Ordering.{is_lt}
use Rattle.std.specs.declared.cmp.Ordering.{Ordering}
use Rattle.std.specs.declared.cmp.Ordering.TheVariants.{Less, Equal, Greater}
use Rattle.std.proofs.lemmas.Bool.{and_parts, and_from, eq-eqb, eqb-true, false≢true, lt-ltb, ltb-true, le-ltb, or_cases, or_left, or_right}
use Rattle.std.proofs.lemmas.Cmp.{tied_itself}
use Rattle.cut_file.specs.Cuts.{neighbours_pass}
use Rattle.flow_graph.specs.Graphs.{ascend}

-- an item stands in a list
abbrev pub Holds : {A : Type 0} → List A → A → Type 0
Holds [] item = ⊥
Holds (first ∷ items) item = (item ≡ first) ⊎ Holds items item

-- a test that orders items strictly
pub record IsOrder {A : Type 0} (less : A → A → Bool) : Type 0 where
  pub apart : (x : A) → less x x ≡ false
  pub chain : (x y z : A) → less x y ≡ true → less y z ≡ true → less x z ≡ true

-- each item comes before all later ones
abbrev pub IsOrdered : {A : Type 0} → (A → A → Bool) → List A → Type 0
IsOrdered less [] = Unit {0}
IsOrdered less (first ∷ items) = (list_all (less first) items ≡ true) × IsOrdered less items

pub all_holds : {A : Type 0} (test : A → Bool) (items : List A) (item : A) → list_all test items ≡ true →
    Holds items item → test item ≡ true
all_holds test [] item all held = absurd held
all_holds test (first ∷ items) item all (inl same) =
    ap test same ∙ (and_parts (test first) (list_all test items) all).0
all_holds test (first ∷ items) item all (inr later) =
    all_holds test items item (and_parts (test first) (list_all test items) all).1 later

-- ---- two lists that hold the same

not_both : {A : Type 0} (less : A → A → Bool) → IsOrder less → (x y : A) → less x y ≡ true → less y x ≡ true → ⊥
not_both less order x y first second = false≢true (sym (order.apart x) ∙ order.chain x y x first second)

first_one : {A : Type 0} (less : A → A → Bool) → IsOrder less → (x y : A) (xs ys : List A) →
    list_all (less x) xs ≡ true → list_all (less y) ys ≡ true → Holds (y ∷ ys) x → Holds (x ∷ xs) y → x ≡ y
first_one less order x y xs ys above above_other (inl same) there = same
first_one less order x y xs ys above above_other (inr later) (inl same) = sym same
first_one less order x y xs ys above above_other (inr later) (inr behind) =
    absurd (not_both less order x y (all_holds (less x) xs y above behind) (all_holds (less y) ys x above_other later))

-- what the rest of the one list holds, the rest of the other does
rest_holds : {A : Type 0} (less : A → A → Bool) → IsOrder less → (x y : A) (xs ys : List A) → x ≡ y →
    list_all (less x) xs ≡ true → ((z : A) → Holds (x ∷ xs) z → Holds (y ∷ ys) z) → (z : A) → Holds xs z → Holds ys z
rest_holds less order x y xs ys same above held z behind =
    ⊎_elim
    (λ (first : z ≡ y).
    let before : less x z ≡ true = all_holds (less x) xs z above behind in
    absurd (false≢true (sym (order.apart x) ∙ (ap (less x) (same ∙ sym first) ∙ before))))
    (λ (later : Holds ys z). later)
    (held z (inr behind))

pub one_list : {A : Type 0} (less : A → A → Bool) → IsOrder less → (xs ys : List A) → IsOrdered less xs →
    IsOrdered less ys → ((z : A) → Holds xs z → Holds ys z) → ((z : A) → Holds ys z → Holds xs z) → xs ≡ ys
one_list less order [] [] first second held back = refl
one_list less order [] (y ∷ ys) first second held back = absurd (back y (inl refl))
one_list less order (x ∷ xs) [] first second held back = absurd (held x (inl refl))
one_list less order (x ∷ xs) (y ∷ ys) first second held back =
    let same = first_one less order x y xs ys first.0 second.0 (held x (inl refl)) (back y (inl refl)) in
    let rest = one_list less order xs ys first.1 second.1 (rest_holds less order x y xs ys same first.0 held)
    (rest_holds less order y x ys xs (sym same) second.0 back) in
    ap₂ (λ item items. item ∷ items) same rest

-- ---- lists whose neighbours pass

all_more : {A : Type 0} (less : A → A → Bool) → IsOrder less → (x y : A) (items : List A) → less x y ≡ true →
    list_all (less y) items ≡ true → list_all (less x) items ≡ true
all_more less order x y [] before all = refl
all_more less order x y (z ∷ items) before all =
    let parts = and_parts (less y z) (list_all (less y) items) all in
    and_from (less x z) (list_all (less x) items) (order.chain x y z before parts.0)
    (all_more less order x y items before parts.1)

pub neighbours_ordered : {A : Type 0} (less : A → A → Bool) → IsOrder less → (items : List A) →
    neighbours_pass less items ≡ true → IsOrdered less items
neighbours_ordered less order [] pass = tt
neighbours_ordered less order (x ∷ []) pass = (refl, tt)
neighbours_ordered less order (x ∷ (y ∷ items)) pass =
    let parts = and_parts (less x y) (neighbours_pass less (y ∷ items)) pass in
    let go = neighbours_ordered less order (y ∷ items) parts.1 in
    (and_from (less x y) (list_all (less x) items) parts.0 (all_more less order x y items parts.0 go.0), go)

ascend_pass : {A : Type 0} (cmp : A → A → Ordering) (items : List A) → ascend cmp items ≡ true →
    neighbours_pass (λ x y. is_lt (cmp x y)) items ≡ true
ascend_pass cmp [] up = refl
ascend_pass cmp (x ∷ []) up = refl
ascend_pass cmp (x ∷ (y ∷ items)) up =
    let parts = and_parts (is_lt (cmp x y)) (ascend cmp (y ∷ items)) up in
    and_from (is_lt (cmp x y)) (neighbours_pass (λ a b. is_lt (cmp a b)) (y ∷ items)) parts.0
    (ascend_pass cmp (y ∷ items) parts.1)

pub ascend_ordered : {A : Type 0} (cmp : A → A → Ordering) → IsOrder (λ x y. is_lt (cmp x y)) → (items : List A) →
    ascend cmp items ≡ true → IsOrdered (λ x y. is_lt (cmp x y)) items
ascend_ordered cmp order items up = neighbours_ordered (λ x y. is_lt (cmp x y)) order items (ascend_pass cmp items up)

-- ---- orders

less_is : (o : Ordering) → is_lt o ≡ true → o ≡ Less
less_is Less less = refl
less_is Equal less = absurd (false≢true less)
less_is Greater less = absurd (false≢true less)

-- items in the order of what stands in them
pub order_on : {A B : Type 0} (cmp : A → A → Ordering) → IsTotalOrder cmp → (part : B → A) →
    IsOrder (λ x y. is_lt (cmp (part x) (part y)))
order_on cmp total part = record {
  apart = λ x. ap is_lt (tied_itself total (part x));
  chain = λ x y z first second. ap is_lt (total.trans (part x) (part y) (part z)
      (less_is (cmp (part x) (part y)) first) (less_is (cmp (part y) (part z)) second));
}

pub numbers_order : IsOrder nat_lt
numbers_order = record {
  apart = λ x. le-ltb x x (omega arith);
  chain = λ x y z first second.
      let one : x < y = ltb-true x y first in
      let two : y < z = ltb-true y z second in
      lt-ltb x z (omega (arith, one, two));
}

-- ---- numbers that stand in a list

pub any_held : (numbers : List ℕ) (number : ℕ) → list_any (nat_eq number) numbers ≡ true → Holds numbers number
any_held [] number any = absurd (false≢true any)
any_held (first ∷ numbers) number any =
    ⊎_elim
    (λ (same : nat_eq number first ≡ true). inl (eqb-true number first same))
    (λ (later : list_any (nat_eq number) numbers ≡ true). inr (any_held numbers number later))
    (or_cases (nat_eq number first) (list_any (nat_eq number) numbers) any)

pub held_any : (numbers : List ℕ) (number : ℕ) → Holds numbers number → list_any (nat_eq number) numbers ≡ true
held_any [] number held = absurd held
held_any (first ∷ numbers) number (inl same) =
    or_left (nat_eq number first) (list_any (nat_eq number) numbers) (eq-eqb number first same)
held_any (first ∷ numbers) number (inr later) =
    or_right (nat_eq number first) (list_any (nat_eq number) numbers) (held_any numbers number later)
