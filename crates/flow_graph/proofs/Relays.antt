-- What a search in ascending relays finds.
use Rattle.std.proofs.Common.{◌≡◌, ◌≢◌, ◌⊎◌, ℕ, zero, suc, ◌≤◌, ◌<◌, eqb, ltb, nat_eq, true, false, List}
use Rattle.std.proofs.Common.{[], ◌∷◌, length, get_or, Err, refl, sym, ◌∙◌, ⊎_elim, arith}
use Rattle.std.specs.List.{list_any}
use Rattle.std.specs.List.Sorted.{IsBinarySearchResult}
use Rattle.std.specs.Ordering.{is_lt, nat_cmp}
use Rattle.std.proofs.lemmas.Bool.{and_parts, and_right, cases_lt, cases_order, le-ltb, ne_eqb}
use Rattle.std.proofs.lemmas.Bool.{eq-eqb, or_from}
use Rattle.std.proofs.lemmas.List.Sorted.{searched}
use Rattle.flow_graph.specs.Graphs.{are_relays, is_relay}

less_from : (x y : ℕ) → is_lt (nat_cmp x y) ≡ true → x < y
less_from x y is =
    ⊎_elim
    (λ (below : x < y). below)
    (λ (above : y ≤ x).
    ⊎_elim
    (λ (e : x ≡ y).
    let a : ltb x y ≡ false = le-ltb x y above in
    let b : eqb x y ≡ true = eq-eqb x y e in
    absurd (let no : false ≡ true = sym (rw (a, b) refl) ∙ is in cc))
    (λ (o : (x < y) ⊎ (y < x)).
    ⊎_elim (λ (h : x < y). h)
    (λ (h : y < x).
    let a : ltb x y ≡ false = le-ltb x y above in
    let b : eqb x y ≡ false = ne_eqb x y (λ e. omega (arith, e, h)) in
    absurd (let no : false ≡ true = sym (rw (a, b) refl) ∙ is in cc)) o)
    (cases_order x y))
    (cases_lt x y)

first_le : (x : ℕ) (xs : List ℕ) → are_relays (x ∷ xs) ≡ true → (j : ℕ) → j < length (x ∷ xs) → x ≤ get_or (x ∷ xs) j 0
first_le x xs all zero below = omega arith
first_le x [] all (suc j) below = absurd (omega arith)
first_le x (y ∷ ys) all (suc j) below =
    let parts = and_parts (is_lt (nat_cmp x y)) (are_relays (y ∷ ys)) all in
    let less : x < y = less_from x y parts.0 in
    let later : y ≤ get_or (y ∷ ys) j 0 = first_le y ys parts.1 j (omega arith) in
    omega (arith, less, later)

rest_ascend : (x : ℕ) (xs : List ℕ) → are_relays (x ∷ xs) ≡ true → are_relays xs ≡ true
rest_ascend x [] all = refl
rest_ascend x (y ∷ ys) all = (and_parts (is_lt (nat_cmp x y)) (are_relays (y ∷ ys)) all).1

relays_rise : (xs : List ℕ) → are_relays xs ≡ true → (i j : ℕ) → i ≤ j → j < length xs → get_or xs i 0 ≤ get_or xs j 0
relays_rise [] all i j within below = absurd (omega arith)
relays_rise (x ∷ xs) all zero j within below = first_le x xs all j below
relays_rise (x ∷ xs) all (suc i) zero within below = absurd (omega arith)
relays_rise (x ∷ xs) all (suc i) (suc j) within below = relays_rise xs (rest_ascend x xs all) i j (omega arith)
    (omega arith)

none_any : (xs : List ℕ) (r : ℕ) → ((k : ℕ) → k < length xs → get_or xs k 0 ≢ r) → list_any (nat_eq r) xs ≡ false
none_any [] r none = refl
none_any (x ∷ xs) r none =
    or_from (nat_eq r x) (list_any (nat_eq r) xs) (ne_eqb r x (λ e. none 0 (omega arith) (sym e)))
    (none_any xs r (λ k below. none (suc k) (omega arith)))

pub relay_missing : (xs : List ℕ) (r i : ℕ) → are_relays xs ≡ true → IsBinarySearchResult (λ y. nat_cmp y r) xs
    (Err i) → is_relay xs r ≡ false
relay_missing xs r i all position =
    let found = searched xs r (Err i) position (relays_rise xs all) in
    and_right (ltb r 65536) (list_any (nat_eq r) xs)
    (none_any xs r (λ k below e.
    ⊎_elim
    (λ (early : k < i). let less : get_or xs k 0 < r = found.1 k early in omega (arith, less, e))
    (λ (late : i ≤ k). let more : r < get_or xs k 0 = found.2 k late below in omega (arith, more, e))
    (cases_lt k i)))
