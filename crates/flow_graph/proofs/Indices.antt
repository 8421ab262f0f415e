-- Ascending points have indices in the same order.
use Rattle.std.proofs.Common.{◌≡◌, ◌⊎◌, ℕ, zero, suc, ◌+◌, ◌≤◌, ◌<◌, eqb, ltb, Bool, true, false, List, []}
use Rattle.std.proofs.Common.{◌∷◌, length, get_or, refl, sym, ap, ◌∙◌, ⊎_elim, arith}
use Rattle.std.specs.List.{list_any, AllByRecursion}
use Rattle.std.specs.List.Sorted.{IsStrictlySortedBy, IsNonDecreasingBy, IsPartitionPoint}
use Rattle.std.specs.Ordering.{is_eq, nat_cmp, ordering_index, ordering_reverse}
use Rattle.std.specs.declared.cmp.Ordering.{Ordering}
use Rattle.std.specs.declared.cmp.Ordering.TheVariants.{Less, Equal, Greater}
use Rattle.std.proofs.lemmas.Bool.{cases_Bool, cases_eq, cases_lt, cases_order, or_cases, lt-ltb, le-ltb, eq-eqb}
use Rattle.std.proofs.lemmas.Bool.{ne_eqb, cond-true, cond-false}
use Rattle.std.proofs.lemmas.Cmp.{alike_right}
use Rattle.std.proofs.lemmas.Map.Keys.{sorted_head, sorted_tail, Less-from_sorted}
use Rattle.flow_base.specs.declared.points.Point.{Point}
use Rattle.flow_base.specs.PointOrders.{point_cmp, is_same}
use Rattle.flow_base.proofs.PointOrders.{point_total, is_equal}
use Rattle.flow_graph.specs.Builders.{index_in}

pub found_index : (names : List Point) (p : Point) (i : ℕ) (d : Point) → IsStrictlySortedBy point_cmp names →
    i < length names →
    point_cmp (get_or names i d) p ≡ Equal → index_in names p ≡ i
found_index [] p i d ordered below e = absurd (omega arith)
found_index (x ∷ xs) p zero d ordered below e = cond-true (is_same x p) 0 (index_in xs p + 1) (ap is_eq e)
found_index (x ∷ xs) p (suc i) d ordered below e =
    let less : point_cmp x (get_or xs i d) ≡ Less = Less-from_sorted point_cmp (x ∷ xs) 0 (suc i) d ordered
    (omega arith) below in
    let before : point_cmp x p ≡ Less = sym (alike_right point_total (get_or xs i d) p x e) ∙ less in
    cond-false (is_same x p) 0 (index_in xs p + 1) (ap is_eq before)
    ∙ (ap (λ n. n + 1) (found_index xs p i d (sorted_tail point_cmp x xs ordered) (omega arith) e) ∙ omega arith)

pub missing_index : (names : List Point) (p : Point) → ((k : ℕ) (d : Point) → k < length names →
    is_same (get_or names k d) p ≡ false) → index_in names p ≡ length names
missing_index [] p none = refl
missing_index (x ∷ xs) p none =
    cond-false (is_same x p) 0 (index_in xs p + 1) (none 0 x (omega arith))
    ∙ (ap (λ n. n + 1) (missing_index xs p (λ k d below. none (suc k) d (omega arith))) ∙ omega arith)

index_le : (o r : Ordering) → (r ≡ Equal → o ≡ Less) → (r ≡ Less → o ≡ Less) → ordering_index o ≤ ordering_index r
index_le Less r equal less = omega arith
index_le Equal Less equal less = absurd (let no : Equal ≡ Less = less refl in cc)
index_le Equal Equal equal less = omega arith
index_le Equal Greater equal less = omega arith
index_le Greater Less equal less = absurd (let no : Greater ≡ Less = less refl in cc)
index_le Greater Equal equal less = absurd (let no : Greater ≡ Less = equal refl in cc)
index_le Greater Greater equal less = omega arith

pub rises : (names : List Point) (p : Point) → IsStrictlySortedBy point_cmp names → IsNonDecreasingBy
    (λ y. ordering_index (point_cmp y p)) names
rises names p ordered i j d within below =
    ⊎_elim
    (λ (e : i ≡ j). let same : ordering_index (point_cmp (get_or names i d) p) ≡ ordering_index
    (point_cmp (get_or names j d) p) = ap (λ k. ordering_index (point_cmp (get_or names k d) p)) e in omega
    (arith, same))
    (λ (ne : i ≡ j → ⊥).
    let less : point_cmp (get_or names i d) (get_or names j d) ≡ Less = Less-from_sorted point_cmp names i j d ordered
    (omega arith) below in
    index_le (point_cmp (get_or names i d) p) (point_cmp (get_or names j d) p)
    (λ e. sym (alike_right point_total (get_or names j d) p (get_or names i d) e) ∙ less)
    (λ e. point_total.trans (get_or names i d) (get_or names j d) p less e))
    (cases_eq i j)

pub apart_index : (names : List Point) (p : Point) (i : ℕ) →
    IsPartitionPoint (λ y. point_cmp y p ≡ Less) (λ y. point_cmp y p ≡ Greater) names i → index_in names p ≡ length
    names
apart_index names p i point =
    missing_index names p (λ k d below.
    ⊎_elim
    (λ (early : k < i). ap is_eq (point.0 k d (omega arith) early))
    (λ (late : i ≤ k). ap is_eq (point.1 k d late below))
    (cases_lt k i))

-- ---- the points that there are

abbrev pub is_in : List Point → Point → Bool
is_in names p = list_any (λ x. is_same x p) names

pub index_inside : (names : List Point) (p : Point) → is_in names p ≡ true → index_in names p < length names
index_inside [] p there = absurd (cc)
index_inside (x ∷ xs) p there =
    ⊎_elim
    (λ (t : is_same x p ≡ true). let c = cond-true (is_same x p) 0 (index_in xs p + 1) t in omega (arith, c))
    (λ (t : is_same x p ≡ false).
    let c = cond-false (is_same x p) 0 (index_in xs p + 1) t in
    let rest : list_any (λ y. is_same y p) xs ≡ true =
    ⊎_elim (λ (h : is_same x p ≡ true). absurd (let no : false ≡ true = sym t ∙ h in cc))
    (λ (h : list_any (λ y. is_same y p) xs ≡ true). h)
    (or_cases (is_same x p) (list_any (λ y. is_same y p) xs) there) in
    let inside : index_in xs p < length xs = index_inside xs p rest in omega (arith, c, inside))
    (cases_Bool (is_same x p))

rest_in : (x : Point) (xs : List Point) (p : Point) → is_in (x ∷ xs) p ≡ true → is_same x p ≡ false → is_in xs p ≡ true
rest_in x xs p there t =
    ⊎_elim (λ (h : is_same x p ≡ true). absurd (let no : false ≡ true = sym t ∙ h in cc))
    (λ (h : list_any (λ y. is_same y p) xs ≡ true). h)
    (or_cases (is_same x p) (list_any (λ y. is_same y p) xs) there)

pub same_at_index : (names : List Point) (p d : Point) → is_in names p ≡ true →
    point_cmp (get_or names (index_in names p) d) p ≡ Equal
same_at_index [] p d there = absurd (cc)
same_at_index (x ∷ xs) p d there =
    ⊎_elim
    (λ (t : is_same x p ≡ true).
    ap (λ i. point_cmp (get_or (x ∷ xs) i d) p) (cond-true (is_same x p) 0 (index_in xs p + 1) t) ∙
    is_equal (point_cmp x p) t)
    (λ (t : is_same x p ≡ false).
    let e : index_in (x ∷ xs) p ≡ suc (index_in xs p) = cond-false (is_same x p) 0 (index_in xs p + 1) t ∙
    omega arith in
    ap (λ i. point_cmp (get_or (x ∷ xs) i d) p) e ∙ same_at_index xs p d (rest_in x xs p there t))
    (cases_Bool (is_same x p))

later_less : (x : Point) (xs : List Point) (p : Point) → AllByRecursion (λ y. point_cmp x y ≡ Less) xs →
    is_in xs p ≡ true → point_cmp x p ≡ Less
later_less x [] p all there = absurd (cc)
later_less x (y ∷ ys) p all there =
    ⊎_elim
    (λ (t : is_same y p ≡ true). sym (alike_right point_total y p x (is_equal (point_cmp y p) t)) ∙ all.0)
    (λ (t : is_same y p ≡ false). later_less x ys p all.1 (rest_in y ys p there t))
    (cases_Bool (is_same y p))

nat_cmp_less : (a b : ℕ) → a < b → nat_cmp a b ≡ Less
nat_cmp_less a b h = cond-true (ltb a b) Less _ (lt-ltb a b h)

nat_cmp_greater : (a b : ℕ) → b < a → nat_cmp a b ≡ Greater
nat_cmp_greater a b h =
    cond-false (ltb a b) Less _ (le-ltb a b (omega arith)) ∙ cond-false (eqb a b) Equal Greater
    (ne_eqb a b (λ e. omega (arith, e, h)))

pub nat_cmp_itself : (a : ℕ) → nat_cmp a a ≡ Equal
nat_cmp_itself a = cond-false (ltb a a) Less _ (le-ltb a a (omega arith)) ∙ cond-true (eqb a a) Equal Greater
    (eq-eqb a a refl)

nat_cmp_shift : (a b : ℕ) → nat_cmp (a + 1) (b + 1) ≡ nat_cmp a b
nat_cmp_shift a b =
    ⊎_elim
    (λ (e : a ≡ b). ap (λ n. nat_cmp (n + 1) (b + 1)) e ∙
    (nat_cmp_itself (b + 1) ∙ (sym (nat_cmp_itself b) ∙ ap (λ n. nat_cmp n b) (sym e))))
    (λ (o : (a < b) ⊎ (b < a)).
    ⊎_elim (λ (h : a < b). nat_cmp_less (a + 1) (b + 1) (omega arith) ∙ sym (nat_cmp_less a b h))
    (λ (h : b < a). nat_cmp_greater (a + 1) (b + 1) (omega arith) ∙ sym (nat_cmp_greater a b h)) o)
    (cases_order a b)

pub index_order : (names : List Point) → IsStrictlySortedBy point_cmp names → (p q : Point) → is_in names p ≡ true →
    is_in names q ≡ true →
    nat_cmp (index_in names p) (index_in names q) ≡ point_cmp p q
index_order [] ordered p q in_p in_q = absurd (cc)
index_order (x ∷ xs) ordered p q in_p in_q =
    let head = sorted_head point_cmp x xs ordered in
    ⊎_elim
    (λ (tp : is_same x p ≡ true).
    let ep : point_cmp x p ≡ Equal = is_equal (point_cmp x p) tp in
    let same : point_cmp x q ≡ point_cmp p q = point_total.congr x p q ep in
    let ip : index_in (x ∷ xs) p ≡ 0 = cond-true (is_same x p) 0 (index_in xs p + 1) tp in
    ⊎_elim
    (λ (tq : is_same x q ≡ true).
    let iq : index_in (x ∷ xs) q ≡ 0 = cond-true (is_same x q) 0 (index_in xs q + 1) tq in
    ap (λ i. nat_cmp i (index_in (x ∷ xs) q)) ip ∙
    (ap (λ i. nat_cmp 0 i) iq ∙ (sym (is_equal (point_cmp x q) tq) ∙ same)))
    (λ (tq : is_same x q ≡ false).
    let iq : index_in (x ∷ xs) q ≡ index_in xs q + 1 = cond-false (is_same x q) 0 (index_in xs q + 1) tq in
    ap (λ i. nat_cmp i (index_in (x ∷ xs) q)) ip
    ∙ (ap (λ i. nat_cmp 0 i) iq ∙ (nat_cmp_less 0 (index_in xs q + 1) (omega arith) ∙
    (sym (later_less x xs q head (rest_in x xs q in_q tq)) ∙ same))))
    (cases_Bool (is_same x q)))
    (λ (tp : is_same x p ≡ false).
    let ip : index_in (x ∷ xs) p ≡ index_in xs p + 1 = cond-false (is_same x p) 0 (index_in xs p + 1) tp in
    let less : point_cmp x p ≡ Less = later_less x xs p head (rest_in x xs p in_p tp) in
    ⊎_elim
    (λ (tq : is_same x q ≡ true).
    let iq : index_in (x ∷ xs) q ≡ 0 = cond-true (is_same x q) 0 (index_in xs q + 1) tq in
    let back : point_cmp q p ≡ Less = sym (point_total.congr x q p (is_equal (point_cmp x q) tq)) ∙ less in
    ap (λ i. nat_cmp i (index_in (x ∷ xs) q)) ip
    ∙ (ap (λ i. nat_cmp (index_in xs p + 1) i) iq
    ∙ (nat_cmp_greater (index_in xs p + 1) 0 (omega arith) ∙
    sym (point_total.antisymm p q ∙ ap ordering_reverse back))))
    (λ (tq : is_same x q ≡ false).
    let iq : index_in (x ∷ xs) q ≡ index_in xs q + 1 = cond-false (is_same x q) 0 (index_in xs q + 1) tq in
    ap (λ i. nat_cmp i (index_in (x ∷ xs) q)) ip
    ∙ (ap (λ i. nat_cmp (index_in xs p + 1) i) iq
    ∙ (nat_cmp_shift (index_in xs p) (index_in xs q)
    ∙ index_order xs (sorted_tail point_cmp x xs ordered) p q (rest_in x xs p in_p tp) (rest_in x xs q in_q tq))))
    (cases_Bool (is_same x q)))
    (cases_Bool (is_same x p))
