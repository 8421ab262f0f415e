-- What is put into the map of capacities.
use Rattle.std.proofs.Common.{◌≡◌, ℕ, zero, suc, ◌+◌, ◌<◌, ◌^◌, Bool, true, false, cond, List, [], ◌∷◌, ◌++◌, Option, Some}
use Rattle.std.proofs.Common.{unwrap_or, nat_lt, refl, ap, ◌∙◌, arith}
use Rattle.std.proofs.lemmas.Bool.{and_parts, and_from, lt-ltb, ltb-true}
use Rattle.std.proofs.lemmas.List.Folds.{list_all-append}
use Rattle.std.specs.List.{list_all}
use Rattle.std.proofs.Common.{Result, Ok, Err}
use Rattle.std.specs.Result.{OnOk, OnErr}
use Rattle.std.specs.Map.{lookup}
use Rattle.std.specs.Option.{is_some}
use Rattle.flow_base.specs.declared.points.Point.{Point}
use Rattle.flow_base.specs.PointOrders.{is_same}
use Rattle.flow_graph.specs.Keeping.{capacity_in, count_in, is_known, is_positive}
use Rattle.indexmap.specs.IndexMap.{set_value_at}
use Rattle.location_collapse.specs.Limits.{is_kept_capacity}
use Rattle.flow_base.proofs.PointEquality.{same_tests}

pub small_from : (k : Point) (n : ℕ) → 0 < n → n < 2 ^ 48 → is_kept_capacity (k, n) ≡ true
small_from k n some small = and_from (nat_lt 0 n) (nat_lt n (2 ^ 48)) (lt-ltb 0 n some) (lt-ltb n (2 ^ 48) small)

-- a small capacity that is put after others
pub small_added : (es : List (Point × ℕ)) (k : Point) (n : ℕ) → 0 < n → n < 2 ^ 48 → list_all is_kept_capacity es ≡ true →
    list_all is_kept_capacity (es ++ (k, n) ∷ []) ≡ true
small_added es k n some small all =
    list_all-append is_kept_capacity es ((k, n) ∷ [])
    ∙ and_from (list_all is_kept_capacity es) (list_all is_kept_capacity ((k, n) ∷ [])) all
    (and_from (is_kept_capacity (k, n)) true (small_from k n some small) refl)

found_chosen : (b : Bool) (e : Point × ℕ) (o : Option ℕ) → is_kept_capacity e ≡ true → unwrap_or o 0 < 2 ^ 48 →
    unwrap_or (cond b (Some e.1) o) 0 < 2 ^ 48
found_chosen true e o small rest = ltb-true e.1 (2 ^ 48) (and_parts (nat_lt 0 e.1) (nat_lt e.1 (2 ^ 48)) small).1
found_chosen false e o small rest = rest

pub found_small : (test : Point → Bool) (es : List (Point × ℕ)) → list_all is_kept_capacity es ≡ true →
    unwrap_or (lookup test es) 0 < 2 ^ 48
found_small test [] all = omega arith
found_small test (e ∷ es) all =
    let parts = and_parts (is_kept_capacity e) (list_all is_kept_capacity es) all in
    found_chosen (test e.0) e (lookup test es) parts.0 (found_small test es parts.1)

-- what holds both where a call answers a value and where it answers an error
pub either : {T E P : Type 0} (r : Result T E) → OnOk r P → OnErr r P → P
either (Ok x) ok err = ok
either (Err x) ok err = err

pub small_raised : (es : List (Point × ℕ)) (i n : ℕ) → 0 < n → n < 2 ^ 48 → list_all is_kept_capacity es ≡ true →
    list_all is_kept_capacity (set_value_at es i n) ≡ true
small_raised [] i n some small all = refl
small_raised (e ∷ es) zero n some small all = and_from (is_kept_capacity (e.0, n)) (list_all is_kept_capacity es)
    (small_from e.0 n some small) (and_parts (is_kept_capacity e) (list_all is_kept_capacity es) all).1
small_raised (e ∷ es) (suc i) n some small all =
    let parts = and_parts (is_kept_capacity e) (list_all is_kept_capacity es) all in
    and_from (is_kept_capacity e) (list_all is_kept_capacity (set_value_at es i n)) parts.0 (small_raised es i n some small parts.1)

known_put : (b : Bool) (n : ℕ) (o : Option ℕ) → is_some o ≡ true → is_some (cond b (Some n) o) ≡ true
known_put true n o known = refl
known_put false n o known = known

-- a point that is put in is known, and so are the others that were
pub grows_put : (old new : List (Point × ℕ)) (p : Point) (n : ℕ) →
    ((q : Point) → capacity_in new q ≡ cond (is_same p q) (Some n) (capacity_in old q)) →
    (q : Point) → is_known old q ≡ true → is_known new q ≡ true
grows_put old new p n put q known = ap is_some (put q) ∙ known_put (is_same p q) n (capacity_in old q) known

counted_chosen : (b : Bool) (n c : ℕ) (o : Option ℕ) → (b ≡ true → n ≡ unwrap_or o 0 + c) →
    unwrap_or (cond b (Some n) o) 0 ≡ unwrap_or o 0 + cond b c 0
counted_chosen true n c o h = h refl
counted_chosen false n c o h = omega arith

-- the bits that are added to a point's capacity are added to no other's
pub counted_put : (old new : List (Point × ℕ)) (p : Point) (n bits : ℕ) →
    ((q : Point) → capacity_in new q ≡ cond (is_same p q) (Some n) (capacity_in old q)) →
    n ≡ count_in old p + bits → (q : Point) → count_in new q ≡ count_in old q + cond (is_same p q) bits 0
counted_put old new p n bits put sum q =
    ap (λ o. unwrap_or o 0) (put q)
    ∙ counted_chosen (is_same p q) n bits (capacity_in old q)
    (λ e. sum ∙ ap (λ test. unwrap_or (lookup test old) 0 + bits) (same_tests p q e))

-- what follows from two clauses of one value
pub both_ok : {T E P Q R : Type 0} (r : Result T E) → (P → Q → R) → OnOk r P → OnOk r Q → OnOk r R
both_ok (Ok x) f p q = f p q
both_ok (Err x) f p q = tt

positive_chosen : (b : Bool) (e : Point × ℕ) (o : Option ℕ) → is_kept_capacity e ≡ true → is_positive o ≡ true →
    is_positive (cond b (Some e.1) o) ≡ true
positive_chosen true e o small rest = (and_parts (nat_lt 0 e.1) (nat_lt e.1 (2 ^ 48)) small).0
positive_chosen false e o small rest = rest

pub found_positive : (test : Point → Bool) (es : List (Point × ℕ)) → list_all is_kept_capacity es ≡ true →
    is_positive (lookup test es) ≡ true
found_positive test [] all = refl
found_positive test (e ∷ es) all =
    let parts = and_parts (is_kept_capacity e) (list_all is_kept_capacity es) all in
    positive_chosen (test e.0) e (lookup test es) parts.0 (found_positive test es parts.1)
