-- What is written into the counters.
use Rattle.std.proofs.Common.{◌≡◌, ℕ, ◌+◌, ◌*◌, ◌/◌, ◌%◌, add-zero, ◌<◌, ◌≤◌, ◌==◌, ◌&&◌, not, Bool, true, false, List, [], Option, Some, None, refl, sym, ap}
use Rattle.std.proofs.Common.{◌∙◌, cond, replicate, length, ⊎_elim, arith, subst}
use Rattle.std.specs.Map.{lookup}
use Rattle.std.specs.Prelude.{slice_index_or, slice_set}
use Rattle.std.proofs.lemmas.Bool.{and_from, and_left, and_parts, and_right, cases_Bool, cases_eq, cases_lt, eq-eqb}
use Rattle.std.proofs.lemmas.Bool.{eqb-true, false_from_ne_true, false≢true, ne_eqb}
use Rattle.std.proofs.lemmas.List.{get_or-replicate, get_or-set_same, get_or-set_other, get_or_past, length-replicate}
use Rattle.flow_base.specs.declared.points.Point.{Point}
use Rattle.flow_base.specs.declared.points.Slot.{Slot}
use Rattle.flow_base.specs.contracts.points.SlotPartialEq.TheImpl as slot_eq_impl
use Rattle.flow_base.proofs.PointOrders.{one_if_same}
use Rattle.flow_base.specs.Points.{is_output_slot}
use Rattle.flow_base.specs.PointOrders.{is_same}
use Rattle.hinted_map.specs.Maps.{Puts}
use Rattle.flow_base.proofs.PointEquality.{point_eq, points_same, same_tests}
use Rattle.measuring.specs.declared.counter_rows.Row.{Row}
use Rattle.measuring.specs.declared.visit_counts.VisitCounts.{VisitCounts}
use Rattle.measuring.specs.Counts.{column_of, count_at, count_of, is_counted, page_of}
use Rattle.measuring.specs.Counts.{row_counts}

set_column : (counts : List ℕ) (i j n : ℕ) → i < length counts →
    slice_index_or (slice_set counts i n) j 0 ≡ cond (i == j) n (slice_index_or counts j 0)
set_column counts i j n within =
    ⊎_elim
    (λ (e : i ≡ j). subst (λ k. slice_index_or (slice_set counts i n) k 0 ≡ cond (i == k) n (slice_index_or counts k 0))
    e (get_or-set_same counts i n 0 within ∙ sym (ap (λ b. cond b n (slice_index_or counts i 0)) (eq-eqb i i refl))))
    (λ (other : i ≡ j → ⊥). get_or-set_other counts i j n 0 (λ e. other (sym e))
    ∙ sym (ap (λ b. cond b n (slice_index_or counts j 0)) (ne_eqb i j other)))
    (cases_eq i j)

chosen : (b : Bool) (row after : Row) (o : Option Row) (column other count : ℕ) → column < 1024 →
    after.counts.items ≡ slice_set row.counts.items column count → (b ≡ true → o ≡ Some row) →
    slice_index_or (row_counts (cond b (Some after) o)) other 0 ≡ cond (b && (column == other)) count
    (slice_index_or (row_counts o) other 0)
chosen true row after o column other count below set found =
    let full : length row.counts.items ≡ 1024 = row.full in
    ap (λ counts. slice_index_or counts other 0) set
    ∙ (set_column row.counts.items column other count (omega (arith, below, full))
    ∙ ap (λ r. cond (column == other) count (slice_index_or (row_counts r) other 0)) (sym (found refl)))
chosen false row after o column other count below set found = refl

-- one counter is written, and no other
pub written : (old new : List (Point × Row)) (page : Point) (row after : Row) (column count : ℕ) → column < 1024 →
    lookup (is_same page) old ≡ Some row → after.counts.items ≡ slice_set row.counts.items column count →
    Puts is_same old new page after → (q : Point) (other : ℕ) →
    count_at new q other ≡ cond (is_same page q && (column == other)) count (count_at old q other)
written old new page row after column count below found set puts q other =
    ap (λ o. slice_index_or (row_counts o) other 0) (puts q)
    ∙ chosen (is_same page q) row after (lookup (is_same q) old) column other count below set
    (λ e. ap (λ test. lookup test old) (sym (same_tests page q e)) ∙ found)

zeros_past : (zeros : List ℕ) (n column none : ℕ) → zeros ≡ replicate n none → n ≤ column →
    slice_index_or zeros column none ≡ none
zeros_past zeros n column none is past =
    let long : length zeros ≡ length (replicate n none) = ap length is in
    let many : length (replicate n none) ≡ n = length-replicate n none in
    get_or_past zeros column none (omega (arith, past, long, many))

none_in : (zeros : List ℕ) (n column none : ℕ) → zeros ≡ replicate n none → slice_index_or zeros column none ≡ none
none_in zeros n column none is =
    ⊎_elim
    (λ (below : column < n). ap (λ (l : List ℕ). slice_index_or l column none) is
    ∙ get_or-replicate n column none none below)
    (λ (past : n ≤ column). zeros_past zeros n column none is past)
    (cases_lt column n)

row_made : (b : Bool) (row : Row) (o : Option Row) (column : ℕ) → row.counts.items ≡ replicate 1024 0 →
    (b ≡ true → o ≡ None) →
    slice_index_or (row_counts (cond b (Some row) o)) column 0 ≡ slice_index_or (row_counts o) column 0
row_made true row o column zeros none =
    none_in row.counts.items 1024 column 0 zeros ∙ ap (λ r. slice_index_or (row_counts r) column 0) (sym (none refl))
row_made false row o column zeros none = refl

-- a new row has nothing counted
pub started : (old new : List (Point × Row)) (page : Point) (row : Row) → row.counts.items ≡ replicate 1024 0 →
    lookup (is_same page) old ≡ None → Puts is_same old new page row → (q : Point) (column : ℕ) →
    count_at new q column ≡ count_at old q column
started old new page row zeros none puts q column =
    ap (λ o. slice_index_or (row_counts o) column 0) (puts q)
    ∙ row_made (is_same page q) row (lookup (is_same q) old) column zeros
    (λ e. ap (λ test. lookup test old) (sym (same_tests page q e)) ∙ none)

no_counts : (b : Bool) (entries : List (Point × Row)) (page : Point) (column : ℕ) → entries ≡ [] →
    cond b (count_at entries page column) 0 ≡ 0
no_counts true entries page column none = ap (λ list. count_at list page column) none
no_counts false entries page column none = refl

pub none_counted : (counts : VisitCounts) → counts.rows.map.entries ≡ [] → (q : Point) → count_of counts q ≡ 0
unfolding count_of
none_counted counts none q = no_counts (is_counted q) counts.rows.map.entries (page_of q) (column_of q) none

-- ---- the counter of a point

slot_eq : Slot → Slot → Bool
slot_eq = (slot_eq_impl.ghosts).eq

and_true : (b : Bool) → b ≡ (b && true)
and_true true = refl
and_true false = refl

and_false : (b : Bool) → false ≡ (b && false)
and_false true = refl
and_false false = refl

parts_moved : (region page slot column : Bool) →
    ((region && (page && slot)) && column) ≡ (region && ((page && column) && slot))
parts_moved false page slot column = refl
parts_moved true false slot column = refl
parts_moved true true true column = and_true column
parts_moved true true false column = and_false column

-- an address is that of its page and its place in it
same_address : (a b : ℕ) → (a % 4 == 0) ≡ true → (b % 4 == 0) ≡ true →
    ((a / 4096 * 4096 == b / 4096 * 4096) && (a % 4096 / 4 == b % 4096 / 4)) ≡ (a == b)
same_address a b first second =
    let fa : a % 4 ≡ 0 = eqb-true (a % 4) 0 first in
    let fb : b % 4 ≡ 0 = eqb-true (b % 4) 0 second in
    ⊎_elim
    (λ (e : a ≡ b). and_from (a / 4096 * 4096 == b / 4096 * 4096) (a % 4096 / 4 == b % 4096 / 4)
    (eq-eqb _ _ (ap (λ n. n / 4096 * 4096) e)) (eq-eqb _ _ (ap (λ n. n % 4096 / 4) e)) ∙ sym (eq-eqb a b e))
    (λ (other : a ≡ b → ⊥). ⊎_elim
    (λ (e : a / 4096 * 4096 ≡ b / 4096 * 4096). and_right (a / 4096 * 4096 == b / 4096 * 4096) (a % 4096 / 4 == b % 4096 / 4)
    (ne_eqb _ _ (λ column. other (omega (arith, fa, fb, e, column)))) ∙ sym (ne_eqb a b other))
    (λ (page : a / 4096 * 4096 ≡ b / 4096 * 4096 → ⊥). and_left (a / 4096 * 4096 == b / 4096 * 4096)
    (a % 4096 / 4 == b % 4096 / 4) (ne_eqb _ _ page) ∙ sym (ne_eqb a b other))
    (cases_eq (a / 4096 * 4096) (b / 4096 * 4096)))
    (cases_eq a b)

eq_parts : (p q : Point) → point_eq p q ≡ ((p.region == q.region) && ((p.address == q.address) && slot_eq p.slot
    q.slot))
unfolding slot_eq
eq_parts p q = refl

-- points are the same where their pages and their places in these are
same_place : (p q : Point) → is_counted p ≡ true → is_counted q ≡ true →
    (is_same (page_of p) (page_of q) && (column_of p == column_of q)) ≡ is_same p q
same_place p q first second =
    let fa : (p.address % 4 == 0) ≡ true = (and_parts (not (is_output_slot p.slot)) (p.address % 4 == 0) first).1 in
    let fb : (q.address % 4 == 0) ≡ true = (and_parts (not (is_output_slot q.slot)) (q.address % 4 == 0) second).1 in
    ap (λ eq. eq (page_of p) (page_of q) && (column_of p == column_of q)) (sym points_same)
    ∙ (ap (λ b. b && (column_of p == column_of q)) (eq_parts (page_of p) (page_of q))
    ∙ (parts_moved (p.region == q.region) (p.address / 4096 * 4096 == q.address / 4096 * 4096) (slot_eq p.slot q.slot)
    (column_of p == column_of q)
    ∙ (ap (λ b. (p.region == q.region) && (b && slot_eq p.slot q.slot)) (same_address p.address q.address fa fb)
    ∙ (sym (eq_parts p q) ∙ ap (λ eq. eq p q) points_same))))

counted_alike : (p q : Point) → is_same p q ≡ true → is_counted p ≡ is_counted q
counted_alike p q e = ap is_counted (one_if_same p q e)

-- the counter of a point is written, and no other
pub counted : (old new : VisitCounts) (p : Point) (n : ℕ) → is_counted p ≡ true → ((q : Point) (other : ℕ) →
    count_at new.rows.map.entries q other ≡ cond (is_same (page_of p) q && (column_of p == other)) n
    (count_at old.rows.map.entries q other)) → (q : Point) → count_of new q ≡ cond (is_same p q) n (count_of old q)
unfolding count_of
counted old new p n own writes q =
    ⊎_elim
    (λ (e : is_counted q ≡ true).
    ap (λ b. cond b (count_at new.rows.map.entries (page_of q) (column_of q)) 0) e
    ∙ (writes (page_of q) (column_of q)
    ∙ (ap (λ b. cond b n (count_at old.rows.map.entries (page_of q) (column_of q))) (same_place p q own e)
    ∙ ap (λ m. cond (is_same p q) n m)
    (sym (ap (λ b. cond b (count_at old.rows.map.entries (page_of q) (column_of q)) 0) e)))))
    (λ (e : is_counted q ≡ false).
    ap (λ b. cond b (count_at new.rows.map.entries (page_of q) (column_of q)) 0) e
    ∙ (ap (λ m. cond false n m) (sym (ap (λ b. cond b (count_at old.rows.map.entries (page_of q) (column_of q)) 0) e))
    ∙ ap (λ b. cond b n (cond (is_counted q) (count_at old.rows.map.entries (page_of q) (column_of q)) 0))
    (sym (false_from_ne_true (is_same p q) (λ same. false≢true (sym e ∙ (sym (counted_alike p q same) ∙ own)))))))
    (cases_Bool (is_counted q))

-- points that are the same have one counter
pub count_alike : (counts : VisitCounts) (p q : Point) → is_same p q ≡ true → count_of counts p ≡ count_of counts q
unfolding count_of
count_alike counts p q e =
    let at : p.address ≡ q.address = ap (λ (x : Point). x.address) (one_if_same p q e) in
    ⊎_elim
    (λ (own : is_counted p ≡ true).
    let other : is_counted q ≡ true = sym (counted_alike p q e) ∙ own in
    ap (λ b. cond b (count_at counts.rows.map.entries (page_of p) (column_of p)) 0) own
    ∙ (ap (λ test. slice_index_or (row_counts (lookup test counts.rows.map.entries)) (column_of p) 0)
    (same_tests (page_of p) (page_of q) (and_parts (is_same (page_of p) (page_of q)) (column_of p == column_of q)
    (same_place p q own other ∙ e)).0)
    ∙ (ap (λ a. count_at counts.rows.map.entries (page_of q) (a % 4096 / 4)) at
    ∙ sym (ap (λ b. cond b (count_at counts.rows.map.entries (page_of q) (column_of q)) 0) other))))
    (λ (none : is_counted p ≡ false).
    let other : is_counted q ≡ false = sym (counted_alike p q e) ∙ none in
    ap (λ b. cond b (count_at counts.rows.map.entries (page_of p) (column_of p)) 0) none
    ∙ sym (ap (λ b. cond b (count_at counts.rows.map.entries (page_of q) (column_of q)) 0) other))
    (cases_Bool (is_counted p))

-- what stands in the row of a point's page is its count
pub count_there : (counts : VisitCounts) (p : Point) → is_counted p ≡ true →
    count_at counts.rows.map.entries (page_of p) (column_of p) ≡ count_of counts p
unfolding count_of
count_there counts p own = sym (ap (λ b. cond b (count_at counts.rows.map.entries (page_of p) (column_of p)) 0) own)

pub never_counted : (counts : VisitCounts) (p : Point) → is_counted p ≡ false → count_of counts p ≡ 0
unfolding count_of
never_counted counts p none = ap (λ b. cond b (count_at counts.rows.map.entries (page_of p) (column_of p)) 0) none

pub no_row : (counts : VisitCounts) (p : Point) → lookup (is_same (page_of p)) counts.rows.map.entries ≡ None →
    count_of counts p ≡ 0
unfolding count_of
no_row counts p none = either (is_counted p)
  where
    either : (b : Bool) → cond b (count_at counts.rows.map.entries (page_of p) (column_of p)) 0 ≡ 0
    either true = ap (λ o. slice_index_or (row_counts o) (column_of p) 0) none
    either false = refl

-- rows in which the same is counted
pub same_counts : (old new : VisitCounts) → ((q : Point) (column : ℕ) → count_at new.rows.map.entries q column ≡ count_at
    old.rows.map.entries q column) → (q : Point) → count_of new q ≡ count_of old q
unfolding count_of
same_counts old new same q = ap (λ m. cond (is_counted q) m 0) (same (page_of q) (column_of q))

raised : (b : Bool) (n m : ℕ) → (b ≡ true → n ≡ m + 1) → cond b n m ≡ m + cond b 1 0
raised true n m e = e refl
raised false n m e = sym (add-zero m)

-- one visit more
pub one_more : (old new : VisitCounts) (p : Point) (n : ℕ) → n ≡ count_of old p + 1 →
    ((q : Point) → count_of new q ≡ cond (is_same p q) n (count_of old q)) → (q : Point) →
    count_of new q ≡ count_of old q + cond (is_same p q) 1 0
one_more old new p n sum writes q =
    writes q ∙ raised (is_same p q) n (count_of old q)
    (λ e. sum ∙ ap (λ m. m + 1) (count_alike old p q e))

zero_more : (b : Bool) (m : ℕ) → m ≡ m + cond b 0 0
zero_more true m = sym (add-zero m)
zero_more false m = sym (add-zero m)

-- no visit more
pub none_more : (old new : VisitCounts) (p : Point) → ((q : Point) → count_of new q ≡ count_of old q) → (q : Point) →
    count_of new q ≡ count_of old q + cond (is_same p q) 0 0
none_more old new p same q = same q ∙ zero_more (is_same p q) (count_of old q)

-- a counter that is 0 may be cleared
pub clear_already : (counts : VisitCounts) (p : Point) → count_of counts p ≡ 0 → (q : Point) →
    count_of counts q ≡ cond (is_same p q) 0 (count_of counts q)
clear_already counts p zero q =
    ⊎_elim
    (λ (e : is_same p q ≡ true). sym (count_alike counts p q e) ∙ (zero
    ∙ sym (ap (λ b. cond b 0 (count_of counts q)) e)))
    (λ (e : is_same p q ≡ false). sym (ap (λ b. cond b 0 (count_of counts q)) e))
    (cases_Bool (is_same p q))

pub counted_from : (old new : VisitCounts) (p : Point) (n column : ℕ) → column ≡ column_of p → is_counted p ≡ true →
    ((q : Point) (other : ℕ) → count_at new.rows.map.entries q other ≡ cond (is_same (page_of p) q && (column == other)) n
    (count_at old.rows.map.entries q other)) → (q : Point) → count_of new q ≡ cond (is_same p q) n (count_of old q)
counted_from old new p n column at own writes =
    counted old new p n own
    (λ q other. writes q other
    ∙ ap (λ k. cond (is_same (page_of p) q && (k == other)) n (count_at old.rows.map.entries q other)) at)

pub value_from : (counts : VisitCounts) (p : Point) (column value : ℕ) → column ≡ column_of p → is_counted p ≡ true →
    value ≡ count_at counts.rows.map.entries (page_of p) column → value ≡ count_of counts p
value_from counts p column value at own is =
    is ∙ (ap (λ k. count_at counts.rows.map.entries (page_of p) k) at ∙ count_there counts p own)
