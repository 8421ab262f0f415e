-- The points that have visits, one by one.
use Rattle.std.proofs.Common.{◌≡◌, ℕ, zero, suc, ◌+◌, ◌-◌, ◌*◌, ◌/◌, ◌%◌, ◌<◌, ◌≤◌, ◌==◌, ◌||◌, ◌++◌, ◌∷◌, [], cond, Bool}
use Rattle.std.proofs.Common.{true, false, List, length, drop, get_or, take, replicate, Option, Some, None, slice_get}
use Rattle.std.proofs.Common.{refl, sym, ap, ◌∙◌, subst, arith}
use Rattle.std.proofs.Math.Seq.{drop-cons}
use Rattle.std.proofs.lemmas.Bool.{and_parts, eqb-true, false≢true}
use Rattle.std.proofs.lemmas.Option.{slice_get_within, get_or_from_slice_get}
use Rattle.std.specs.Map.{lookup}
use Rattle.std.specs.Option.{is_some}
use Rattle.flow_base.specs.declared.points.Point.{Point}
use Rattle.flow_base.specs.declared.points.Slot.{Slot}
use Rattle.flow_base.specs.PointOrders.{is_same}
use Rattle.flow_base.proofs.PointOrders.{one_if_same}
use Rattle.measuring.specs.declared.counter_rows.Row.{Row}
use Rattle.measuring.specs.declared.kept_visits.KeptVisits.{KeptVisits}
use Rattle.measuring.specs.declared.point_visits.PointVisits.{PointVisits}
use Rattle.measuring.specs.declared.recordings.Recording.{Recording}
use Rattle.measuring.specs.Counts.{column_of, count_at, count_of, is_counted, page_of, row_counts}
use Rattle.measuring.specs.KeptVisits.{masks_if_any}
use Rattle.measuring.specs.Visits.{all_masks}
use Rattle.many_runs.specs.Private.Joining.{recorded_masks}
use Rattle.many_runs.specs.Private.Points.{point_at}
use Rattle.many_runs.specs.Uniting.{united_masks}
use Rattle.many_runs.proofs.Fronts.{is_none, opens}
use Rattle.many_runs.proofs.JoinedMasks.{none_joined}

drop_found : {X : Type 0} (es : List X) (i : ℕ) (e : X) → slice_get es i ≡ Some e → drop i es ≡ e ∷ drop (suc i) es
drop_found es i e found =
    drop-cons es i e (slice_get_within es i e found) ∙ ap (λ x. x ∷ drop (suc i) es) (get_or_from_slice_get es i e e found)

-- the entry before those that are left out
drop_one : {X : Type 0} (es : List X) (left : ℕ) (e : X) → 0 < left → slice_get es (left - 1) ≡ Some e →
    drop (left - 1) es ≡ e ∷ drop left es
drop_one es left e some at =
    let whole : suc (left - 1) ≡ left = omega (arith, some) in
    drop_found es (left - 1) e at ∙ ap (λ i. e ∷ drop i es) whole

-- ---- kept runs

or_none : (a b : Bool) → (a || b) ≡ false → (a ≡ false) × (b ≡ false)
or_none true b none = absurd (false≢true (sym none))
or_none false b none = (refl, none)

pub earlier_lacks : (new old same : Bool) → new ≡ (old || same) → new ≡ false → old ≡ false
earlier_lacks new old same put lacks = (or_none old same (sym put ∙ lacks)).0

chosen_none : {X : Type 0} (b : Bool) (x : X) (o : Option X) → b ≡ false → is_some o ≡ false →
    is_some (cond b (Some x) o) ≡ false
chosen_none true x o other none = absurd (false≢true (sym other))
chosen_none false x o other none = none

pub kept_more : (es : List (Point × PointVisits)) (left : ℕ) (p : Point) (v : PointVisits) (q : Point)
    (new old : Bool) → 0 < left → slice_get es (left - 1) ≡ Some (p, v) → new ≡ (old || is_same q p) → new ≡ false →
    (old ≡ false → is_some (lookup (is_same q) (drop left es)) ≡ false) →
    is_some (lookup (is_same q) (drop (left - 1) es)) ≡ false
kept_more es left p v q new old some at put lacks before =
    let both = or_none old (is_same q p) (sym put ∙ lacks) in
    ap (λ list. is_some (lookup (is_same q) list)) (drop_one es left (p, v) some at)
    ∙ chosen_none (is_same q p) v (lookup (is_same q) (drop left es)) both.1 (before both.0)

-- ---- counters

pub counts_more : (es : List (Point × Row)) (left : ℕ) (p : Point) (row : Row) (page : Point) (column : ℕ)
    (Holds : Point → Type 0) → 0 < left → slice_get es (left - 1) ≡ Some (p, row) →
    (0 < count_at (drop left es) page column → Holds (point_at page column)) →
    (page.address % 4096 ≡ 0) →
    (p.address % 4096 ≡ 0 → column < length row.counts.items → 0 < get_or row.counts.items column 0 →
    Holds (point_at p column)) →
    0 < count_at (drop (left - 1) es) page column → Holds (point_at page column)
counts_more es left p row page column Holds some at before whole here count =
    pick (is_same page p) refl
    (subst (λ list. 0 < count_at list page column) (drop_one es left (p, row) some at) count)
  where
    inside : (list : List ℕ) (i : ℕ) → 0 < get_or list i 0 → i < length list
    inside [] i more = absurd (omega arith)
    inside (x ∷ list) zero more = omega arith
    inside (x ∷ list) (suc i) more = let rest = inside list i more in omega (arith, rest)

    pick : (b : Bool) → is_same page p ≡ b →
        0 < get_or (row_counts (cond b (Some row) (lookup (is_same page) (drop left es)))) column 0 →
        Holds (point_at page column)
    pick true same more =
        let one : page ≡ p = one_if_same page p same in
        subst (λ x. Holds (point_at x column)) (sym one)
        (here (ap (λ (x : Point). x.address % 4096) (sym one) ∙ whole) (inside row.counts.items column more) more)
    pick false other more = before more

point_of : ℕ → ℕ → Slot → Point
point_of region address slot = record { region = region; address = address; slot = slot }

place_is : (q : Point) → q.address % 4 ≡ 0 → point_at (page_of q) (column_of q) ≡ q
unfolding point_of
place_is q whole =
    ap (λ address. point_of q.region address q.slot)
    (let address : q.address / 4096 * 4096 + 4 * (q.address % 4096 / 4) ≡ q.address = omega (arith, whole) in address)

counted_some : (counts : _) (q : Point) → 0 < count_of counts q →
    (q.address % 4 ≡ 0) × (0 < count_at counts.rows.map.entries (page_of q) (column_of q))
unfolding count_of
counted_some counts q some = pick (is_counted q) refl some
  where
    pick : (b : Bool) → is_counted q ≡ b →
        0 < cond b (count_at counts.rows.map.entries (page_of q) (column_of q)) 0 →
        (q.address % 4 ≡ 0) × (0 < count_at counts.rows.map.entries (page_of q) (column_of q))
    pick true counted more = (eqb-true _ _ (and_parts _ (q.address % 4 == 0) counted).1, more)
    pick false none more = absurd (omega arith)

some_or_none : (n : ℕ) → (0 < n → ⊥) → n ≡ 0
some_or_none zero none = refl
some_or_none (suc n) none = absurd (none (omega arith))

masks_none : (o : Option PointVisits) (n : ℕ) → is_some o ≡ false → n ≡ 0 → masks_if_any o ++ replicate n 0 ≡ []
masks_none None n none zero_is = ap (λ k. replicate k 0) zero_is
masks_none (Some v) n none zero_is = absurd (false≢true (sym none))

-- a point without kept runs, whose counter is 0, has no visit
pub no_visits : (visits : KeptVisits) (q : Point) (Lacks : Point → Bool) →
    is_some (lookup (is_same q) visits.points.map.entries) ≡ false → Lacks q ≡ false →
    ((page : Point) (column : ℕ) → page.address % 4096 ≡ 0 → 0 < count_at visits.counts.rows.map.entries page column →
    Lacks (point_at page column) ≡ true) → all_masks visits q ≡ []
no_visits visits q Lacks kept lacks counted =
    masks_none (lookup (is_same q) visits.points.map.entries) (count_of visits.counts q) kept
    (some_or_none (count_of visits.counts q)
    (λ some.
    let both = counted_some visits.counts q some in
    false≢true (sym lacks ∙ (ap Lacks (sym (place_is q both.0))
    ∙ counted (page_of q) (column_of q) (let whole : q.address / 4096 * 4096 % 4096 ≡ 0 = omega arith in whole) both.1))))

-- ---- recordings

pub recorded_more : (rest : List Recording) (recording : Recording) (q : Point) → 1 ≤ length rest →
    recording ≡ get_or rest 0 recording → all_masks recording.visits q ≡ [] →
    recorded_masks q (take (length rest - 1) (drop 1 rest)) ≡ [] → recorded_masks q rest ≡ []
unfolding recorded_masks
recorded_more rest recording q some own none later =
    ap (λ list. recorded_masks q list)
    (opens rest recording some ∙ ap (λ r. r ∷ take (length rest - 1) (drop 1 rest)) (sym own))
    ∙ (ap (λ masks. united_masks masks (recorded_masks q (take (length rest - 1) (drop 1 rest)))) none
    ∙ (none_joined (recorded_masks q (take (length rest - 1) (drop 1 rest))) ∙ later))

pub recorded_end : (rest : List Recording) (q : Point) → length rest < 1 → recorded_masks q rest ≡ []
unfolding recorded_masks
recorded_end rest q none = ap (λ list. recorded_masks q list) (is_none rest none)

-- ---- what has been put stays

pub keeps : (new old : Bool) → (new ≡ false → old ≡ false) → old ≡ true → new ≡ true
keeps true old stay has = refl
keeps false old stay has = absurd (false≢true (sym (stay refl) ∙ has))
