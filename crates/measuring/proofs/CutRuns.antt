-- Runs of visits as runs of a cut.
use Rattle.std.proofs.Common.{◌≡◌, ℕ, zero, suc, ◌+◌, ◌<◌, ◌≤◌, ◌==◌, ◌&&◌, ◌||◌, Bool, true, false, List, [], ◌∷◌, ◌++◌}
use Rattle.std.proofs.Common.{refl, sym, ap, subst, ◌∙◌, arith, not}
use Rattle.std.proofs.Common.{append_assoc, replicate, bit_or, nat_le, take, drop, get_or, length, sub-one, ◌-◌, ◌^◌}
use Rattle.std.specs.List.{list_all, AllByRecursion}
use Rattle.std.specs.Int.Bits.{or_self, or_zero_r}
use Rattle.std.proofs.lemmas.Bool.{and_parts, and_from, lt-ltb, leb-true, ne_eqb}
use Rattle.std.proofs.lemmas.Nat.Bits.{same_from_bits, bit_at_or}
use Rattle.cut_file.specs.Cuts.{neighbours_pass, is_run, are_runs, is_point, is_point_of, is_rest, have_other_masks}
use Rattle.cut_file.specs.declared.points.CutPoint.{CutPoint}
use Rattle.cut_file.specs.declared.points.Run.{Run}
use Rattle.cut_file.specs.Masks.{listed_masks}
use Rattle.cut_file.proofs.Following.{all_push, is_so, neighbours_front, neighbours_push}
use Rattle.cut_file.specs.Private.Reading.{may_follow}
use Rattle.flow_base.specs.declared.points.Point.{Point}
use Rattle.std.proofs.lemmas.List.{append-nil, replicate-append-replicate, take_all}
use Rattle.acceptance_law.specs.RunCuts.{united}
use Rattle.measuring.specs.declared.point_visits.VisitRun.{VisitRun}
use Rattle.measuring.specs.declared.point_visits.PointVisits.{PointVisits}
use Rattle.measuring.specs.CutRuns.{as_run, as_runs, points_of, once, united_runs}
use Rattle.measuring.specs.PointMasks.{all_runs}
use Rattle.measuring.specs.VisitRuns.{run_masks, is_visit_run, stay_apart}
use Rattle.measuring.proofs.VisitRuns.{follows_last, length_more, length_push, masks_push}

pub runs_push : (runs : List VisitRun) (run : VisitRun) → as_runs (runs ++ run ∷ []) ≡ as_runs runs ++ as_run run ∷ []
runs_push [] run = refl
runs_push (first ∷ runs) run = ap (λ list. as_run first ∷ list) (runs_push runs run)

pub masks_same : (runs : List VisitRun) → listed_masks (as_runs runs) ≡ run_masks runs
unfolding listed_masks run_masks
masks_same [] = refl
masks_same (run ∷ runs) = ap (λ masks. replicate run.count run.mask ++ masks) (masks_same runs)

-- runs of fewer than 2^32 visits that stay apart have different masks
pub other_neighbours : (runs : List VisitRun) → length (run_masks runs) < 2 ^ 32 → neighbours_pass stay_apart runs ≡ true →
    neighbours_pass have_other_masks (as_runs runs) ≡ true
other_neighbours [] few apart = refl
other_neighbours (run ∷ []) few apart = refl
other_neighbours (run ∷ (next ∷ runs)) few apart =
    let parts = and_parts (stay_apart run next) (neighbours_pass stay_apart (next ∷ runs)) apart in
    let first = length_more run (next ∷ runs) in
    let second = length_more next runs in
    and_from (have_other_masks (as_run run) (as_run next)) (neighbours_pass have_other_masks (as_runs (next ∷ runs)))
    (first_of_two (not (run.mask == next.mask)) (nat_le 18446744073709551616 (run.count + next.count)) parts.0
    (λ many. let most = leb-true _ _ many in omega (arith, most, few, first, second)))
    (other_neighbours (next ∷ runs) (omega (arith, few, first)) parts.1)
  where
    first_of_two : (a b : Bool) → (a || b) ≡ true → (b ≡ true → ⊥) → a ≡ true
    first_of_two true b either none = refl
    first_of_two false b either none = absurd (none either)

pub apart_each : (visits : PointVisits) → neighbours_pass stay_apart (all_runs visits) ≡ true
apart_each visits =
    (and_parts (list_all is_visit_run (all_runs visits)) (neighbours_pass stay_apart (all_runs visits))
    (is_so _ visits.sound)).1

pub some_each : (visits : PointVisits) → (list_all is_visit_run visits.earlier ≡ true) × (is_visit_run visits.latest ≡
    true)
some_each visits =
    let all = and_parts (list_all is_visit_run (all_runs visits)) (neighbours_pass stay_apart (all_runs visits))
    (is_so _ visits.sound) in
    and_parts (list_all is_visit_run visits.earlier) (is_visit_run visits.latest) (sym (all_push is_visit_run
    visits.earlier visits.latest) ∙ all.0)

-- ---- runs of a cut, one more at a time

pub listed_push : (runs : List Run) (run : Run) → listed_masks (runs ++ run ∷ []) ≡ listed_masks runs ++ replicate run.count
    run.mask
unfolding listed_masks
listed_push [] run = append-nil (replicate run.count run.mask)
listed_push (first ∷ runs) run =
    ap (λ masks. replicate first.count first.mask ++ masks) (listed_push runs run)
    ∙ sym (append_assoc (replicate first.count first.mask) (listed_masks runs) (replicate run.count run.mask))

-- a run may stand where another with its mask may
follows_alike : (runs : List Run) (run other : Run) → run.mask ≡ other.mask →
    may_follow have_other_masks runs run ≡ may_follow have_other_masks runs other
follows_alike [] run other mask = refl
follows_alike (first ∷ []) run other mask = ap (λ m. not (first.mask == m)) mask
follows_alike (first ∷ (second ∷ runs)) run other mask = follows_alike (second ∷ runs) run other mask

pub valid_push : (runs : List Run) (run other : Run) → run.mask ≡ other.mask → list_all is_run runs ≡ true →
    is_run run ≡ true → neighbours_pass have_other_masks (runs ++ other ∷ []) ≡ true → are_runs (runs ++ run ∷ []) ≡ true
valid_push runs run other mask all own apart =
    let near = and_parts (neighbours_pass have_other_masks runs) (may_follow have_other_masks runs other)
    (sym (neighbours_push have_other_masks runs other) ∙ apart) in
    and_from (list_all is_run (runs ++ run ∷ [])) (neighbours_pass have_other_masks (runs ++ run ∷ []))
    (all_push is_run runs run ∙ and_from _ _ all own)
    (neighbours_push have_other_masks runs run ∙ and_from _ _ near.0 (follows_alike runs run other mask ∙ near.1))

pub valid_front : (runs more : List Run) → list_all is_run runs ≡ true →
    neighbours_pass have_other_masks (runs ++ more) ≡ true → are_runs runs ≡ true
valid_front runs more all apart =
    and_from (list_all is_run runs) (neighbours_pass have_other_masks runs) all
    (neighbours_front have_other_masks runs more apart)

-- a run with another mask may stand after the last
pub apart_push : (runs : List Run) (last next : Run) → (last.mask ≡ next.mask → ⊥) →
    neighbours_pass have_other_masks (runs ++ last ∷ []) ≡ true →
    neighbours_pass have_other_masks ((runs ++ last ∷ []) ++ next ∷ []) ≡ true
apart_push runs last next other apart =
    neighbours_push have_other_masks (runs ++ last ∷ []) next
    ∙ and_from _ _ apart (follows_last have_other_masks runs last next ∙ ap not (ne_eqb last.mask next.mask other))

-- visits with mask 0 after a run with that mask
pub clean_latest : (latest : VisitRun) (n clean : ℕ) → n ≡ clean → latest.mask ≡ 0 →
    replicate (latest.count + n) 0 ≡ replicate latest.count latest.mask ++ replicate clean 0
clean_latest latest n clean same mask =
    sym (replicate-append-replicate latest.count n 0)
    ∙ (ap (λ k. replicate latest.count 0 ++ replicate k 0) same
    ∙ ap (λ m. replicate latest.count m ++ replicate clean 0) (sym mask))

-- ---- the runs of a point's visits

pub apart_latest : (visits : PointVisits) (n : ℕ) → length (run_masks (all_runs visits)) + n < 2 ^ 32 →
    neighbours_pass have_other_masks (as_runs visits.earlier ++ as_run visits.latest ∷ []) ≡ true
apart_latest visits n few =
    ap (neighbours_pass have_other_masks) (sym (runs_push visits.earlier visits.latest))
    ∙ other_neighbours (all_runs visits) (omega (arith, few)) (apart_each visits)

pub few_earlier : (visits : PointVisits) (n : ℕ) → length (run_masks (all_runs visits)) + n < 2 ^ 32 →
    length (run_masks visits.earlier) < 2 ^ 32
few_earlier visits n few = let whole = length_push visits.earlier visits.latest in omega (arith, few, whole)

pub few_latest : (visits : PointVisits) (n : ℕ) → length (run_masks (all_runs visits)) + n < 2 ^ 32 →
    visits.latest.count + n < 2 ^ 32
few_latest visits n few = let whole = length_push visits.earlier visits.latest in omega (arith, few, whole)

-- the masks of the runs before the latest, then those of the latest, and then those of later visits
pub masks_then : (visits : PointVisits) (more : List ℕ) →
    listed_masks (as_runs visits.earlier) ++ (replicate visits.latest.count visits.latest.mask ++ more) ≡
    run_masks (all_runs visits) ++ more
masks_then visits more =
    ap (λ masks. masks ++ (replicate visits.latest.count visits.latest.mask ++ more)) (masks_same visits.earlier)
    ∙ (sym (append_assoc (run_masks visits.earlier) (replicate visits.latest.count visits.latest.mask) more)
    ∙ ap (λ masks. masks ++ more) (sym (masks_push visits.earlier visits.latest)))

-- ---- unions

pub or_assoc : (a b c : ℕ) → bit_or (bit_or a b) c ≡ bit_or a (bit_or b c)
or_assoc a b c = same_from_bits (bit_or (bit_or a b) c) (bit_or a (bit_or b c)) (λ i.
    omega (arith, bit_at_or (bit_or a b) c i, bit_at_or a b i, bit_at_or a (bit_or b c) i, bit_at_or b c i))

united_more : (n mask : ℕ) (masks : List ℕ) → united (replicate (suc n) mask ++ masks) ≡ bit_or mask (united masks)
unfolding united
united_more zero mask masks = refl
united_more (suc n) mask masks =
    ap (bit_or mask) (united_more n mask masks)
    ∙ (sym (or_assoc mask mask (united masks)) ∙ ap (λ m. bit_or m (united masks)) (or_self mask))

united_some : (n mask : ℕ) (masks : List ℕ) → 0 < n → united (replicate n mask ++ masks) ≡ bit_or mask (united masks)
united_some zero mask masks some = absurd (omega arith)
united_some (suc n) mask masks some = united_more n mask masks

pub runs_united : (runs : List Run) → list_all is_run runs ≡ true → united (listed_masks runs) ≡ united_runs runs
unfolding united listed_masks
runs_united [] valid = refl
runs_united (run ∷ runs) valid =
    let parts = and_parts (is_run run) (list_all is_run runs) valid in
    let some : 1 ≤ run.count = leb-true 1 run.count (and_parts (nat_le 1 run.count) _ parts.0).0 in
    united_some run.count run.mask (listed_masks runs) (omega (arith, some))
    ∙ ap (bit_or run.mask) (runs_united runs parts.1)

pub masks_none : listed_masks [] ≡ []
unfolding listed_masks
masks_none = refl

pub points_push : (made : List CutPoint) (next : CutPoint) → points_of (made ++ next ∷ []) ≡ points_of made ++
    next.point ∷ []
points_push [] next = refl
points_push (first ∷ made) next = ap (λ list. first.point ∷ list) (points_push made next)

pub all_by_push : {A : Type 0} (P : A → Type 0) (items : List A) (item : A) → AllByRecursion P items → P item →
    AllByRecursion P (items ++ item ∷ [])
all_by_push P [] item all own = (own, tt)
all_by_push P (first ∷ items) item all own = (all.0, all_by_push P items item all.1 own)

-- ---- what is left of a list after its first item

tail : {A : Type 0} (x : A) (xs : List A) → take (length (x ∷ xs) - 1) (drop 1 (x ∷ xs)) ≡ xs
tail x xs = rw sub-one (take_all (length xs) xs (omega arith))

pub all_later : {A : Type 0} (test : A → Bool) (rest : List A) → 1 ≤ length rest → list_all test rest ≡ true →
    list_all test (take (length rest - 1) (drop 1 rest)) ≡ true
all_later test [] some all = absurd (omega arith)
all_later test (item ∷ items) some all =
    ap (list_all test) (tail item items) ∙ (and_parts (test item) (list_all test items) all).1

pub runs_step : (runs after whole : List Run) (rest : List VisitRun) (other : VisitRun) → 1 ≤ length rest →
    after ≡ runs ++ as_run (get_or rest 0 other) ∷ [] → runs ++ as_runs rest ≡ whole →
    after ++ as_runs (take (length rest - 1) (drop 1 rest)) ≡ whole
runs_step runs after whole [] other some put e = absurd (omega arith)
runs_step runs after whole (run ∷ rest) other some put e =
    ap (λ list. list ++ as_runs (take (length (run ∷ rest) - 1) (drop 1 (run ∷ rest)))) put
    ∙ (ap (λ list. (runs ++ as_run run ∷ []) ++ as_runs list) (tail run rest)
    ∙ (append_assoc runs (as_run run ∷ []) (as_runs rest) ∙ e))

pub few_first : (rest : List VisitRun) (other : VisitRun) → 1 ≤ length rest → length (run_masks rest) < 2 ^ 32 →
    (get_or rest 0 other).count < 2 ^ 32
few_first [] other some few = absurd (omega arith)
few_first (run ∷ runs) other some few = let whole = length_more run runs in omega (arith, few, whole)

pub few_later : (rest : List VisitRun) → 1 ≤ length rest → length (run_masks rest) < 2 ^ 32 →
    length (run_masks (take (length rest - 1) (drop 1 rest))) < 2 ^ 32
few_later [] some few = absurd (omega arith)
few_later (run ∷ runs) some few =
    let whole = length_more run runs in
    let same = ap (λ list. length (run_masks list)) (tail run runs) in
    omega (arith, few, whole, same)

pub united_step : (mask whole : ℕ) (rest : List Run) (other : Run) → 1 ≤ length rest →
    bit_or mask (united_runs rest) ≡ whole →
    bit_or (bit_or mask (get_or rest 0 other).mask) (united_runs (take (length rest - 1) (drop 1 rest))) ≡ whole
united_step mask whole [] other some e = absurd (omega arith)
united_step mask whole (run ∷ runs) other some e =
    ap (λ list. bit_or (bit_or mask run.mask) (united_runs list)) (tail run runs)
    ∙ (or_assoc mask run.mask (united_runs runs) ∙ e)

pub united_end : (mask whole : ℕ) (rest : List Run) → length rest < 1 → bit_or mask (united_runs rest) ≡ whole →
    mask ≡ whole
united_end mask whole [] none e = sym (or_zero_r mask) ∙ e
united_end mask whole (run ∷ runs) none e = absurd (omega arith)

pub points_step : (made : List CutPoint) (next : CutPoint) (rest all : List Point) (other : Point) → 1 ≤ length rest →
    next.point ≡ get_or rest 0 other → points_of made ++ rest ≡ all →
    points_of (made ++ next ∷ []) ++ take (length rest - 1) (drop 1 rest) ≡ all
points_step made next [] all other some own e = absurd (omega arith)
points_step made next (point ∷ rest) all other some own e =
    ap (λ list. points_of (made ++ next ∷ []) ++ list) (tail point rest)
    ∙ (ap (λ list. list ++ rest) (points_push made next)
    ∙ (append_assoc (points_of made) (next.point ∷ []) rest
    ∙ (ap (λ p. points_of made ++ p ∷ rest) own ∙ e)))

pub all_by_first : {A : Type 0} (P : A → Type 0) (rest : List A) (other : A) → 1 ≤ length rest → AllByRecursion P rest →
    P (get_or rest 0 other)
all_by_first P [] other some all = absurd (omega arith)
all_by_first P (item ∷ items) other some all = all.0

pub all_by_later : {A : Type 0} (P : A → Type 0) (rest : List A) → 1 ≤ length rest → AllByRecursion P rest →
    AllByRecursion P (take (length rest - 1) (drop 1 rest))
all_by_later P [] some all = absurd (omega arith)
all_by_later P (item ∷ items) some all = subst (AllByRecursion P) (sym (tail item items)) all.1

-- ---- a point of the cut

single_valid : (mask : ℕ) → mask < 2 ^ 32 → is_rest (once mask) ≡ true
single_valid mask word = and_from (is_run (record { count = 1; mask = mask }) && true) true
    (and_from (is_run (record { count = 1; mask = mask })) true (lt-ltb mask 4294967296 word) refl) refl

-- a point with runs and one mask after them
pub point_valid : (point : Point) (runs rest : List Run) (mask : ℕ) → is_point point ≡ true →
    are_runs runs ≡ true → mask < 2 ^ 32 → rest ≡ once mask →
    is_point_of 1 (record { point = point; runs = runs; rest = rest }) ≡ true
point_valid point runs rest mask place valid word is =
    ap (λ list. is_point_of 1 (record { point = point; runs = runs; rest = list })) is
    ∙ and_from (is_point point && (are_runs runs && is_rest (once mask))) true
    (and_from (is_point point) (are_runs runs && is_rest (once mask)) place
    (and_from (are_runs runs) (is_rest (once mask)) valid (single_valid mask word))) refl
