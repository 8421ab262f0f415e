-- A trimmed point has the masks of the point that it was made of.
use Rattle.std.proofs.Common.{◌≡◌, ◌≢◌, ℕ, zero, suc, ◌+◌, ◌-◌, ◌<◌, ◌≤◌, inl, inr, true, false, List, [], ◌∷◌, ◌++◌, length}
use Rattle.std.proofs.Common.{get_or, refl, sym, ap, subst, ◌∙◌, arith, if◌then◌else◌, length-append, take}
use Rattle.std.specs.Prelude.{replicate, ◌==◌, ◌%◌, map, slice_index_or, nat_le}
use Rattle.std.specs.List.{list_all}
use Rattle.std.proofs.lemmas.Bool.{and_parts, and_from, cases_Bool, cases_lt, cond-false, cond-true, eq-eqb, eqb-true}
use Rattle.std.proofs.lemmas.List.{get_or-replicate, get_or_past, length-replicate, get_or_append_left}
use Rattle.flow_base.specs.declared.points.Point.{Point}
use Rattle.flow_base.specs.PointOrders.{is_below, is_same}
use Rattle.cut_file.specs.declared.points.CutPoint.{CutPoint}
use Rattle.cut_file.specs.declared.points.Run.{Run}
use Rattle.cut_file.specs.Cuts.{are_points, are_runs, have_other_masks, is_cut_point, is_point, is_rest, is_run, neighbours_pass}
use Rattle.cut_file.specs.Cuts.{stands_before, is_word}
use Rattle.cut_file.specs.Masks.{MaskAt, listed_masks, mask_of, repeated}
use Rattle.cut_file.proofs.MaskLists.{repeated_here, repeated_behind}
use Rattle.replay_machine.specs.Private.Copies.{trimmed, trimmed_to, without_last}
use Rattle.replay_machine.specs.Visits.{SameAhead}
use Rattle.replay_machine.proofs.RunsAhead.{masked, run_of, rest_known, runs_known, run_count}

-- ---- masks after which one mask stands for ever

-- an item that is there is the same with each default
other_default : (masks : List ℕ) (place d e : ℕ) → place < length masks → get_or masks place d ≡ get_or masks place e
other_default [] place d e inside = absurd (omega (arith, inside))
other_default (mask ∷ masks) zero d e inside = refl
other_default (mask ∷ masks) (suc place) d e inside = other_default masks place d e (omega (arith, inside))

some_of_one : (count mask d place : ℕ) → 1 ≤ count →
    slice_index_or (replicate count mask ++ []) (place % length (replicate count mask ++ [])) d ≡ mask
some_of_one count mask d place some =
    let long : length (replicate count mask ++ []) ≡ count =
    length-append (replicate count mask) [] ∙ omega (arith, length-replicate count mask) in
    let at : place % length (replicate count mask ++ []) ≡ place % count = ap (λ (n : ℕ). place % n) long in
    let below : place % count < count = omega arith in
    let inside : place % count < length (replicate count mask) = rw length-replicate below in
    ap (λ (n : ℕ). slice_index_or (replicate count mask ++ []) n d) at
    ∙ get_or_append_left (replicate count mask) [] d (place % count) inside
    ∙ get_or-replicate count (place % count) mask d below

-- with one run as a pattern, its mask is the default
one_pattern : (masks : List ℕ) (count mask place : ℕ) → 1 ≤ count →
    repeated masks (listed_masks (run_of count mask ∷ [])) place ≡ slice_index_or masks place mask
unfolding listed_masks
one_pattern masks count mask place some = elim (cases_lt place (length masks)) [
  | inl inside ↦
      repeated_here masks (listed_masks (run_of count mask ∷ [])) place inside ∙ other_default masks place 0 mask inside
  | inr behind ↦
      repeated_behind masks (listed_masks (run_of count mask ∷ [])) place behind
      ∙ some_of_one count mask 0 (place - length masks) some ∙ sym (get_or_past masks place mask behind)
]

append_same : (front before after : List ℕ) (mask place : ℕ) →
    ((p : ℕ) → slice_index_or before p mask ≡ slice_index_or after p mask) →
    slice_index_or (front ++ before) place mask ≡ slice_index_or (front ++ after) place mask
append_same [] before after mask place same = same place
append_same (first ∷ front) before after mask zero same = refl
append_same (first ∷ front) before after mask (suc place) same = append_same front before after mask place same

all_default : (count mask place : ℕ) → mask ≡ slice_index_or (replicate count mask ++ []) place mask
all_default zero mask place = refl
all_default (suc count) mask zero = refl
all_default (suc count) mask (suc place) = all_default count mask place

-- a last run of the default may be left out
last_out : (mask : ℕ) (runs : List Run) (place : ℕ) →
    slice_index_or (listed_masks (without_last mask runs)) place mask ≡ slice_index_or (listed_masks runs) place mask
unfolding listed_masks
last_out mask [] place = refl
last_out mask (run ∷ []) place = elim (cases_Bool (run.mask == mask)) [
  | inl same ↦
      ap (λ (l : List Run). slice_index_or (listed_masks l) place mask)
      (cond-true (run.mask == mask) [] (run ∷ []) same)
      ∙ all_default run.count mask place
      ∙ ap (λ (m : ℕ). slice_index_or (replicate run.count m ++ []) place mask) (sym (eqb-true run.mask mask same))
  | inr other ↦
      ap (λ (l : List Run). slice_index_or (listed_masks l) place mask)
      (cond-false (run.mask == mask) [] (run ∷ []) other)
]
last_out mask (run ∷ (next ∷ runs)) place =
    append_same (replicate run.count run.mask) (listed_masks (without_last mask (next ∷ runs)))
    (listed_masks (next ∷ runs)) mask place (λ p. last_out mask (next ∷ runs) p)

pub no_last : (mask : ℕ) (runs : List Run) → length runs ≤ 0 → runs ≡ without_last mask runs
no_last mask [] none = refl
no_last mask (run ∷ runs) none = absurd (omega (arith, none))

pub last_gone : (mask : ℕ) (runs : List Run) (none : Run) (at : ℕ) → at + 1 ≡ length runs →
    (get_or runs at none).mask ≡ mask → take at runs ≡ without_last mask runs
last_gone mask [] none at count same = absurd (omega (arith, count))
last_gone mask (run ∷ []) none zero count same =
    sym (cond-true (run.mask == mask) [] (run ∷ []) (eq-eqb run.mask mask same))
last_gone mask (run ∷ []) none (suc at) count same = absurd (omega (arith, count))
last_gone mask (run ∷ (next ∷ runs)) none zero count same = absurd (omega (arith, count))
last_gone mask (run ∷ (next ∷ runs)) none (suc at) count same =
    ap (λ (l : List Run). run ∷ l) (last_gone mask (next ∷ runs) none at (omega (arith, count)) same)

pub last_stays : (mask : ℕ) (runs : List Run) (none : Run) (at : ℕ) → at + 1 ≡ length runs →
    (get_or runs at none).mask ≢ mask → runs ≡ without_last mask runs
last_stays mask [] none at count other = refl
last_stays mask (run ∷ []) none zero count other = elim (cases_Bool (run.mask == mask)) [
  | inl same ↦ absurd (other (eqb-true run.mask mask same))
  | inr apart ↦ sym (cond-false (run.mask == mask) [] (run ∷ []) apart)
]
last_stays mask (run ∷ []) none (suc at) count other = absurd (omega (arith, count))
last_stays mask (run ∷ (next ∷ runs)) none zero count other = absurd (omega (arith, count))
last_stays mask (run ∷ (next ∷ runs)) none (suc at) count other =
    ap (λ (l : List Run). run ∷ l) (last_stays mask (next ∷ runs) none at (omega (arith, count)) other)

-- ---- a trimmed point

trimmed_mask_to : (p : CutPoint) (rest : List Run) (visit : ℕ) → are_runs rest ≡ true → p.rest ≡ rest →
    mask_of (trimmed_to p rest) visit ≡ mask_of p visit
trimmed_mask_to p [] visit known is = refl
trimmed_mask_to p (first ∷ (second ∷ others)) visit known is = refl
trimmed_mask_to p (only ∷ []) visit known is =
    let some : 1 ≤ only.count = run_count (only ∷ []) 0 only known (omega arith) refl in
    masked _ _ _ _
    (one_pattern (listed_masks (without_last only.mask p.runs)) 1 only.mask (visit - 1) (omega arith)
    ∙ last_out only.mask p.runs (visit - 1)
    ∙ sym (one_pattern (listed_masks p.runs) only.count only.mask (visit - 1) some)
    ∙ ap (λ (l : List Run). repeated (listed_masks p.runs) (listed_masks l) (visit - 1)) (sym is)) refl

trimmed_place_to : (p : CutPoint) (rest : List Run) → (trimmed_to p rest).point ≡ p.point
trimmed_place_to p [] = refl
trimmed_place_to p (only ∷ []) = refl
trimmed_place_to p (first ∷ (second ∷ others)) = refl

front_runs : (mask : ℕ) (runs : List Run) → list_all is_run runs ≡ true → list_all is_run (without_last mask runs) ≡ true
front_runs mask [] known = refl
front_runs mask (run ∷ []) known = elim (run.mask == mask) as (λ b. list_all is_run (if b then [] else run ∷ []) ≡ true) [
  | true ↦ refl
  | false ↦ known
]
front_runs mask (run ∷ (next ∷ runs)) known =
    let both = and_parts (is_run run) (list_all is_run (next ∷ runs)) known in
    and_from _ _ both.0 (front_runs mask (next ∷ runs) both.1)

front_differ : (mask : ℕ) (runs : List Run) → neighbours_pass have_other_masks runs ≡ true →
    neighbours_pass have_other_masks (without_last mask runs) ≡ true
front_differ mask [] known = refl
front_differ mask (run ∷ []) known =
    elim (run.mask == mask) as (λ b. neighbours_pass have_other_masks (if b then [] else run ∷ []) ≡ true) [
      | true ↦ refl
      | false ↦ refl
    ]
front_differ mask (run ∷ (next ∷ [])) known = elim (next.mask == mask) as
    (λ b. neighbours_pass have_other_masks (run ∷ (if b then [] else next ∷ [])) ≡ true) [
      | true ↦ refl
      | false ↦ known
    ]
front_differ mask (run ∷ (next ∷ (third ∷ runs))) known =
    let both = and_parts (have_other_masks run next) (neighbours_pass have_other_masks (next ∷ (third ∷ runs))) known in
    and_from _ _ both.0 (front_differ mask (next ∷ (third ∷ runs)) both.1)

trimmed_known_to : (p : CutPoint) (rest : List Run) → is_cut_point p ≡ true → p.rest ≡ rest →
    is_cut_point (trimmed_to p rest) ≡ true
trimmed_known_to p [] known is = known
trimmed_known_to p (first ∷ (second ∷ others)) known is = known
trimmed_known_to p (only ∷ []) known is =
    let runs = and_parts (list_all is_run p.runs) (neighbours_pass have_other_masks p.runs) (runs_known p known) in
    let rest : are_runs (only ∷ []) ≡ true = subst (λ (l : List Run). are_runs l ≡ true) is (rest_known p known) in
    let all : list_all is_run (only ∷ []) ≡ true = (and_parts (list_all is_run (only ∷ [])) _ rest).0 in
    let run : is_run only ≡ true = (and_parts (is_run only) _ all).0 in
    let word : is_word only.mask ≡ true =
    (and_parts (is_word only.count) (is_word only.mask) (and_parts (nat_le 1 only.count) _ run).1).1 in
    let one : is_run (run_of 1 only.mask) ≡ true = word in
    let fronts : are_runs (without_last only.mask p.runs) ≡ true =
    and_from _ _ (front_runs only.mask p.runs runs.0) (front_differ only.mask p.runs runs.1) in
    let last : is_rest (run_of 1 only.mask ∷ []) ≡ true = and_from _ _ (and_from _ _ one refl) refl in
    and_from _ _ (and_parts (is_point p.point) _ known).0 (and_from _ _ fronts last)

-- ---- all points

all_known : (points : List CutPoint) → list_all is_cut_point points ≡ true →
    list_all is_cut_point (map trimmed points) ≡ true
all_known [] known = refl
all_known (p ∷ points) known =
    let both = and_parts (is_cut_point p) (list_all is_cut_point points) known in
    and_from _ _ (trimmed_known_to p p.rest both.0 refl) (all_known points both.1)

ascend_all : (points : List CutPoint) → neighbours_pass stands_before points ≡ true →
    neighbours_pass stands_before (map trimmed points) ≡ true
ascend_all [] known = refl
ascend_all (p ∷ []) known = refl
ascend_all (p ∷ (q ∷ points)) known =
    let both = and_parts (is_below p.point q.point) (neighbours_pass stands_before (q ∷ points)) known in
    let first : is_below (trimmed p).point (trimmed q).point ≡ true =
    ap (λ (place : Point). is_below place (trimmed q).point) (trimmed_place_to p p.rest)
    ∙ ap (λ (place : Point). is_below p.point place) (trimmed_place_to q q.rest) ∙ both.0 in
    and_from _ _ first (ascend_all (q ∷ points) both.1)

pub trimmed_known : (points : List CutPoint) → are_points points ≡ true → are_points (map trimmed points) ≡ true
trimmed_known points known =
    let both = and_parts (list_all is_cut_point points) (neighbours_pass stands_before points) known in
    and_from _ _ (all_known points both.0) (ascend_all points both.1)

all_same : (points : List CutPoint) → list_all is_cut_point points ≡ true → SameAhead (map trimmed points) points
all_same [] known = λ point visit some. refl
all_same (p ∷ points) known = λ point visit some.
    let both = and_parts (is_cut_point p) (list_all is_cut_point points) known in
    ap (λ (place : Point). if is_same place point then mask_of (trimmed p) visit
    else MaskAt (map trimmed points) point visit) (trimmed_place_to p p.rest)
    ∙ ap (λ (m : ℕ). if is_same p.point point then m else MaskAt (map trimmed points) point visit)
    (trimmed_mask_to p p.rest visit (rest_known p both.0) refl)
    ∙ ap (λ (m : ℕ). if is_same p.point point then mask_of p visit else m)
    (all_same points both.1 point visit some)

pub trimmed_same : (points : List CutPoint) → are_points points ≡ true → SameAhead (map trimmed points) points
trimmed_same points known =
    all_same points (and_parts (list_all is_cut_point points) (neighbours_pass stands_before points) known).0
