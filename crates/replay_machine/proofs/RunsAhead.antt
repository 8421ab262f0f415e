-- The masks that a point has ahead, as its visits pass.
use Rattle.std.proofs.Common.{◌≡◌, ℕ, suc, ◌+◌, ◌-◌, ◌<◌, ◌≤◌, inl, inr, List, [], ◌∷◌, length, drop, get_or, refl, sym}
use Rattle.std.proofs.Common.{ap, ◌∙◌, arith, drop-cons, add-one}
use Rattle.std.proofs.Math.ListN.{drop_of_length-le}
use Rattle.std.specs.Prelude.{bit_and}
use Rattle.std.specs.Prelude.{nat_le, Bool, true}
use Rattle.std.specs.List.{list_all}
use Rattle.std.proofs.lemmas.Bool.{and_parts, cases_Bool, leb-true}
use Rattle.std.proofs.lemmas.List.Folds.{list_all_at}
use Rattle.cut_file.specs.declared.points.Run.{Run}
use Rattle.cut_file.specs.declared.points.CutPoint.{CutPoint}
use Rattle.cut_file.specs.Cuts.{is_cut_point, is_point, are_runs, is_rest, is_run}
use Rattle.cut_file.specs.Masks.{listed_masks, repeated}
use Rattle.cut_file.proofs.MaskLists.{masks_count}
use Rattle.cut_file.proofs.Repeats.{repeated_first, repeated_later, repeated_round, masks_ended, masks_step}

abbrev pub run_of : ℕ → ℕ → Run
run_of left mask = record { count = left; mask = mask }

pub masked : (a b w v : ℕ) → a ≡ b → w ≡ v → bit_and a w ≡ bit_and b v
masked a b w v e f = rw (e, f) refl

-- the mask ahead at a visit
abbrev pub mask_ahead : List Run → List Run → ℕ → ℕ
mask_ahead runs rest visit = repeated (listed_masks runs) (listed_masks rest) (visit - 1)

-- while a run goes on its mask is next
pub run_one : (left mask : ℕ) (runs rest : List Run) → 1 ≤ left → mask_ahead (run_of left mask ∷ runs) rest 1 ≡ mask
run_one left mask runs rest some =
    ap (λ (l : List ℕ). repeated l (listed_masks rest) 0) (masks_step left mask runs some)
    ∙ repeated_first mask (listed_masks (run_of (left - 1) mask ∷ runs)) (listed_masks rest)

-- and then one visit fewer is left of it
pub run_next : (left mask : ℕ) (runs rest : List Run) (visit : ℕ) → 1 ≤ left → 1 ≤ visit →
    mask_ahead (run_of (left - 1) mask ∷ runs) rest visit ≡ mask_ahead (run_of left mask ∷ runs) rest (suc visit)
run_next left mask runs rest visit some first =
    let place : suc (visit - 1) ≡ suc visit - 1 = omega (arith, first) in
    sym (repeated_later mask (listed_masks (run_of (left - 1) mask ∷ runs)) (listed_masks rest) (visit - 1))
    ∙ ap (λ (l : List ℕ). repeated l (listed_masks rest) (suc (visit - 1))) (sym (masks_step left mask runs some))
    ∙ ap (λ (n : ℕ). repeated (listed_masks (run_of left mask ∷ runs)) (listed_masks rest) n) place

begun : (runs : List Run) (index : ℕ) (run : Run) → index < length runs → run ≡ get_or runs index run →
    drop index runs ≡ run_of run.count run.mask ∷ drop (index + 1) runs
begun runs index run inside is =
    rw add-one (drop-cons runs index run inside ∙ ap (λ (r : Run). r ∷ drop (suc index) runs) (sym is))

-- then the next run begins
pub run_begun : (left mask : ℕ) (runs rest : List Run) (index : ℕ) (run : Run) (visit : ℕ) → left ≡ 0 →
    index < length runs → run ≡ get_or runs index run →
    mask_ahead (run_of run.count run.mask ∷ drop (index + 1) runs) rest visit
    ≡ mask_ahead (run_of left mask ∷ drop index runs) rest visit
run_begun left mask runs rest index run visit none inside is =
    ap (λ (l : List Run). mask_ahead l rest visit) (sym (begun runs index run inside is))
    ∙ ap (λ (l : List ℕ). repeated l (listed_masks rest) (visit - 1)) (sym (masks_ended left mask (drop index runs) none))

no_masks : listed_masks [] ≡ []
unfolding listed_masks
no_masks = refl

some_masks : (rest : List Run) (first : Run) → 0 < length rest → first ≡ get_or rest 0 first → 1 ≤ first.count →
    0 < length (listed_masks rest)
some_masks [] first some is count = absurd (omega (arith, some))
some_masks (run ∷ rest) first some is count =
    let counted = masks_count run rest in
    let same : first.count ≡ run.count = ap (λ (r : Run). r.count) is in
    omega (arith, counted, same, count)

pub first_is : (rest : List Run) (none first : Run) → 0 < length rest → get_or rest 0 none ≡ get_or rest 0 first
first_is [] none first some = absurd (omega (arith, some))
first_is (run ∷ rest) none first some = refl

-- and after the last run the pattern begins
pub run_round : (left mask : ℕ) (runs rest : List Run) (index : ℕ) (first : Run) (visit : ℕ) → left ≡ 0 →
    length runs ≤ index → 0 < length rest → first ≡ get_or rest 0 first → 1 ≤ first.count →
    mask_ahead (run_of first.count first.mask ∷ drop 1 rest) rest visit
    ≡ mask_ahead (run_of left mask ∷ drop index runs) rest visit
run_round left mask runs rest index first visit none past some is count =
    let whole : drop 0 rest ≡ run_of first.count first.mask ∷ drop (0 + 1) rest = begun rest 0 first some is in
    ap (λ (l : List Run). mask_ahead l rest visit) (sym whole)
    ∙ sym (repeated_round (listed_masks rest) (visit - 1) (some_masks rest first some is count))
    ∙ ap (λ (l : List ℕ). repeated l (listed_masks rest) (visit - 1))
    (sym (masks_ended left mask (drop index runs) none ∙ ap listed_masks (drop_of_length-le runs past) ∙ no_masks))

-- ---- each item of a list of which all pass a test passes it

pub list_pass : {A : Type 0} (test : A → Bool) (items : List A) (i : ℕ) (d : A) → i < length items →
    list_all test items ≡ true → test (get_or items i d) ≡ true
list_pass test items i d inside all = elim (cases_Bool (test (get_or items i d))) [
  | inl pass ↦ pass
  | inr fail ↦ let none = list_all_at test items i d inside fail in absurd (cc)
]

pub run_count : (runs : List Run) (i : ℕ) (run : Run) → are_runs runs ≡ true → i < length runs →
    run ≡ get_or runs i run → 1 ≤ run.count
run_count runs i run known inside is =
    let all = and_parts (list_all is_run runs) _ known in
    let here : is_run run ≡ true = ap is_run is ∙ list_pass is_run runs i run inside all.0 in
    leb-true _ _ (and_parts (nat_le 1 run.count) _ here).0

pub runs_known : (p : CutPoint) → is_cut_point p ≡ true → are_runs p.runs ≡ true
runs_known p known = (and_parts (are_runs p.runs) (is_rest p.rest) (and_parts (is_point p.point) _ known).1).0

pub rest_known : (p : CutPoint) → is_cut_point p ≡ true → are_runs p.rest ≡ true
rest_known p known =
    let rest = and_parts (are_runs p.runs) (is_rest p.rest) (and_parts (is_point p.point) _ known).1 in
    (and_parts (nat_le 1 (length p.rest)) (are_runs p.rest) rest.1).1

pub rest_some : (p : CutPoint) → is_cut_point p ≡ true → 0 < length p.rest
rest_some p known =
    let rest = and_parts (are_runs p.runs) (is_rest p.rest) (and_parts (is_point p.point) _ known).1 in
    let some : 1 ≤ length p.rest = leb-true _ _ (and_parts (nat_le 1 (length p.rest)) (are_runs p.rest) rest.1).0 in
    omega (arith, some)
