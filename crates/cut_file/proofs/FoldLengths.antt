-- The text of a fold is not longer: its patterns have no more runs than the lists that they stand for.
use Rattle.std.proofs.Common.{◌≡◌, ℕ, zero, suc, ◌+◌, ◌*◌, ◌≤◌, ◌==◌, length, Bool, true, false, List, [], ◌∷◌, ◌++◌}
use Rattle.std.proofs.Common.{refl, ap, ◌∙◌, subst, arith, take, inl, inr}
use Rattle.std.specs.Prelude.{nat_le, not, replicate}
use Rattle.std.specs.List.{list_all}
use Rattle.std.proofs.lemmas.Bool.{and_parts, eq-eqb}
use Rattle.std.proofs.lemmas.List.Sums.{sum_by-cons}
use Rattle.cut_file.specs.declared.points.CutPoint.{CutPoint}
use Rattle.cut_file.specs.declared.points.Run.{Run}
use Rattle.cut_file.specs.Cuts.{CutPicture, are_runs, have_other_masks, is_cut_point}
use Rattle.cut_file.specs.Cuts.{is_point, is_point_of, is_rest, is_run, is_cut_picture}
use Rattle.cut_file.specs.Cuts.{neighbours_pass}
use Rattle.cut_file.specs.Folds.{AreFolded, IsFold, IsFolded}
use Rattle.cut_file.specs.Masks.{listed_masks}
use Rattle.cut_file.specs.Texts.{cut_text}
use Rattle.cut_file.specs.TextLengths.{byte_bound, listed_runs}
use Rattle.cut_file.proofs.Following.{points_all}
use Rattle.cut_file.proofs.TextLengths.{cut_length, point_bytes, points_of, single_rest}

-- ---- how many stretches of equal masks there are

onto : Bool → ℕ → ℕ
onto true count = count
onto false count = suc count

stretches : List ℕ → ℕ
stretches [] = 0
stretches (mask ∷ []) = 1
stretches (mask ∷ (next ∷ masks)) = onto (mask == next) (stretches (next ∷ masks))

onto_grows : (same : Bool) (fewer more : ℕ) → fewer ≤ more → onto same fewer ≤ onto same more
unfolding onto
onto_grows true fewer more few = few
onto_grows false fewer more few = omega (arith, few)

onto_least : (same : Bool) (count : ℕ) → count ≤ onto same count
unfolding onto
onto_least true count = omega arith
onto_least false count = omega arith

stretches_some : (mask : ℕ) (masks : List ℕ) → 1 ≤ stretches (mask ∷ masks)
unfolding stretches
stretches_some mask [] = omega arith
stretches_some mask (next ∷ masks) =
    let inner = stretches_some next masks in
    let more = onto_least (mask == next) (stretches (next ∷ masks)) in
    omega (arith, inner, more)

stretches_take : (count : ℕ) (masks : List ℕ) → stretches (take count masks) ≤ stretches masks
unfolding stretches
stretches_take zero masks = omega arith
stretches_take (suc count) [] = omega arith
stretches_take (suc zero) (mask ∷ masks) = stretches_some mask masks
stretches_take (suc (suc count)) (mask ∷ []) = omega arith
stretches_take (suc (suc count)) (mask ∷ (next ∷ masks)) =
    onto_grows (mask == next) _ _ (stretches_take (suc count) (next ∷ masks))

-- masks begin with another mask, or there are none
begins_other : ℕ → List ℕ → Bool
begins_other mask [] = true
begins_other mask (next ∷ masks) = not (mask == next)

onto_other : (same : Bool) (count : ℕ) → not same ≡ true → onto same count ≡ suc count
unfolding onto
onto_other true count other = absurd cc
onto_other false count other = refl

onto_same : (mask count : ℕ) → onto (mask == mask) count ≡ count
unfolding onto
onto_same mask count = ap (λ (b : Bool). onto b count) (eq-eqb mask mask refl)

stretches_cons : (mask : ℕ) (masks : List ℕ) → begins_other mask masks ≡ true →
    stretches (mask ∷ masks) ≡ suc (stretches masks)
unfolding stretches begins_other
stretches_cons mask [] other = refl
stretches_cons mask (next ∷ masks) other = onto_other (mask == next) (stretches (next ∷ masks)) other

stretches_run : (count mask : ℕ) (masks : List ℕ) → begins_other mask masks ≡ true →
    stretches (replicate (suc count) mask ++ masks) ≡ suc (stretches masks)
unfolding stretches
stretches_run zero mask masks other = stretches_cons mask masks other
stretches_run (suc count) mask masks other =
    onto_same mask (stretches (replicate (suc count) mask ++ masks)) ∙ stretches_run count mask masks other

stretches_runs : (count mask : ℕ) (masks : List ℕ) → 1 ≤ count → begins_other mask masks ≡ true →
    stretches (replicate count mask ++ masks) ≡ suc (stretches masks)
stretches_runs zero mask masks some other = absurd (omega (arith, some))
stretches_runs (suc count) mask masks some other = stretches_run count mask masks other

begins_run : (mask next count : ℕ) (masks : List ℕ) → 1 ≤ count → not (mask == next) ≡ true →
    begins_other mask (replicate count next ++ masks) ≡ true
unfolding begins_other
begins_run mask next zero masks some other = absurd (omega (arith, some))
begins_run mask next (suc count) masks some other = other

run_counts : (run : Run) → is_run run ≡ true → 1 ≤ run.count
run_counts run known = grind arith

-- runs whose neighbours differ are one for each stretch
runs_stretches : (runs : List Run) → list_all is_run runs ≡ true → neighbours_pass have_other_masks runs ≡ true →
    stretches (listed_masks runs) ≡ length runs
unfolding listed_masks stretches begins_other
runs_stretches [] all differ = refl
runs_stretches (run ∷ []) all differ =
    let both = and_parts (is_run run) (list_all is_run []) all in
    stretches_runs run.count run.mask [] (run_counts run both.0) refl
runs_stretches (run ∷ (next ∷ runs)) all differ =
    let both = and_parts (is_run run) (list_all is_run (next ∷ runs)) all in
    let second = and_parts (is_run next) (list_all is_run runs) both.1 in
    let other = and_parts (have_other_masks run next) (neighbours_pass have_other_masks (next ∷ runs)) differ in
    let begins = begins_run run.mask next.mask next.count (listed_masks runs) (run_counts next second.0) other.0 in
    stretches_runs run.count run.mask (listed_masks (next ∷ runs)) (run_counts run both.0) begins
    ∙ ap (λ (n : ℕ). suc n) (runs_stretches (next ∷ runs) both.1 other.1)

are_runs_stretches : (runs : List Run) → are_runs runs ≡ true → stretches (listed_masks runs) ≡ length runs
are_runs_stretches runs known =
    let both = and_parts (list_all is_run runs) (neighbours_pass have_other_masks runs) known in
    runs_stretches runs both.0 both.1

-- ---- the fold

record HasRuns (point : CutPoint) : Type 0 where
  listed : are_runs point.runs ≡ true
  pattern : are_runs point.rest ≡ true

has_runs : (point : CutPoint) → is_cut_point point ≡ true → HasRuns point
has_runs point known =
    let whole = and_parts (is_point point.point) _ known in
    let lists = and_parts (are_runs point.runs) (is_rest point.rest) whole.1 in
    let pattern = and_parts (nat_le 1 (length point.rest)) (are_runs point.rest) lists.1 in
    record { listed = lists.0; pattern = pattern.1 }

folded_runs : (point folded : CutPoint) → is_point_of 1 point ≡ true → is_cut_point folded ≡ true →
    IsFolded point folded → length folded.runs + length folded.rest ≤ length point.runs + 1
folded_runs point folded known own (inl made) =
    let count = made.0 in
    let before = has_runs point (and_parts (is_cut_point point) _ known).0 in
    let after = has_runs folded own in
    let none : length folded.runs ≡ 0 = ap length made.3 in
    let old = are_runs_stretches point.runs before.listed in
    let new = are_runs_stretches folded.rest after.pattern in
    let same : stretches (listed_masks folded.rest) ≡ stretches (take count (listed_masks point.runs)) =
    ap stretches made.4 in
    let fewer = stretches_take count (listed_masks point.runs) in
    omega (arith, none, old, new, same, fewer)
folded_runs point folded known own (inr stays) =
    let rest = single_rest point known in
    let same : length folded.runs + length folded.rest ≡ length point.runs + length point.rest =
    ap (λ (p : CutPoint). length p.runs + length p.rest) stays.1 in
    omega (arith, rest, same)

folded_bytes : (points folded : List CutPoint) → list_all (is_point_of 1) points ≡ true →
    list_all is_cut_point folded ≡ true → AreFolded points folded →
    point_bytes folded ≤ 55 * length points + 22 * listed_runs points
unfolding point_bytes
folded_bytes [] [] all own made = omega arith
folded_bytes [] (first ∷ folded) all own made = absurd made
folded_bytes (point ∷ points) [] all own made = absurd made
folded_bytes (point ∷ points) (first ∷ folded) all own made =
    let both = and_parts (is_point_of 1 point) (list_all (is_point_of 1) points) all in
    let new = and_parts (is_cut_point first) (list_all is_cut_point folded) own in
    let here = folded_runs point first both.0 new.0 made.0 in
    let inner = folded_bytes points folded both.1 new.1 made.1 in
    let count = sum_by-cons (λ (p : CutPoint). length p.runs) point points in
    omega (arith, here, inner, count)

pub fold_short : (cut folded : CutPicture) → is_cut_picture cut ≡ true → cut.version ≡ 1 → is_cut_picture folded ≡ true →
    IsFold cut folded → length (cut_text folded) ≤ byte_bound cut
fold_short cut folded valid first own made =
    let single = subst (λ (n : ℕ). list_all (is_point_of n) cut.points ≡ true) first (points_of cut valid) in
    let new = points_all folded.version folded.points (points_of folded own) in
    let lines = folded_bytes cut.points folded.points single new made.points in
    let whole = cut_length folded own in
    let skip : length folded.skip ≡ length cut.skip = ap length made.skip in
    omega (arith, lines, whole, skip)
