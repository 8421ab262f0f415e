-- Lists of masks that repeat, and their first round.
use Rattle.std.proofs.Common.{◌≡◌, ℕ, zero, suc, ◌+◌, ◌-◌, ◌*◌, ◌<◌, ◌≤◌, ◌==◌, nat_le, true, inl, inr}
use Rattle.std.proofs.Common.{List, [], ◌∷◌, ◌++◌, length, drop, take, get_or, refl, sym}
use Rattle.std.proofs.Common.{ap, subst, ◌∙◌, arith, drop-cons}
use Rattle.std.proofs.Common.{add-one, if◌then◌else◌, IsTrue}
use Rattle.std.specs.Prelude.{◌%◌, bit_and, not, replicate, slice_index_or}
use Rattle.std.specs.List.{list_all}
use Rattle.std.proofs.Math.ListN.{drop_of_length-le}
use Rattle.std.proofs.Math.Nat.{mod-eq_of_lt, mod-lt, add-mod_right}
use Rattle.std.proofs.lemmas.Bool.{and_parts, and_from, cases_Bool, cases_lt, cond-true, cond-false}
use Rattle.std.proofs.lemmas.Bool.{eqb-true, le-leb, leb-true, lt-leb, lt-ltb, ltb-true}
use Rattle.std.proofs.lemmas.List.{append-nil, get_or-drop, get_or-take, length-drop, length-take-le}
use Rattle.flow_base.specs.declared.points.Point.{Point}
use Rattle.flow_base.specs.PointOrders.{is_below, is_same}
use Rattle.flow_base.specs.Points.{width_of}
use Rattle.cut_file.specs.declared.points.CutPoint.{CutPoint}
use Rattle.cut_file.specs.declared.points.Run.{Run}
use Rattle.cut_file.specs.Cuts.{CutPicture, are_points, are_points_of, are_runs, have_other_masks}
use Rattle.cut_file.specs.Cuts.{is_cut_point, is_rest, is_run, is_word}
use Rattle.cut_file.specs.Cuts.{neighbours_pass, stands_before}
use Rattle.cut_file.specs.Folds.{AreFolded, IsFold, IsFolded, begins_with, first_runs, is_period, listed_at}
use Rattle.cut_file.specs.Masks.{MaskAt, listed_mask, listed_masks, mask_of, repeated}
use Rattle.cut_file.proofs.Following.{all_migrated, is_so, is_true}
use Rattle.cut_file.proofs.MaskLists.{masks_count, masks_none, repeated_here, repeated_behind}

-- ---- counting

pub few_step : (count more left : ℕ) → count ≤ left → nat_le more (left - count) ≡ nat_le (count + more) left
few_step count more left fits = elim (cases_lt left (count + more)) [
  | inl over ↦ lt-leb _ _ (omega (arith, over)) ∙ sym (lt-leb _ _ over)
  | inr few ↦ le-leb _ _ (omega (arith, few)) ∙ sym (le-leb _ _ few)
]

no_masks : listed_masks [] ≡ []
unfolding listed_masks
no_masks = refl

masks_split : (run : Run) (runs : List Run) →
    listed_masks (run ∷ runs) ≡ replicate run.count run.mask ++ listed_masks runs
unfolding listed_masks
masks_split run runs = refl

pub masks_split_at : (runs : List Run) (index : ℕ) (other : Run) → index < length runs →
    listed_masks (drop index runs)
    ≡ replicate (get_or runs index other).count (get_or runs index other).mask ++ listed_masks (drop (index + 1) runs)
masks_split_at runs index other inside =
    let tail : drop index runs ≡ get_or runs index other ∷ drop
    (suc index) runs = drop-cons runs index other inside in
    rw add-one (ap listed_masks tail ∙ masks_split (get_or runs index other) (drop (suc index) runs))

pub masks_none_at : (runs : List Run) (index : ℕ) → length runs ≤ index → listed_masks (drop index runs) ≡ []
masks_none_at runs index past = ap listed_masks (drop_of_length-le runs past) ∙ no_masks

-- ---- a period

-- masks that begin another list stand at its places
pub begins_at : (masks wanted : List ℕ) (place : ℕ) → begins_with masks wanted ≡ true → place < length wanted →
    slice_index_or masks place 0 ≡ slice_index_or wanted place 0
begins_at masks [] place known inside = absurd (omega (arith, inside))
begins_at [] (first ∷ wanted) place known inside = absurd cc
begins_at (mask ∷ masks) (first ∷ wanted) zero known inside =
    eqb-true mask first (and_parts (mask == first) (begins_with masks wanted) known).0
begins_at (mask ∷ masks) (first ∷ wanted) (suc place) known inside =
    begins_at masks wanted place (and_parts (mask == first) (begins_with masks wanted) known).1 (omega (arith, inside))

some_steps : (masks : List ℕ) (count fuel place : ℕ) → 1 ≤ count → begins_with masks (drop count masks) ≡ true →
    place ≤ fuel → place < length masks →
    slice_index_or masks place 0 ≡ slice_index_or masks (place % count) 0
some_steps masks count zero place some known low inside =
    ap (λ (n : ℕ). slice_index_or masks n 0) (sym (mod-eq_of_lt (omega (arith, some, low))))
some_steps masks count (suc fuel) place some known low inside = elim (cases_lt place count) [
  | inl first ↦ ap (λ (n : ℕ). slice_index_or masks n 0) (sym (mod-eq_of_lt first))
  | inr behind ↦
      let before : ℕ = place - count in
      let whole : place ≡ before + count = omega (arith, behind) in
      let turned : count + before ≡ place = omega (arith, behind) in
      let long = length-drop count masks in
      sym (begins_at masks (drop count masks) before known (omega (arith, behind, inside, long))
      ∙ get_or-drop count masks before 0
      ∙ ap (λ (n : ℕ). slice_index_or masks n 0) turned)
      ∙ some_steps masks count fuel before some known (omega (arith, low, some, behind)) (omega (arith, inside))
      ∙ ap (λ (n : ℕ). slice_index_or masks n 0) (sym (add-mod_right before count))
      ∙ ap (λ (n : ℕ). slice_index_or masks (n % count) 0) (sym whole)
]

pub record IsPeriodOf (masks : List ℕ) (count : ℕ) : Type 0 where
  pub some : 1 ≤ count
  pub short : count ≤ 64
  pub half : 2 * count ≤ length masks
  pub begins : begins_with masks (drop count masks) ≡ true

pub period_parts : (masks : List ℕ) (count : ℕ) → is_period masks count ≡ true → IsPeriodOf masks count
period_parts masks count known =
    let few = and_parts (nat_le (length masks) 65536) _ known in
    let some = and_parts (nat_le 1 count) _ few.1 in
    let short = and_parts (nat_le count 64) _ some.1 in
    let half = and_parts (nat_le (2 * count) (length masks)) (begins_with masks (drop count masks)) short.1 in
    record {
      some = leb-true _ _ some.0;
      short = leb-true _ _ short.0;
      half = leb-true _ _ half.0;
      begins = half.1;
    }

-- one round of masks that repeat gives all of them
round_mask : (masks rest : List ℕ) (count place : ℕ) → is_period masks count ≡ true → place < length masks →
    repeated [] (take count masks) place ≡ repeated masks rest place
round_mask masks rest count place known inside =
    let p = period_parts masks count known in
    let start : place - length {A = ℕ} [] ≡ place = omega arith in
    let long : length (take count masks) ≡ count = length-take-le count masks (omega (arith, p.half)) in
    repeated_behind [] (take count masks) place (omega arith)
    ∙ ap (λ (n : ℕ). slice_index_or (take count masks) (n % length (take count masks)) 0) start
    ∙ ap (λ (n : ℕ). slice_index_or (take count masks) (place % n) 0) long
    ∙ get_or-take count masks (place % count) 0 (mod-lt place (omega (arith, p.some)))
    ∙ sym (some_steps masks count place place p.some p.begins (omega arith) inside)
    ∙ sym (repeated_here masks rest place inside)

folded_mask : (cut_point folded : CutPoint) (visit : ℕ) → IsFolded cut_point folded → 1 ≤ visit →
    visit ≤ length (listed_masks cut_point.runs) → mask_of folded visit ≡ mask_of cut_point visit
folded_mask cut_point folded visit (inl (count, least, place, none, pattern)) first inside =
    let masks : List ℕ = listed_masks cut_point.runs in
    let empty : listed_masks folded.runs ≡ [] = ap listed_masks none ∙ no_masks in
    ap (λ (p : Point). bit_and (listed_mask folded visit) (width_of p.slot)) place
    ∙ ap (λ (m : ℕ). bit_and m (width_of cut_point.point.slot))
    (ap (λ (l : List ℕ). repeated l (listed_masks folded.rest) (visit - 1)) empty
    ∙ ap (λ (l : List ℕ). repeated [] l (visit - 1)) pattern
    ∙ round_mask masks (listed_masks cut_point.rest) count (visit - 1) least.0 (omega (arith, first, inside)))
folded_mask cut_point folded visit (inr (none, same)) first inside = ap (λ (p : CutPoint). mask_of p visit) same

folded_point : (cut_point folded : CutPoint) → IsFolded cut_point folded → folded.point ≡ cut_point.point
folded_point cut_point folded (inl (count, least, place, none, pattern)) = place
folded_point cut_point folded (inr (none, same)) = ap (λ (p : CutPoint). p.point) same

points_mask : (points folded : List CutPoint) (point : Point) (visit : ℕ) → AreFolded points folded → 1 ≤ visit →
    visit ≤ listed_at points point → MaskAt folded point visit ≡ MaskAt points point visit
points_mask [] [] point visit known first inside = refl
points_mask [] (f ∷ folded) point visit known first inside = absurd known
points_mask (p ∷ points) [] point visit known first inside = absurd known
points_mask (p ∷ points) (f ∷ folded) point visit known first inside =
    let place = folded_point p f known.0 in
    ap (λ (q : Point). if is_same q point then mask_of f visit else MaskAt folded point visit) place
    ∙ elim (cases_Bool (is_same p.point point)) [
      | inl same ↦
          let here : visit ≤ length (listed_masks p.runs) =
          subst (λ (n : ℕ). visit ≤ n) (cond-true (is_same p.point point) (length (listed_masks p.runs))
          (listed_at points point) same) inside in
          cond-true (is_same p.point point) (mask_of f visit) (MaskAt folded point visit) same
          ∙ folded_mask p f visit known.0 first here
          ∙ sym (cond-true (is_same p.point point) (mask_of p visit) (MaskAt points point visit) same)
      | inr other ↦
          let there : visit ≤ listed_at points point =
          subst (λ (n : ℕ). visit ≤ n) (cond-false (is_same p.point point) (length (listed_masks p.runs))
          (listed_at points point) other) inside in
          cond-false (is_same p.point point) (mask_of f visit) (MaskAt folded point visit) other
          ∙ points_mask points folded point visit known.1 first there
          ∙ sym (cond-false (is_same p.point point) (mask_of p visit) (MaskAt points point visit) other)
    ]

pub fold_mask : (cut folded : CutPicture) (point : Point) (visit : ℕ) → IsFold cut folded → 1 ≤ visit →
    visit ≤ listed_at cut.points point → MaskAt folded.points point visit ≡ MaskAt cut.points point visit
fold_mask cut folded point visit fold first inside =
    points_mask cut.points folded.points point visit fold.points first inside

-- ---- the first runs

take_replicate : (count more mask : ℕ) (masks : List ℕ) → count ≤ more →
    take count (replicate more mask ++ masks) ≡ replicate count mask
take_replicate zero more mask masks fits = refl
take_replicate (suc count) zero mask masks fits = absurd (omega (arith, fits))
take_replicate (suc count) (suc more) mask masks fits =
    ap (λ (l : List ℕ). mask ∷ l) (take_replicate count more mask masks (omega (arith, fits)))

take_behind : (count more mask : ℕ) (masks : List ℕ) → more < count →
    take count (replicate more mask ++ masks) ≡ replicate more mask ++ take (count - more) masks
take_behind zero more mask masks behind = absurd (omega (arith, behind))
take_behind (suc count) zero mask masks behind =
    let same : suc count ≡ suc count - 0 = omega arith in
    ap (λ (n : ℕ). take n masks) same
take_behind (suc count) (suc more) mask masks behind =
    let same : count - more ≡ suc count - suc more = omega arith in
    ap (λ (l : List ℕ). mask ∷ l) (take_behind count more mask masks (omega (arith, behind))
    ∙ ap (λ (n : ℕ). replicate more mask ++ take n masks) same)

single_masks : (count mask : ℕ) → listed_masks (record { count = count; mask = mask } ∷ []) ≡ replicate count mask
single_masks count mask = masks_split (record { count = count; mask = mask }) []
    ∙ ap (λ (l : List ℕ). replicate count mask ++ l) no_masks ∙ append-nil (replicate count mask)

take_nil : (count : ℕ) → take {A = ℕ} count [] ≡ []
take_nil zero = refl
take_nil (suc count) = refl

pub first_masks : (runs : List Run) (count : ℕ) → count ≤ length (listed_masks runs) →
    listed_masks (first_runs count runs) ≡ take count (listed_masks runs)
first_masks [] count fits =
    no_masks ∙ sym (ap (take count) no_masks ∙ take_nil count)
first_masks (run ∷ runs) count fits = elim (cases_lt run.count count) [
  | inr within ↦
      ap listed_masks (cond-true (nat_le count run.count) (record { count = count; mask = run.mask } ∷ [])
      (run ∷ first_runs (count - run.count) runs) (le-leb _ _ within))
      ∙ single_masks count run.mask
      ∙ sym (take_replicate count run.count run.mask (listed_masks runs) within)
      ∙ ap (take count) (sym (masks_split run runs))
  | inl behind ↦
      let counted = masks_count run runs in
      ap listed_masks (cond-false (nat_le count run.count) (record { count = count; mask = run.mask } ∷ [])
      (run ∷ first_runs (count - run.count) runs) (lt-leb _ _ behind))
      ∙ masks_split run (first_runs (count - run.count) runs)
      ∙ ap (λ (l : List ℕ). replicate run.count run.mask ++ l)
      (first_masks runs (count - run.count) (omega (arith, counted, fits)))
      ∙ sym (take_behind count run.count run.mask (listed_masks runs) behind)
      ∙ ap (take count) (sym (masks_split run runs))
]

-- the first runs begin with the mask that all runs begin with, and are runs
record AreFirst (mask : ℕ) (runs : List Run) : Type 0 where
  pub first : Run
  pub more : List Run
  pub whole : runs ≡ first ∷ more
  pub same : first.mask ≡ mask
  pub all : list_all is_run runs ≡ true
  pub differ : neighbours_pass have_other_masks runs ≡ true

one_run : (run : Run) (count : ℕ) → is_run run ≡ true → 1 ≤ count → count ≤ run.count →
    AreFirst run.mask (record { count = count; mask = run.mask } ∷ [])
one_run run count known some fits =
    let parts = and_parts (nat_le 1 run.count) _ known in
    let words = and_parts (is_word run.count) (is_word run.mask) parts.1 in
    record {
      first = record { count = count; mask = run.mask };
      more = [];
      whole = refl;
      same = refl;
      all = and_from _ _ (and_from _ _ (le-leb 1 count some) (and_from _ _
          (lt-ltb _ _ (omega (arith, fits, ltb-true _ _ words.0))) words.1)) refl;
      differ = refl;
    }

more_runs : (run next : Run) (runs : List Run) → is_run run ≡ true → have_other_masks run next ≡ true →
    AreFirst next.mask runs → AreFirst run.mask (run ∷ runs)
more_runs run next runs known other inner =
    let test : have_other_masks run inner.first ≡ true =
    ap (λ (n : ℕ). not (run.mask == n)) inner.same ∙ other in
    record {
      first = run;
      more = runs;
      whole = refl;
      same = refl;
      all = and_from _ _ known inner.all;
      differ =
          ap (λ (l : List Run). neighbours_pass have_other_masks (run ∷ l)) inner.whole
          ∙ and_from _ _ test (ap (neighbours_pass have_other_masks) (sym inner.whole) ∙ inner.differ);
    }

first_are : (run : Run) (runs : List Run) (count : ℕ) → list_all is_run (run ∷ runs) ≡ true →
    neighbours_pass have_other_masks (run ∷ runs) ≡ true → 1 ≤ count →
    count ≤ length (listed_masks (run ∷ runs)) → AreFirst run.mask (first_runs count (run ∷ runs))
first_are run [] count all differ some fits =
    let counted = masks_count run [] in
    let empty = masks_none in
    let within : count ≤ run.count = omega (arith, counted, fits, empty) in
    subst (AreFirst run.mask) (sym (cond-true (nat_le count run.count)
    (record { count = count; mask = run.mask } ∷ []) (run ∷ first_runs (count - run.count) []) (le-leb _ _ within)))
    (one_run run count (and_parts (is_run run) true all).0 some within)
first_are run (next ∷ runs) count all differ some fits =
    let each = and_parts (is_run run) (list_all is_run (next ∷ runs)) all in
    let two = and_parts (have_other_masks run next) (neighbours_pass have_other_masks (next ∷ runs)) differ in
    elim (cases_lt run.count count) [
      | inr within ↦
          subst (AreFirst run.mask) (sym (cond-true (nat_le count run.count)
          (record { count = count; mask = run.mask } ∷ []) (run ∷ first_runs (count - run.count) (next ∷ runs))
          (le-leb _ _ within)))
          (one_run run count each.0 some within)
      | inl behind ↦
          let counted = masks_count run (next ∷ runs) in
          subst (AreFirst run.mask) (sym (cond-false (nat_le count run.count)
          (record { count = count; mask = run.mask } ∷ []) (run ∷ first_runs (count - run.count) (next ∷ runs))
          (lt-leb _ _ behind)))
          (more_runs run next (first_runs (count - run.count) (next ∷ runs)) each.0 two.0
          (first_are next runs (count - run.count) each.1 two.1 (omega (arith, behind))
          (omega (arith, counted, fits))))
    ]

pub first_rest : (runs : List Run) (count : ℕ) → are_runs runs ≡ true → 1 ≤ count →
    count ≤ length (listed_masks runs) → is_rest (first_runs count runs) ≡ true
first_rest [] count known some fits = absurd (let empty = masks_none in omega (arith, some, fits, empty))
first_rest (run ∷ runs) count known some fits =
    let both = and_parts (list_all is_run (run ∷ runs)) (neighbours_pass have_other_masks (run ∷ runs)) known in
    let first = first_are run runs count both.0 both.1 some fits in
    let long : length (first_runs count (run ∷ runs)) ≡ suc (length first.more) = ap length first.whole in
    and_from _ _ (le-leb 1 _ (omega (arith, long))) (and_from _ _ first.all first.differ)

-- ---- folded points

pub period_rest : (runs : List Run) (count : ℕ) → are_runs runs ≡ true → is_period (listed_masks runs) count ≡ true →
    (is_rest (first_runs count runs) ≡ true)
    × (listed_masks (first_runs count runs) ≡ take count (listed_masks runs))
period_rest runs count known period =
    let p = period_parts (listed_masks runs) count period in
    let fits : count ≤ length (listed_masks runs) = omega (arith, p.half) in
    (first_rest runs count known p.some fits, first_masks runs count fits)

pub folded_push : (points folded : List CutPoint) (point other : CutPoint) → AreFolded points folded →
    IsFolded point other → AreFolded (points ++ (point ∷ [])) (folded ++ (other ∷ []))
folded_push [] [] point other known own = (own, tt)
folded_push [] (f ∷ folded) point other known own = absurd known
folded_push (p ∷ points) [] point other known own = absurd known
folded_push (p ∷ points) (f ∷ folded) point other known own =
    (known.0, folded_push points folded point other known.1 own)

pub folded_ascend : (points folded : List CutPoint) → AreFolded points folded →
    neighbours_pass stands_before points ≡ true → neighbours_pass stands_before folded ≡ true
folded_ascend [] [] known ascend = refl
folded_ascend [] (f ∷ folded) known ascend = absurd known
folded_ascend (p ∷ points) [] known ascend = absurd known
folded_ascend (p ∷ []) (f ∷ []) known ascend = refl
folded_ascend (p ∷ []) (f ∷ (g ∷ folded)) known ascend = absurd known.1
folded_ascend (p ∷ (q ∷ points)) (f ∷ []) known ascend = absurd known.1
folded_ascend (p ∷ (q ∷ points)) (f ∷ (g ∷ folded)) known ascend =
    let both = and_parts (stands_before p q) (neighbours_pass stands_before (q ∷ points)) ascend in
    let here : stands_before f g ≡ true =
    ap (λ (a : Point). is_below a g.point) (folded_point p f known.0)
    ∙ ap (λ (a : Point). is_below p.point a) (folded_point q g known.1.0) ∙ both.0 in
    and_from (stands_before f g) (neighbours_pass stands_before (g ∷ folded)) here
    (folded_ascend (q ∷ points) (g ∷ folded) known.1 both.1)

pub folded_known : (points folded : List CutPoint) → IsTrue (are_points points) → AreFolded points folded →
    list_all is_cut_point folded ≡ true → IsTrue (are_points_of 2 folded)
folded_known points folded known fold all =
    let both = and_parts (list_all is_cut_point points) (neighbours_pass stands_before points) (is_so _ known) in
    is_true _ (and_from _ _ (all_migrated folded all) (folded_ascend points folded fold both.1))
