-- Items that follow one another.
use Rattle.std.proofs.Common.{◌≡◌, ℕ, ◌-◌, ◌<◌, ◌==◌, ◌&&◌, ◌||◌, Bool, true, false, List}
use Rattle.std.proofs.Common.{[], ◌∷◌, ◌++◌, length, get_or, refl}
use Rattle.std.proofs.Common.{sym, ap, ◌∙◌, append_assoc, arith}
use Rattle.std.specs.List.{list_all}
use Rattle.std.proofs.Common.{nat_lt, nat_le, IsTrue}
use Rattle.std.proofs.lemmas.Bool.{and_parts, and_from}
use Rattle.flow_base.specs.Points.{is_slot, is_region_number}
use Rattle.cut_file.specs.declared.points.CutPoint.{CutPoint}
use Rattle.cut_file.specs.Cuts.{are_points, are_points_of, are_regions, is_cut_picture, is_cut_point, is_point, is_point_of}
use Rattle.cut_file.specs.Cuts.{is_single, is_word, neighbours_pass, stands_before}
use Rattle.cut_file.specs.declared.cuts.Cut.{Cut}
use Rattle.cut_file.specs.Pictures.{cut_picture}
use Rattle.cut_file.specs.Private.Reading.{may_follow}

pub may_follow_last : {A : Type 0} (test : A → A → Bool) (items : List A) (item last : A) → 0 < length items →
    may_follow test items item ≡ test (get_or items (length items - 1) last) item
may_follow_last test [] item last some = grind arith
may_follow_last test (first ∷ []) item last some = refl
may_follow_last test (first ∷ (second ∷ others)) item last some =
    let inner = may_follow_last test (second ∷ others) item last (omega arith) in
    grind (arith, inner)

pub neighbours_push : {A : Type 0} (test : A → A → Bool) (items : List A) (item : A) →
    neighbours_pass test (items ++ (item ∷ [])) ≡ (neighbours_pass test items && may_follow test items item)
neighbours_push test [] item = refl
neighbours_push test (first ∷ []) item = grind arith
neighbours_push test (first ∷ (second ∷ others)) item = grind (arith, neighbours_push test (second ∷ others) item)

pub all_push : {A : Type 0} (test : A → Bool) (items : List A) (item : A) →
    list_all test (items ++ (item ∷ [])) ≡ (list_all test items && test item)
all_push test [] item = grind arith
all_push test (first ∷ others) item = grind (arith, all_push test others item)

pub all_last : {A : Type 0} (test : A → Bool) (items : List A) (last : A) → list_all test items ≡ true →
    0 < length items →
    test (get_or items (length items - 1) last) ≡ true
all_last test [] last all some = grind arith
all_last test (first ∷ []) last all some = grind arith
all_last test (first ∷ (second ∷ others)) last all some =
    let inner = all_last test (second ∷ others) last (grind arith) (omega arith) in
    grind (arith, inner)

-- ---- what a cut keeps

pub is_true : (b : Bool) → b ≡ true → IsTrue b
is_true b e = grind arith

pub is_so : (b : Bool) → IsTrue b → b ≡ true
is_so true so = refl
is_so false so = grind arith

pub list_push : {A : Type 0} (each : A → Bool) (test : A → A → Bool) (items : List A) (item : A) →
    (list_all each items && neighbours_pass test items) ≡ true → each item ≡ true →
    may_follow test items item ≡ true →
    (list_all each (items ++ (item ∷ [])) && neighbours_pass test (items ++ (item ∷ []))) ≡ true
list_push each test items item known own follows =
    let both = and_parts _ _ known in
    and_from _ _ (all_push each items item ∙ and_from _ _ both.0 own) (neighbours_push test items item
    ∙ and_from _ _ both.1 follows)

pub regions_push : (skip : List ℕ) (region : ℕ) → IsTrue (are_regions skip) → IsTrue (is_region_number region) →
    may_follow nat_lt skip region ≡ true → IsTrue (are_regions (skip ++ (region ∷ [])))
regions_push skip region known own follows =
    is_true _ (list_push is_region_number nat_lt skip region (is_so _ known) (is_so _ own) follows)

pub points_push : (version : ℕ) (points : List CutPoint) (point : CutPoint) → IsTrue (are_points_of version points) →
    IsTrue (is_point_of version point) →
    may_follow stands_before points point ≡ true → IsTrue (are_points_of version (points ++ (point ∷ [])))
points_push version points point known own follows =
    is_true _ (list_push (is_point_of version) stands_before points point (is_so _ known) (is_so _ own) follows)

pub slot_of : (point : CutPoint) → is_cut_point point ≡ true → IsTrue (is_slot point.point.slot)
slot_of point known =
    let place = and_parts (is_point point.point) _ known in
    let rest = and_parts (nat_le point.point.region 65535) _ place.0 in
    let slot = and_parts (is_word point.point.address) (is_slot point.point.slot) rest.1 in
    is_true _ slot.1

pub slot_last : (points : List CutPoint) (last : CutPoint) → IsTrue (are_points points) → 0 < length points →
    IsTrue (is_slot (get_or points (length points - 1) last).point.slot)
slot_last points last known some =
    slot_of (get_or points (length points - 1) last) (all_last is_cut_point points last (and_parts _ _
    (is_so _ known)).0 some)

pub points_all : (version : ℕ) (points : List CutPoint) → list_all (is_point_of version) points ≡ true →
    list_all is_cut_point points ≡ true
points_all version [] all = refl
points_all version (point ∷ points) all =
    let both = and_parts (is_point_of version point) (list_all (is_point_of version) points) all in
    and_from _ _ (and_parts (is_cut_point point) ((version == 2) || is_single point.rest) both.0).0
    (points_all version points both.1)

-- the points of a cut of either version ascend
pub points_known : (version : ℕ) (points : List CutPoint) → IsTrue (are_points_of version points) →
    IsTrue (are_points points)
points_known version points known =
    let both = and_parts (list_all (is_point_of version) points) (neighbours_pass stands_before points)
    (is_so _ known) in
    is_true _ (and_from _ _ (points_all version points both.0) both.1)

-- and are points of version 2
pub all_migrated : (points : List CutPoint) → list_all is_cut_point points ≡ true →
    list_all (is_point_of 2) points ≡ true
all_migrated [] all = refl
all_migrated (point ∷ points) all =
    let both = and_parts (is_cut_point point) (list_all is_cut_point points) all in
    and_from _ _ (and_from _ _ both.0 refl) (all_migrated points both.1)

pub points_migrated : (version : ℕ) (points : List CutPoint) → IsTrue (are_points_of version points) →
    IsTrue (are_points_of 2 points)
points_migrated version points known =
    let both = and_parts (list_all (is_point_of version) points) (neighbours_pass stands_before points)
    (is_so _ known) in
    is_true _ (and_from _ _ (all_migrated points (points_all version points both.0)) both.1)

pub point_known : (version : ℕ) (point : CutPoint) → IsTrue (is_point_of version point) → IsTrue (is_cut_point point)
point_known version point known =
    is_true _ (and_parts (is_cut_point point) ((version == 2) || is_single point.rest) (is_so _ known)).0

-- what a cut keeps makes its picture valid
pub cut_valid : (cut : Cut) → is_cut_picture (cut_picture cut) ≡ true
cut_valid cut =
    and_from _ _ (is_so _ cut.is_known) (and_from _ _ (is_so _ cut.is_short) (and_from _ _ (is_so _ cut.is_number)
    (and_from _ _ (is_so _ cut.skips) (is_so _ cut.crosses))))

-- ---- the front of a list that is kept

pub all_front : {A : Type 0} (test : A → Bool) (items more : List A) → list_all test (items ++ more) ≡ true →
    list_all test items ≡ true
all_front test [] more all = refl
all_front test (first ∷ items) more all =
    let both = and_parts (test first) (list_all test (items ++ more)) all in
    and_from (test first) (list_all test items) both.0 (all_front test items more both.1)

pub neighbours_front : {A : Type 0} (test : A → A → Bool) (items more : List A) →
    neighbours_pass test (items ++ more) ≡ true →
    neighbours_pass test items ≡ true
neighbours_front test [] more all = refl
neighbours_front test (first ∷ []) more all = refl
neighbours_front test (first ∷ (second ∷ items)) more all =
    let both = and_parts (test first second) (neighbours_pass test (second ∷ (items ++ more))) all in
    and_from (test first second) (neighbours_pass test (second ∷ items)) both.0 (neighbours_front test
    (second ∷ items) more both.1)

abbrev pub is_kept : {A : Type 0} → (A → Bool) → (A → A → Bool) → List A → Bool
is_kept each test items = list_all each items && neighbours_pass test items

-- an item of a list that is kept passes, after those before it
pub record IsKeptStep {A : Type 0} (each : A → Bool) (test : A → A → Bool) (items : List A) (item : A) : Type 0 where
  pub own : each item ≡ true
  pub follows : may_follow test items item ≡ true
  pub kept : is_kept each test (items ++ (item ∷ [])) ≡ true

pub kept_step : {A : Type 0} (each : A → Bool) (test : A → A → Bool) (items : List A) (item : A) (more : List A) →
    is_kept each test (items ++ (item ∷ more)) ≡ true → IsKeptStep each test items item
kept_step each test items item more kept =
    let same : items ++ (item ∷ more) ≡ (items ++ (item ∷ [])) ++ more = sym (append_assoc items (item ∷ []) more) in
    let whole = and_parts (list_all each (items ++ (item ∷ more))) (neighbours_pass test (items ++
    (item ∷ more))) kept in
    let all = all_front each (items ++ (item ∷ [])) more (ap (list_all each) (sym same) ∙ whole.0) in
    let neighbours = neighbours_front test (items ++ (item ∷ [])) more (ap (neighbours_pass test) (sym same)
    ∙ whole.1) in
    record {
      own = (and_parts (list_all each items) (each item) (sym (all_push each items item) ∙ all)).1;
      follows = (and_parts (neighbours_pass test items) (may_follow test items item) (sym
          (neighbours_push test items item) ∙ neighbours)).1;
      kept = and_from (list_all each (items ++ (item ∷ []))) (neighbours_pass test (items ++
          (item ∷ []))) all neighbours;
    }
