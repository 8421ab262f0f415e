-- The region of a turn is one of the list.
use Rattle.std.proofs.Common.{◌≡◌, ◌∙◌, ◌==◌, ◌||◌, ℕ, Bool, true, List, [], ◌∷◌, Option, Some, None, length}
use Rattle.std.proofs.Common.{refl, sym, ap, subst, inl, inr}
use Rattle.std.specs.List.{find, list_all}
use Rattle.std.proofs.lemmas.Bool.{cases_Bool, and_parts, cond-false, cond-true, eqb-true, eq-eqb, or_left, or_right}
use Rattle.rv32im_machine.specs.declared.stepping.Stepped.{Stepped}
use Rattle.rv32im_machine.specs.declared.stepping.Stepped.TheVariants.{Ran, Exited, Stopped}
use Rattle.rv32im_machine.specs.State.{Control, State}
use Rattle.enclosure_regions.specs.declared.region_parts.Range.{Range}
use Rattle.enclosure_regions.specs.declared.region_parts.Region.{Region}
use Rattle.enclosure_regions.specs.Regions.{ids_of}
use Rattle.region_machine.specs.Enclosures.{Leaves, Steps, kind_in, kind_of, kind_outside, kind_within}
use Rattle.region_machine.specs.Enclosures.{region_entered_at, region_numbered}
use Rattle.region_machine.specs.Within.{are_inside, may_leave, may_leave_of}
use Rattle.region_learn.specs.declared.notes.Notes.{Notes}
use Rattle.region_learn.specs.Private.Books.{are_bare, has_kind_notes, has_notes, kind_passes, numbers_of}
use Rattle.region_learn.proofs.Counting.{nil_of}
use Rattle.flow_base.specs.Listed.{is_listed}

-- a region that may be there passes the test
abbrev option_passes : (Region → Bool) → Option Region → Bool
option_passes passes None = true
option_passes passes (Some region) = passes region

-- whatever is found in a list of regions that pass the test passes it
pub found_passes : (passes test : Region → Bool) (regions : List Region) → list_all passes regions ≡ true →
    option_passes passes (find test regions) ≡ true
found_passes passes test [] h = refl
found_passes passes test (region ∷ regions) h =
    let parts = and_parts (passes region) (list_all passes regions) h in
    elim (cases_Bool (test region)) [
      | inl here ↦ rw (cond-true (test region) (Some region) (find test regions) here) parts.0
      | inr later ↦
          rw (cond-false (test region) (Some region) (find test regions) later) (found_passes passes test regions parts.1)
    ]

numbered_passes : (passes : Region → Bool) (regions : List Region) (number : ℕ) → list_all passes regions ≡ true →
    option_passes passes (region_numbered regions number) ≡ true
numbered_passes passes regions number h = elim (cases_Bool (number == 0)) [
  | inl none ↦ rw (cond-true (number == 0) None (find (λ region. region.id == number) regions) none) refl
  | inr some ↦
      rw (cond-false (number == 0) None (find (λ region. region.id == number) regions) some)
      (found_passes passes (λ region. region.id == number) regions h)
]

outside_passes : (passes : Region → Bool) (found : Option Region) → option_passes passes found ≡ true →
    kind_passes passes (kind_outside found) ≡ true
outside_passes passes None h = refl
outside_passes passes (Some region) h = h

within_passes : (passes : Region → Bool) (regions : List Region) (inside : Option Region) (pc : ℕ) →
    option_passes passes inside ≡ true → list_all passes regions ≡ true →
    kind_passes passes (kind_within regions inside pc) ≡ true
within_passes passes regions None pc h all =
    outside_passes passes (region_entered_at regions pc)
    (found_passes passes (λ region. region.enter == pc) regions all)
within_passes passes regions (Some region) pc h all = elim (cases_Bool (region.leave == pc)) [
  | inl at ↦ rw (cond-true (region.leave == pc) (Leaves region) (Steps (Some region)) at) h
  | inr off ↦ rw (cond-false (region.leave == pc) (Leaves region) (Steps (Some region)) off) h
]

in_passes : (passes : Region → Bool) (mode : Stepped) (regions : List Region) (control : Control) →
    list_all passes regions ≡ true → kind_passes passes (kind_in mode regions control) ≡ true
in_passes passes Ran regions control h =
    within_passes passes regions (region_numbered regions control.region) control.pc
    (numbered_passes passes regions control.region h) h
in_passes passes (Exited status) regions control h = refl
in_passes passes (Stopped fault) regions control h = refl

-- the region of a turn passes the test that every region passes
pub turn_passes : (passes : Region → Bool) (regions : List Region) (control : Control) → list_all passes regions ≡ true →
    kind_passes passes (kind_of regions control) ≡ true
turn_passes passes regions control h = in_passes passes control.mode regions control h

-- ---- regions without ranges can be left

no_ranges : (ranges : List Range) (kept : List ℕ) (base : ℕ) → (length ranges == 0) ≡ true →
    are_inside ranges kept base ≡ true
no_ranges ranges kept base h =
    ap (λ (l : List Range). are_inside l kept base) (nil_of ranges (eqb-true (length ranges) 0 h))

bare_leaves : (inside : Option Region) (kept : List ℕ) (base : ℕ) →
    option_passes (λ region. length region.ranges == 0) inside ≡ true → may_leave_of inside kept base ≡ true
bare_leaves None kept base h = refl
bare_leaves (Some region) kept base h = no_ranges region.ranges kept base h

pub bare_leave : (regions : List Region) (state : State) → are_bare regions ≡ true → may_leave regions state ≡ true
bare_leave regions state h =
    bare_leaves (region_numbered regions state.control.region) state.store.kept state.setting.base
    (numbered_passes (λ region. length region.ranges == 0) regions state.control.region h)

-- ---- each region has notes

any_number : (book : List Notes) (number : ℕ) → is_listed (numbers_of book) number ≡ has_notes book number
any_number [] number = refl
any_number (notes ∷ book) number = ap (λ (b : Bool). (notes.region == number) || b) (any_number book number)

all_within : (numbers : List ℕ) (regions : List Region) →
    ((number : ℕ) → is_listed (ids_of regions) number ≡ true → is_listed numbers number ≡ true) →
    list_all (λ region. is_listed numbers region.id) regions ≡ true
all_within numbers [] h = refl
all_within numbers (region ∷ regions) h =
    rw (h region.id (or_left (region.id == region.id) (is_listed (ids_of regions) region.id) (eq-eqb region.id region.id refl)))
    (all_within numbers regions
    (λ number stands. h number (or_right (region.id == number) (is_listed (ids_of regions) number) stands)))

all_same : (passes other : Region → Bool) (regions : List Region) → ((region : Region) → passes region ≡ other region) →
    list_all passes regions ≡ list_all other regions
all_same passes other [] e = refl
all_same passes other (region ∷ regions) e = rw (e region, all_same passes other regions e) refl

pub notes_of_turn : (regions : List Region) (book : List Notes) (control : Control) →
    numbers_of book ≡ ids_of regions → has_kind_notes book (kind_of regions control) ≡ true
notes_of_turn regions book control e =
    turn_passes (λ region. has_notes book region.id) regions control
    (sym (all_same (λ region. is_listed (numbers_of book) region.id) (λ region. has_notes book region.id) regions
    (λ region. any_number book region.id))
    ∙ all_within (numbers_of book) regions
    (λ number stands. subst (λ (l : List ℕ). is_listed l number ≡ true) (sym e) stands))
