-- While a region is entered, its ranges stay inside guest memory, where the registers at its entry say: so it can be
-- left.
use Rattle.std.proofs.Common.{◌≡◌, ℕ, ◌+◌, ◌==◌, List, [], ◌∷◌, ap, sym, ◌∙◌, refl, subst}
use Rattle.std.proofs.Common.{inl, inr}
use Rattle.std.proofs.Common.{Bool, true, false, Option, Some, None, not}
use Rattle.std.specs.Prelude.{nat_le, option_map}
use Rattle.std.specs.List.{find, list_all, position_from}
use Rattle.std.proofs.lemmas.Bool.{and_parts, and_from, cases_Bool, cond-false, cond-true, eqb-true, eq-eqb}
use Rattle.std.proofs.lemmas.Bool.{not_from_true, or_left, or_right}
use Rattle.flow_base.specs.Guests.{is_inside}
use Rattle.rv32im_machine.specs.declared.stepping.Stepped.{Stepped}
use Rattle.rv32im_machine.specs.declared.stepping.Stepped.TheVariants.{Ran, Exited, Stopped}
use Rattle.rv32im_machine.specs.State.{State, Setting, Control, onward, moved_to, entered, ended, public_taken}
use Rattle.rv32im_machine.specs.State.{secret_taken, break_moved, emitted, saved}
use Rattle.rv32im_machine.specs.Language.{turn_walk}
use Rattle.rv32im_machine.specs.Rows.{walk_of}
use Rattle.rv32im_machine.specs.Folds.{real_end}
use Rattle.enclosure_regions.specs.declared.break_kinds.Break.{Break}
use Rattle.enclosure_regions.specs.declared.region_parts.Range.{Range}
use Rattle.enclosure_regions.specs.declared.region_parts.Region.{Region}
use Rattle.enclosure_regions.specs.Breaks.{outside_range}
use Rattle.enclosure_regions.specs.Regions.{are_distinct, are_regions, ids_of, is_region}
use Rattle.enclosure_regions.specs.Turns.{start_of}
use Rattle.region_machine.specs.Enclosures.{Kind, Enters, Leaves, Steps, kind_of, kind_in}
use Rattle.region_machine.specs.Enclosures.{kind_outside, kind_within, region_entered_at, region_numbered}
use Rattle.region_machine.specs.Guests.{entry, guest_walk, kind_walk, leave}
use Rattle.region_machine.specs.Guests.{skip}
use Rattle.region_machine.specs.Breaking.{Breaks, kind_break}
use Rattle.region_machine.specs.Within.{are_inside, can_skip, may_leave, may_leave_of}
use Rattle.region_machine.proofs.CarriedToEnds.{AtEnds, Carries, CarriesCalls, Follows, step_ends, real_at_end}
use Rattle.region_machine.proofs.OutputGrows.{after_entry, entry_ends, leave_ends, skip_ends}
use Rattle.flow_base.specs.Points.{is_region_number}
use Rattle.flow_base.specs.Listed.{is_listed}

-- ---- the ranges

pub all_inside : (test : Range → Bool) (place : ℕ) (ranges : List Range) →
    position_from (λ range. not (test range)) place ranges ≡ None → list_all test ranges ≡ true
all_inside test place [] e = refl
all_inside test place (range ∷ ranges) e = elim (cases_Bool (test range)) [
  | inl passes ↦
      let no : not (test range) ≡ false = rw passes refl in
      and_from _ _ passes (all_inside test (place + 1) ranges
      (sym
      (cond-false (not (test range)) (Some place) (position_from (λ range. not (test range)) (place + 1) ranges) no)
      ∙ e))
  | inr other ↦
      let no : not (test range) ≡ true = rw other refl in
      let here : Some place ≡ None =
      sym (cond-true (not (test range)) (Some place) (position_from (λ range. not (test range)) (place + 1) ranges) no)
      ∙ e in
      absurd (cc)
]

pub inside_at_entry : (region : Region) (registers : List ℕ) (base : ℕ) → outside_range region registers base ≡ None →
    are_inside region.ranges registers base ≡ true
inside_at_entry region registers base e =
    all_inside (λ range. is_inside base (start_of registers range) range.length) 0 region.ranges e

none_broken : (region : Region) (range : Option ℕ) →
    option_map (λ range. Break.RangeOutside region.id range) range ≡ None → range ≡ None
none_broken region None e = refl
none_broken region (Some range) e = absurd (cc)

pub kind_unbroken : (kind : Kind) (state : State) → kind_break kind state ≡ None →
    can_skip kind state.store.registers state.setting.base ≡ true
kind_unbroken (Enters region) state e =
    inside_at_entry region state.store.registers state.setting.base (none_broken region _ e)
kind_unbroken (Leaves region) state e = refl
kind_unbroken (Steps region) state e = refl

-- ---- the region that is entered at an address has its number alone

found_stands : (test : Region → Bool) (regions : List Region) (region : Region) → find test regions ≡ Some region →
    is_listed (ids_of regions) region.id ≡ true
found_stands test [] region e = absurd (cc)
found_stands test (first ∷ regions) region e = elim (cases_Bool (test first)) [
  | inl passes ↦
      let here : Some first ≡ Some region = sym (cond-true (test first) (Some first) (find test regions) passes) ∙ e in
      let same : first ≡ region = cc in
      or_left (first.id == region.id) (is_listed (ids_of regions) region.id)
      (eq-eqb first.id region.id (ap (λ (r : Region). r.id) same))
  | inr fails ↦
      let later : find test regions ≡ Some region =
      sym (cond-false (test first) (Some first) (find test regions) fails) ∙ e in
      or_right (first.id == region.id) (is_listed (ids_of regions) region.id) (found_stands test regions region later)
]

pub found_rules : (test : Region → Bool) (regions : List Region) (region : Region) → list_all is_region regions ≡ true →
    find test regions ≡ Some region → is_region region ≡ true
found_rules test [] region rules e = absurd (cc)
found_rules test (first ∷ regions) region rules e =
    let both = and_parts (is_region first) (list_all is_region regions) rules in
    elim (cases_Bool (test first)) [
      | inl passes ↦
          let here : Some first ≡ Some region =
          sym (cond-true (test first) (Some first) (find test regions) passes) ∙ e in
          let same : first ≡ region = cc in
          subst (λ (r : Region). is_region r ≡ true) same both.0
      | inr fails ↦
          found_rules test regions region both.1
          (sym (cond-false (test first) (Some first) (find test regions) fails) ∙ e)
    ]

found_numbered : (test : Region → Bool) (regions : List Region) (region : Region) →
    are_distinct (ids_of regions) ≡ true → find test regions ≡ Some region →
    find (λ other. other.id == region.id) regions ≡ Some region
found_numbered test [] region apart e = absurd (cc)
found_numbered test (first ∷ regions) region apart e =
    let both = and_parts (not (is_listed (ids_of regions) first.id)) (are_distinct (ids_of regions)) apart in
    elim (cases_Bool (test first)) [
      | inl passes ↦
          let here : Some first ≡ Some region =
          sym (cond-true (test first) (Some first) (find test regions) passes) ∙ e in
          let same : first ≡ region = cc in
          cond-true (first.id == region.id) (Some first) (find (λ other. other.id == region.id) regions)
          (eq-eqb first.id region.id (ap (λ (r : Region). r.id) same))
          ∙ here
      | inr fails ↦
          let later : find test regions ≡ Some region =
          sym (cond-false (test first) (Some first) (find test regions) fails) ∙ e in
          let stands = found_stands test regions region later in
          let other : (first.id == region.id) ≡ false = elim (cases_Bool (first.id == region.id)) [
            | inl alike ↦
                let same : first.id ≡ region.id = eqb-true first.id region.id alike in
                let again : is_listed (ids_of regions) first.id ≡ true =
                subst (λ (id : ℕ). is_listed (ids_of regions) id ≡ true) (sym same) stands in
                let never : not (is_listed (ids_of regions) first.id) ≡ false = not_from_true _ again in
                absurd (cc)
            | inr different ↦ different
          ] in
          cond-false (first.id == region.id) (Some first) (find (λ other. other.id == region.id) regions) other
          ∙ found_numbered test regions region both.1 later
    ]

some_number : (region : Region) → is_region region ≡ true → (region.id == 0) ≡ false
some_number region rules = elim (cases_Bool (region.id == 0)) [
  | inl none ↦
      let zeroth : region.id ≡ 0 = eqb-true region.id 0 none in
      let both = and_parts (nat_le 1 region.id) (nat_le region.id 65535)
      (and_parts (is_region_number region.id) _ rules).0 in
      let number : nat_le 1 region.id ≡ true = both.0 in
      let never : nat_le 1 0 ≡ true = rw zeroth at number in
      absurd (cc)
  | inr some ↦ some
]

pub numbered : (regions : List Region) (test : Region → Bool) (region : Region) → are_regions regions ≡ true →
    find test regions ≡ Some region → region_numbered regions region.id ≡ Some region
numbered regions test region rules e =
    let parts = (and_parts _ _ (and_parts _ _ rules).1) in
    cond-false (region.id == 0) None (find (λ other. other.id == region.id) regions)
    (some_number region (found_rules test regions region parts.0 e))
    ∙ found_numbered test regions region (and_parts _ _ parts.1).0 e

entered_outside : (found : Option Region) (region : Region) → kind_outside found ≡ Enters region → found ≡ Some region
entered_outside None region e = absurd (cc)
entered_outside (Some first) region e = let same : first ≡ region = cc in ap (λ (r : Region). Some r) same

entered_within : (regions : List Region) (inside : Option Region) (pc : ℕ) (region : Region) →
    kind_within regions inside pc ≡ Enters region → region_entered_at regions pc ≡ Some region
entered_within regions None pc region e = entered_outside (region_entered_at regions pc) region e
entered_within regions (Some inside) pc region e = elim (cases_Bool (inside.leave == pc)) [
  | inl passes ↦
      let kind : Leaves inside ≡ Enters region =
      sym (cond-true (inside.leave == pc) (Leaves inside) (Steps (Some inside)) passes) ∙ e in
      absurd (cc)
  | inr fails ↦
      let kind : Steps (Some inside) ≡ Enters region =
      sym (cond-false (inside.leave == pc) (Leaves inside) (Steps (Some inside)) fails) ∙ e in
      absurd (cc)
]

pub entered_found : (mode : Stepped) (regions : List Region) (control : Control) (region : Region) →
    kind_in mode regions control ≡ Enters region → region_entered_at regions control.pc ≡ Some region
entered_found Ran regions control region e =
    entered_within regions (region_numbered regions control.region) control.pc region e
entered_found (Exited status) regions control region e = absurd (cc)
entered_found (Stopped fault) regions control region e = absurd (cc)

-- ---- what a turn keeps

abbrev pub CanGoOn : List Region → State → Type 0
CanGoOn regions state = may_leave regions state ≡ true

abbrev pub IsIn : ℕ → Control → Type 0
IsIn region control = control.region ≡ region

carries_region : (region : ℕ) → Carries (IsIn region)
unfolding onward moved_to ended
carries_region region =
    record { goes = λ control h. h; jumped = λ pc control h. h; stopped = λ fault control h. h }

carries_region_on : (region : ℕ) → CarriesCalls (IsIn region)
unfolding public_taken secret_taken break_moved emitted ended
carries_region_on region = record {
  publics = λ control h. h;
  secrets = λ control h. h;
  breaks = λ value control h. h;
  emits = λ byte control h. h;
  exited = λ status control h. h;
}

follows_region : (regions : List Region) (region : ℕ) (setting : Setting) (kept : List ℕ) →
    may_leave_of (region_numbered regions region) kept setting.base ≡ true →
    Follows (IsIn region) (CanGoOn regions) setting kept
follows_region regions region setting kept h = λ secret control store e is. rw (is, e) h

pub step_keeps : (regions : List Region) (state : State) → CanGoOn regions state → AtEnds (CanGoOn regions) (walk_of state)
step_keeps regions state h =
    step_ends (IsIn state.control.region) (CanGoOn regions) state (carries_region state.control.region)
    (carries_region_on state.control.region)
    (follows_region regions state.control.region state.setting state.store.kept h) refl

pub leave_keeps : (regions : List Region) (state : State) (region : Region) →
    AtEnds (CanGoOn regions) (turn_walk state (leave region state.store.kept state.control))
unfolding entered
leave_keeps regions state region =
    leave_ends (IsIn 0) (CanGoOn regions) state region (follows_region regions 0 state.setting state.store.kept refl)
    refl

pub skip_keeps : (regions : List Region) (state : State) (region : Region) → CanGoOn regions state →
    AtEnds (CanGoOn regions) (turn_walk state (skip region state.store.registers state.control))
unfolding moved_to
skip_keeps regions state region h =
    skip_ends (IsIn state.control.region) (CanGoOn regions) state region
    (follows_region regions state.control.region state.setting state.store.kept h) refl

after_keeps : (regions : List Region) (state : State) (region : Region) →
    region_numbered regions region.id ≡ Some region →
    are_inside region.ranges state.store.registers state.setting.base ≡ true →
    CanGoOn regions (after_entry region state)
unfolding entered saved
after_keeps regions state region found inside = rw found inside

entry_keeps : (regions : List Region) (state : State) (region : Region) →
    region_numbered regions region.id ≡ Some region →
    are_inside region.ranges state.store.registers state.setting.base ≡ true →
    AtEnds (CanGoOn regions) (turn_walk state (entry region state.control))
entry_keeps regions state region found inside =
    entry_ends (CanGoOn regions) state region (after_keeps regions state region found inside)

pub kind_keeps : (regions : List Region) (kind : Kind) (state : State) → are_regions regions ≡ true →
    CanGoOn regions state → kind_of regions state.control ≡ kind →
    can_skip kind state.store.registers state.setting.base ≡ true → AtEnds (CanGoOn regions) (kind_walk kind state)
kind_keeps regions (Enters region) state rules h is inside =
    entry_keeps regions state region
    (numbered regions (λ other. other.enter == state.control.pc) region rules
    (entered_found state.control.mode regions state.control region is)) inside
kind_keeps regions (Leaves region) state rules h is inside = leave_keeps regions state region
kind_keeps regions (Steps region) state rules h is inside = step_keeps regions state h

-- the real run that breaks no region
pub guest_keeps : (regions : List Region) (state : State) → are_regions regions ≡ true →
    may_leave regions state ≡ true → Breaks regions state ≡ None → may_leave regions (real_end (guest_walk regions state)) ≡ true
guest_keeps regions state rules h unbroken =
    real_at_end (CanGoOn regions) (guest_walk regions state)
    (kind_keeps regions (kind_of regions state.control) state rules h refl
    (kind_unbroken (kind_of regions state.control) state unbroken))
