-- Every turn of a guest with regions is orderly, so its values stay a guest's and the events of its runs are proper.
use Rattle.std.proofs.Common.{◌≡◌, ℕ, zero, suc, ◌+◌, ◌-◌, ◌^◌, ◌≤◌, ◌<◌, ◌==◌, ◌∷◌, [], Bool, true, false, List}
use Rattle.std.proofs.Common.{length, refl, sym, ◌∙◌, subst, arith, Option, Some, None, inl, inr, nat_le, nat_lt, not}
use Rattle.std.specs.Prelude.{if◌then◌else◌}
use Rattle.std.specs.List.{find, list_all}
use Rattle.std.proofs.lemmas.Bool.{and_parts, cases_Bool, cond-true, cond-false, leb-true, lt-ltb, ne_eqb}
use Rattle.enclosure_regions.specs.declared.region_parts.Range.{Range}
use Rattle.enclosure_regions.specs.declared.region_parts.Region.{Region}
use Rattle.enclosure_regions.specs.Regions.{are_regions, is_region, is_register, are_registers}
use Rattle.enclosure_regions.specs.Regions.{are_apart, are_ranges, is_code_address, is_range}
use Rattle.enclosure_regions.specs.Turns.{start_of}
use Rattle.region_machine.specs.Enclosures.{Kind, Enters, Leaves, Steps, kind_of, kind_in, kind_within, kind_outside}
use Rattle.region_machine.specs.Enclosures.{region_numbered, region_entered_at}
use Rattle.region_machine.specs.Guests.{looks, looks_at, entry, gives_registers, gives_bytes, gives_ranges, leave}
use Rattle.region_machine.specs.Guests.{kind_walk, guest_walk}
use Rattle.region_machine.specs.Runs.{Place as RunPlace, turn_unless}
use Rattle.region_machine.proofs.RangesStayInside.{found_rules}
use Rattle.enclosure_regions.specs.declared.break_kinds.Break.{Break}
use Rattle.rv32im_machine.specs.declared.stepping.Stepped.{Stepped}
use Rattle.rv32im_machine.specs.declared.stepping.Stepped.TheVariants.{Ran, Exited, Stopped}
use Rattle.rv32im_machine.specs.State.{Control, State, entered}
use Rattle.rv32im_machine.specs.Language.{Turn, Saves, Ends, none_held, at_place, walked}
use Rattle.rv32im_machine.specs.declared.language.Place.{Place}
use Rattle.rv32im_machine.specs.declared.language.Place.TheVariants.{Register, Byte, First, Second}
use Rattle.rv32im_machine.specs.Folds.{real_end}
use Rattle.rv32im_machine.specs.Rows.{turn_in, turn_of, running}
use Rattle.run_labels.specs.Answers.{IsSoundAnswer}
use Rattle.run_labels.specs.Traces.{EachAnswer, labels_in, events_in}
use Rattle.run_labels.specs.TurnLabels.{at_start}
use Rattle.run_labels.specs.Runs.{LabelledRun, enclosing, unlabelled, run_after, turn_events, EachRunAnswer}
use Rattle.shadow_masks.specs.Writes.{LabelMap, default_map}
use Rattle.acceptance_law.specs.ClosedEvents.{IsProperEvent, AreProperEvents}
use Rattle.acceptance_law.specs.Inputs.{IsProperGuest, place_limit}
use Rattle.acceptance_law.specs.GuestLaws.{GuestTurnLaw, ProperEventsLaw}
use Rattle.acceptance_law.proofs.GraphEvents.{all_append}
use Rattle.acceptance_law.proofs.ProperRows.{proper_law}
use Rattle.acceptance_law.proofs.ProperTurns.{IsOrderly, proper_orderly, HasLimits, AreLimitedLabels, starts_so}
use Rattle.acceptance_law.proofs.ProperTurns.{turn-events, turn-guest}
use Rattle.flow_base.specs.Points.{is_region_number}

-- ---- entries

looks_orderly : (base : ℕ) (ranges : List Range) (turn : Turn) → IsOrderly base turn →
    IsOrderly base (looks ranges turn)
unfolding looks IsOrderly
looks_orderly base [] turn orderly = orderly
looks_orderly base (range ∷ ranges) turn orderly = look range.base (looks_orderly base ranges turn orderly)
  where
    look : (register : Option ℕ) → IsOrderly base (looks ranges turn) →
        IsOrderly base (looks_at register (looks ranges turn))
    look None rest = rest
    look (Some register) rest = λ value word. rest

entry_orderly : (base : ℕ) (region : Region) (control : Control) → control.current_break < 2 ^ 32 →
    IsOrderly base (entry region control)
unfolding IsOrderly entered
entry_orderly base region control break =
    looks_orderly base region.ranges (Saves (Ends (entered region.id control))) break

-- ---- leaves

registers_orderly : (base : ℕ) (region : Region) (registers : List ℕ) (turn : Turn) → (region.id == 0) ≡ false →
    list_all is_register registers ≡ true → IsOrderly base turn → IsOrderly base (gives_registers region registers turn)
unfolding gives_registers IsOrderly
registers_orderly base region [] turn some known orderly = orderly
registers_orderly base region (register ∷ registers) turn some known orderly =
    let both = and_parts (is_register register) (list_all is_register registers) known in
    (both.0, some, refl, registers_orderly base region registers turn some both.1 orderly)

bytes_orderly : (count : ℕ) (base : ℕ) (region : Region) (number address : ℕ) (turn : Turn) →
    (region.id == 0) ≡ false → nat_lt number 64 ≡ true → IsOrderly base turn →
    IsOrderly base (gives_bytes region number address count turn)
unfolding gives_bytes IsOrderly
bytes_orderly zero base region number address turn some known orderly = orderly
bytes_orderly (suc count) base region number address turn some known orderly =
    (known, some, refl, bytes_orderly count base region number (address + 1) turn some known orderly)

ranges_orderly : (base : ℕ) (region : Region) (registers : List ℕ) (number : ℕ) (ranges : List Range) (turn : Turn) →
    (region.id == 0) ≡ false → number + length ranges ≤ 64 → IsOrderly base turn →
    IsOrderly base (gives_ranges region registers number ranges turn)
unfolding gives_ranges
ranges_orderly base region registers number [] turn some few orderly = orderly
ranges_orderly base region registers number (range ∷ ranges) turn some few orderly =
    bytes_orderly range.length base region number (start_of registers range)
    (gives_ranges region registers (number + 1) ranges turn) some (lt-ltb number 64 (omega arith))
    (ranges_orderly base region registers (number + 1) ranges turn some (omega arith) orderly)

some_id : (region : Region) → is_region region ≡ true → (region.id == 0) ≡ false
some_id region known =
    let number = and_parts (nat_le 1 region.id) (nat_le region.id 65535)
    (and_parts (is_region_number region.id) _ known).0 in
    let least : 1 ≤ region.id = leb-true 1 region.id number.0 in
    ne_eqb region.id 0 (λ e. omega (arith, e, least))

leave_orderly : (base : ℕ) (region : Region) (registers : List ℕ) (control : Control) → is_region region ≡ true →
    control.current_break < 2 ^ 32 → IsOrderly base (leave region registers control)
unfolding IsOrderly entered
leave_orderly base region registers control known break =
    let a = and_parts (is_code_address region.enter) _ (and_parts (is_region_number region.id) _ known).1 in
    let b = and_parts (is_code_address region.leave) _ a.1 in
    let c = and_parts (not (region.enter == region.leave)) _ b.1 in
    let outs = and_parts (are_registers region.outs) _ c.1 in
    let keep = and_parts (are_registers region.keep) _ outs.1 in
    let apart = and_parts (are_apart region.outs region.keep) (are_ranges region.ranges) keep.1 in
    let ranges = and_parts (list_all is_range region.ranges) _ apart.1 in
    let few = and_parts (nat_le (length region.ranges) 64) _ ranges.1 in
    let most : length region.ranges ≤ 64 = leb-true (length region.ranges) 64 few.0 in
    registers_orderly base region region.outs (gives_ranges region registers 0 region.ranges (Ends (entered 0 control)))
    (some_id region known) (and_parts (list_all is_register region.outs) _ outs.0).0
    (ranges_orderly base region registers 0 region.ranges (Ends (entered 0 control)) (some_id region known)
    (omega (arith, most)) break)

-- ---- steps

step_orderly : (mode : Stepped) (state : State) → IsProperGuest state →
    IsOrderly state.setting.base (turn_in mode state.setting state.control)
unfolding IsOrderly
step_orderly Ran state guest =
    proper_orderly state.setting.base state.control.region (running state.setting state.control)
    (proper_law state guest)
step_orderly (Exited status) state guest = guest.current_break
step_orderly (Stopped fault) state guest = guest.current_break

-- ---- the region that is left keeps the rules

abbrev pub LeavesRegion : Kind → Type 0
LeavesRegion (Enters region) = Unit {0}
LeavesRegion (Leaves region) = is_region region ≡ true
LeavesRegion (Steps region) = Unit {0}

outside_leaves : (found : Option Region) → LeavesRegion (kind_outside found)
outside_leaves None = tt
outside_leaves (Some region) = tt

within_leaves : (regions : List Region) (inside : Option Region) (pc : ℕ) →
    ((region : Region) → inside ≡ Some region → is_region region ≡ true) →
    LeavesRegion (kind_within regions inside pc)
within_leaves regions None pc known = outside_leaves (region_entered_at regions pc)
within_leaves regions (Some region) pc known = pick (region.leave == pc)
  where
    pick : (test : Bool) → LeavesRegion (if test then Leaves region else Steps (Some region))
    pick true = known region refl
    pick false = tt

numbered_region : (regions : List Region) (number : ℕ) (region : Region) → list_all is_region regions ≡ true →
    region_numbered regions number ≡ Some region → is_region region ≡ true
numbered_region regions number region rules e = elim (cases_Bool (number == 0)) [
  | inl none ↦
      let no : None ≡ Some region =
      sym (cond-true (number == 0) None (find (λ other. other.id == number) regions) none) ∙ e in absurd (cc)
  | inr some ↦
      found_rules (λ other. other.id == number) regions region rules
      (sym (cond-false (number == 0) None (find (λ other. other.id == number) regions) some) ∙ e)
]

pub kind_leaves : (mode : Stepped) (regions : List Region) (control : Control) → list_all is_region regions ≡ true →
    LeavesRegion (kind_in mode regions control)
kind_leaves Ran regions control rules =
    within_leaves regions (region_numbered regions control.region) control.pc
    (λ region e. numbered_region regions control.region region rules e)
kind_leaves (Exited status) regions control rules = tt
kind_leaves (Stopped fault) regions control rules = tt

-- ---- every turn

abbrev turn_of_kind : Kind → State → Turn
turn_of_kind (Enters region) state = entry region state.control
turn_of_kind (Leaves region) state = leave region state.store.kept state.control
turn_of_kind (Steps region) state = turn_of state.setting state.control

kind_turn : (kind : Kind) (state : State) →
    kind_walk kind state ≡ walked state.setting state.secret (turn_of_kind kind state) state.store none_held
kind_turn (Enters region) state = refl
kind_turn (Leaves region) state = refl
kind_turn (Steps region) state = refl

kind_orderly : (kind : Kind) (state : State) → IsProperGuest state → LeavesRegion kind →
    IsOrderly state.setting.base (turn_of_kind kind state)
kind_orderly (Enters region) state guest known =
    entry_orderly state.setting.base region state.control guest.current_break
kind_orderly (Leaves region) state guest known =
    leave_orderly state.setting.base region state.store.kept state.control known guest.current_break
kind_orderly (Steps region) state guest known = step_orderly state.control.mode state guest

regions_known : (regions : List Region) → are_regions regions ≡ true → list_all is_region regions ≡ true
regions_known regions rules =
    (and_parts (list_all is_region regions) _ (and_parts (nat_le (length regions) 256) _ rules).1).0

pub guest_limits : (state : State) → IsProperGuest state → HasLimits state.setting.base state.store none_held
guest_limits state guest = record { places = place; kept = guest.store.kept }
  where
    place : (place : Place) → at_place state.setting.base state.store none_held place ≤ place_limit place
    place (Register register) = let word = guest.store.registers register in omega (arith, word)
    place (Byte address) =
        let byte = guest.store.memory (address - state.setting.base) in omega (arith, byte)
    place First = omega arith
    place Second = omega arith

pub guest_turn_law : GuestTurnLaw
guest_turn_law regions state rules guest =
    subst (λ walk. IsProperGuest (real_end walk)) (sym (kind_turn (kind_of regions state.control) state))
    (turn-guest state.setting state.secret guest.secret (turn_of_kind (kind_of regions state.control) state) state.store
    none_held
    (kind_orderly (kind_of regions state.control) state guest
    (kind_leaves state.control.mode regions state.control (regions_known regions rules)))
    (guest_limits state guest) guest.public_input guest.start_break)

guest_events : (regions : List Region) (state : State) (map : LabelMap) (answers : List ℕ) →
    are_regions regions ≡ true → IsProperGuest state → AreLimitedLabels map →
    EachAnswer IsSoundAnswer (at_start map) answers (guest_walk regions state) →
    AreProperEvents (events_in (at_start map) answers (guest_walk regions state))
    × AreLimitedLabels (labels_in (at_start map) answers (guest_walk regions state))
guest_events regions state map answers rules guest limited sound =
    let same = kind_turn (kind_of regions state.control) state in
    subst (λ walk. AreProperEvents (events_in (at_start map) answers walk)
    × AreLimitedLabels (labels_in (at_start map) answers walk)) (sym same)
    (turn-events state.setting state.secret guest.secret (turn_of_kind (kind_of regions state.control) state)
    (at_start map) answers state.store none_held
    (kind_orderly (kind_of regions state.control) state guest
    (kind_leaves state.control.mode regions state.control (regions_known regions rules)))
    (starts_so map limited) (guest_limits state guest)
    (subst (λ walk. EachAnswer IsSoundAnswer (at_start map) answers walk) same sound))

-- ---- a run

still_guest : (regions : List Region) (place : RunPlace) (broken : Option Break) → are_regions regions ≡ true →
    IsProperGuest place.state → IsProperGuest (turn_unless broken (enclosing regions) place).state
still_guest regions place None rules guest = guest_turn_law regions place.state rules guest
still_guest regions place (Some broken) rules guest = guest

default_limited : AreLimitedLabels default_map
default_limited = record {
  registers = λ register. omega arith;
  kept = λ register. omega arith;
  bytes = λ address. omega arith;
}

-- what holds after each turn of a run
pub record IsProperRun (run : LabelledRun) : Type 0 where
  pub guest : IsProperGuest run.place.state
  pub limited : AreLimitedLabels run.labels
  pub events : AreProperEvents run.events

pub run_proper : (regions : List Region) (answers : List (List ℕ)) (start : RunPlace) → are_regions regions ≡ true →
    IsProperGuest start.state → EachRunAnswer IsSoundAnswer regions answers (unlabelled start) →
    IsProperRun (run_after regions answers (unlabelled start))
unfolding run_after EachRunAnswer
run_proper regions [] start rules guest sound = record { guest = guest; limited = default_limited; events = tt }
run_proper regions (last ∷ earlier) start rules guest sound =
    let run = run_after regions earlier (unlabelled start) in
    let before = run_proper regions earlier start rules guest sound.0 in
    let turn = guest_events regions run.place.state run.labels last rules before.guest before.limited sound.1 in
    record {
      guest = still_guest regions run.place run.place.broken rules before.guest;
      limited = turn.1;
      events = all_append IsProperEvent run.events (turn_events regions last run) before.events turn.0;
    }

pub proper_events_law : ProperEventsLaw
proper_events_law regions answers start rules guest sound = (run_proper regions answers start rules guest sound).events
