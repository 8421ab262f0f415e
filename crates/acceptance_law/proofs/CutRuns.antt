-- Under the cut of a measured run and a side of its graph no more bits cross than the side's capacity.
use Rattle.std.proofs.Common.{◌≡◌, ℕ, ◌+◌, ◌≤◌, ◌==◌, ◌&&◌, ◌++◌, ◌∷◌, [], Bool, true, false, not, List}
use Rattle.std.proofs.Common.{length, refl, sym, ap, ◌∙◌, subst, arith, inl, inr, append-nil, append_assoc}
use Rattle.std.proofs.Common.{length-append, Option, Some, None}
use Rattle.std.specs.Prelude.{if◌then◌else◌}
use Rattle.std.specs.List.{AllByRecursion, find, list_all, sum_by}
use Rattle.std.proofs.lemmas.Bool.{cases_Bool, cond-true, cond-false, eqb-true}
use Rattle.std.proofs.lemmas.List.Sums.{sum_by-append}
use Rattle.flow_base.specs.declared.points.Point.{Point}
use Rattle.cut_file.specs.Cuts.{CutPicture, has_slot}
use Rattle.cut_file.specs.Masks.{MaskAt}
use Rattle.enclosure_regions.specs.declared.break_kinds.Break.{Break}
use Rattle.enclosure_regions.specs.declared.region_parts.Range.{Range}
use Rattle.enclosure_regions.specs.declared.region_parts.Region.{Region}
use Rattle.enclosure_regions.specs.Regions.{are_regions}
use Rattle.flow_graph.specs.declared.events.Event.{Event}
use Rattle.lockstep_replay.specs.Crossing.{crossing_unless, crossing_unbroken, crossing_of, cross_after}
use Rattle.lockstep_replay.proofs.Stillness.{cross_later}
use Rattle.region_machine.specs.Breaking.{Breaks, kind_break}
use Rattle.region_machine.specs.Enclosures.{Enclosures, Kind, Enters, Leaves, Steps, is_enclosed, is_enclosed_kind}
use Rattle.region_machine.specs.Enclosures.{kind_of, kind_in, kind_within, kind_outside, region_numbered}
use Rattle.region_machine.specs.Enclosures.{region_entered_at}
use Rattle.region_machine.specs.Guests.{looks, looks_at, guest_walk, kind_walk}
use Rattle.region_machine.specs.Runs.{Place, visited, unbroken_turn, turn_unless, real_turn, Real}
use Rattle.region_machine.specs.Starts.{guest}
use Rattle.region_machine.proofs.Stillness.{IsOver}
use Rattle.rv32im_machine.specs.declared.stepping.Stepped.{Stepped}
use Rattle.rv32im_machine.specs.declared.stepping.Stepped.TheVariants.{Ran, Exited, Stopped}
use Rattle.rv32im_machine.specs.Folds.{real_end}
use Rattle.rv32im_machine.specs.Language.{Turn, Saves, Ends, Walk, walked, Held, none_held}
use Rattle.rv32im_machine.specs.Rows.{turn_in, running}
use Rattle.rv32im_machine.specs.State.{Setting, Control, Store, State, entered}
use Rattle.run_labels.specs.Answers.{IsSoundAnswer}
use Rattle.run_labels.specs.Traces.{traced, events_in}
use Rattle.run_labels.specs.Runs.{enclosing, unlabelled, run_after, next_walk, turn_events, broken_fault}
use Rattle.run_labels.specs.Runs.{EachRunAnswer, IsUnrefused}
use Rattle.run_labels.specs.TurnLabels.{TurnLabels, at_start}
use Rattle.acceptance_law.specs.Sides.{NamedSide, named_side, is_split}
use Rattle.acceptance_law.specs.RunCuts.{is_inner, names_point, HasVisitMasks, visit_masks}
use Rattle.acceptance_law.specs.ClosedEvents.{IsProperEvent, AreProperEvents}
use Rattle.acceptance_law.specs.CrossingLaws.{CrossingLaw}
use Rattle.acceptance_law.specs.Laws.{IsMeasuredRun}
use Rattle.acceptance_law.specs.RunCuts.{IsCutOf}
use Rattle.elf32_loader.specs.Pictures.{Picture}
use Rattle.flow_base.specs.declared.outputs.Output.{Output}
use Rattle.flow_graph.specs.declared.graphs.Graph.{Graph}
use Rattle.flow_graph.specs.EventGraphs.{IsGraphOf}
use Rattle.max_flow.specs.declared.answers.Half.{Half}
use Rattle.max_flow.specs.Flows.{IsSideOf, side_capacity}
use Rattle.replay_machine.specs.Runs.{Masks}
use Rattle.acceptance_law.specs.GraphLaws.{split_bits}
use Rattle.acceptance_law.specs.Inputs.{IsProperGuest}
use Rattle.acceptance_law.proofs.CutBits.{CountsOutside, counts_inner, turn-crosses}
use Rattle.acceptance_law.proofs.CutVisits.{IsLike, like_itself}
use Rattle.acceptance_law.proofs.CutInner.{AreInnerEvents, turn-inner}
use Rattle.acceptance_law.proofs.GraphCapacities.{split_bits_within}
use Rattle.acceptance_law.proofs.GraphEvents.{all_parts}
use Rattle.acceptance_law.proofs.ProperRows.{proper_law}
use Rattle.acceptance_law.proofs.ProperRuns.{guest_limits, run_proper}
use Rattle.acceptance_law.proofs.SlotsInsideRegions.{WalkSlots, step_slots}
use Rattle.acceptance_law.proofs.Turns.{first_none}
use Rattle.flow_base.specs.Listed.{is_listed}

-- ---- a turn of a skipped region other than its leave passes inner points alone, where it breaks nothing

entry_inner : (skip : List ℕ) (setting : Setting) (secret : List ℕ) (ranges : List Range) (turn : Turn)
    (labels : TurnLabels) (answers : List ℕ) (store : Store) (held : Held) →
    AreInnerEvents skip (events_in labels answers (walked setting secret turn store held)) →
    AreInnerEvents skip (events_in labels answers (walked setting secret (looks ranges turn) store held))
unfolding looks walked traced
entry_inner skip setting secret [] turn labels answers store held inner = inner
entry_inner skip setting secret (range ∷ ranges) turn labels answers store held inner =
    look range.base (entry_inner skip setting secret ranges turn labels answers store held inner)
  where
    look : (register : Option ℕ) →
        AreInnerEvents skip (events_in labels answers (walked setting secret (looks ranges turn) store held)) →
        AreInnerEvents skip
        (events_in labels answers (walked setting secret (looks_at register (looks ranges turn)) store held))
    look None rest = rest
    look (Some register) rest = rest

step_inner : (mode : Stepped) (skip : List ℕ) (state : State) (labels : TurnLabels) (answers : List ℕ) →
    IsProperGuest state → is_listed skip state.control.region ≡ true →
    WalkSlots (walked state.setting state.secret (turn_in mode state.setting state.control) state.store none_held) →
    AreInnerEvents skip (events_in labels answers
    (walked state.setting state.secret (turn_in mode state.setting state.control) state.store none_held))
unfolding walked traced
step_inner Ran skip state labels answers guest stands slots =
    turn-inner state.setting state.secret guest.secret skip state.control.region stands
    (running state.setting state.control) labels answers state.store none_held (proper_law state guest)
    (guest_limits state guest) slots
step_inner (Exited status) skip state labels answers guest stands slots = tt
step_inner (Stopped fault) skip state labels answers guest stands slots = tt

-- a step inside a region is one inside the entered region
abbrev IsEntered : ℕ → Kind → Type 0
IsEntered number (Enters region) = Unit {0}
IsEntered number (Leaves region) = Unit {0}
IsEntered number (Steps None) = Unit {0}
IsEntered number (Steps (Some region)) = region.id ≡ number

found_number : (number : ℕ) (regions : List Region) (region : Region) →
    find (λ other. other.id == number) regions ≡ Some region → region.id ≡ number
found_number number [] region e = absurd (cc)
found_number number (first ∷ regions) region e = elim (cases_Bool (first.id == number)) [
  | inl passes ↦
      let here : Some first ≡ Some region =
      sym (cond-true (first.id == number) (Some first) (find (λ other. other.id == number) regions) passes) ∙ e in
      let same : first ≡ region = cc in
      ap (λ (r : Region). r.id) (sym same) ∙ eqb-true first.id number passes
  | inr fails ↦
      found_number number regions region
      (sym (cond-false (first.id == number) (Some first) (find (λ other. other.id == number) regions) fails) ∙ e)
]

entered_number : (number : ℕ) (regions : List Region) (region : Region) →
    region_numbered regions number ≡ Some region → region.id ≡ number
entered_number number regions region e = elim (cases_Bool (number == 0)) [
  | inl none ↦
      let no : None ≡ Some region =
      sym (cond-true (number == 0) None (find (λ other. other.id == number) regions) none) ∙ e in absurd (cc)
  | inr some ↦
      found_number number regions region
      (sym (cond-false (number == 0) None (find (λ other. other.id == number) regions) some) ∙ e)
]

outside_entered : (number : ℕ) (found : Option Region) → IsEntered number (kind_outside found)
outside_entered number None = tt
outside_entered number (Some region) = tt

within_entered : (number : ℕ) (regions : List Region) (inside : Option Region) (pc : ℕ) →
    ((region : Region) → inside ≡ Some region → region.id ≡ number) → IsEntered number (kind_within regions inside pc)
within_entered number regions None pc known = outside_entered number (region_entered_at regions pc)
within_entered number regions (Some region) pc known = pick (region.leave == pc)
  where
    pick : (test : Bool) → IsEntered number (if test then Leaves region else Steps (Some region))
    pick true = tt
    pick false = known region refl

kind_entered : (mode : Stepped) (regions : List Region) (control : Control) →
    IsEntered control.region (kind_in mode regions control)
kind_entered Ran regions control =
    within_entered control.region regions (region_numbered regions control.region) control.pc
    (λ region e. entered_number control.region regions region e)
kind_entered (Exited status) regions control = tt
kind_entered (Stopped fault) regions control = tt

kind_inner : (enclosures : Enclosures) (kind : Kind) (state : State) (labels : TurnLabels) (answers : List ℕ) →
    IsProperGuest state → IsEntered state.control.region kind → is_enclosed_kind enclosures kind ≡ true →
    kind_break kind state ≡ None → AreInnerEvents enclosures.skip (events_in labels answers (kind_walk kind state))
unfolding walked traced
kind_inner enclosures (Enters region) state labels answers guest known enclosed unbroken =
    entry_inner enclosures.skip state.setting state.secret region.ranges
    (Saves (Ends (entered region.id state.control))) labels answers state.store none_held tt
kind_inner enclosures (Leaves region) state labels answers guest known enclosed unbroken = absurd (cc)
kind_inner enclosures (Steps None) state labels answers guest known enclosed unbroken = absurd (cc)
kind_inner enclosures (Steps (Some region)) state labels answers guest known enclosed unbroken =
    step_inner state.control.mode enclosures.skip state labels answers guest
    (ap (is_listed enclosures.skip) (sym known) ∙ enclosed)
    (step_slots region state.store.kept state.control.pc state unbroken)

-- ---- one turn of a run

module _ (side : NamedSide) (cut : CutPicture)
    (points : (point : Point) → names_point cut.points point ≡ (is_split side point && not (is_inner cut.skip point)))
    (slots : list_all has_slot cut.points ≡ true) (masks : Masks) (like : IsLike cut.points masks) where
  either-crosses : (enclosed : Bool) (seen more : List Event) (past : List Point) (labels : TurnLabels)
      (answers : List ℕ) (walk : Walk) →
      AllByRecursion (HasVisitMasks (seen ++ (events_in labels answers walk ++ more))) cut.points →
      AreProperEvents (events_in labels answers walk) → CountsOutside cut.skip past seen →
      (enclosed ≡ true → AreInnerEvents cut.skip (events_in labels answers walk)) →
      (length (crossing_unless enclosed masks past walk)
      ≤ sum_by (split_bits side) (events_in labels answers walk))
      × CountsOutside cut.skip (visited enclosed past walk) (seen ++ events_in labels answers walk)
  either-crosses true seen more past labels answers walk have proper counts inner =
      (omega arith, counts_inner cut.skip past seen (events_in labels answers walk) (inner refl) counts)
  either-crosses false seen more past labels answers walk have proper counts inner =
      let turn = turn-crosses side cut points slots masks like seen more past labels answers walk have proper counts in
      (turn.bits, turn.counts)

  -- the real run with skipped regions beside the run with labels
  pub record CrossesRun (regions : List Region) (answers : List (List ℕ)) (start : Place) : Type 0 where
    pub state : (Real (record { regions = regions; skip = cut.skip }) (length answers) start).state
        ≡ (run_after regions answers (unlabelled start)).place.state
    pub unbroken : (Real (record { regions = regions; skip = cut.skip }) (length answers) start).broken ≡ None
    pub run_unbroken : (run_after regions answers (unlabelled start)).place.broken ≡ None
    pub counts : CountsOutside cut.skip
        (Real (record { regions = regions; skip = cut.skip }) (length answers) start).past
        (run_after regions answers (unlabelled start)).events
    pub bits : length (cross_after (record { regions = regions; skip = cut.skip }) masks (length answers)
        start) ≤ sum_by (split_bits side) (run_after regions answers (unlabelled start)).events

  fault_none : (broken : Option Break) → broken_fault broken ≡ None → broken ≡ None
  fault_none None e = refl
  fault_none (Some broken) e = absurd (cc)

  start-counts : CountsOutside cut.skip [] []
  unfolding visit_masks
  start-counts = λ point outside slot. refl

  run-crosses : (regions : List Region) (answers : List (List ℕ)) (start : Place) (more : List Event) →
      are_regions regions ≡ true → IsProperGuest start.state → start.past ≡ [] → start.broken ≡ None →
      EachRunAnswer IsSoundAnswer regions answers (unlabelled start) →
      IsUnrefused regions answers (unlabelled start) →
      AllByRecursion (HasVisitMasks ((run_after regions answers (unlabelled start)).events ++ more)) cut.points →
      CrossesRun regions answers start
  unfolding run_after Real cross_after EachRunAnswer IsUnrefused
  run-crosses regions [] start more rules is none unbroken sound unrefused have = record {
    state = refl;
    unbroken = unbroken;
    run_unbroken = unbroken;
    counts = subst (λ past. CountsOutside cut.skip past []) (sym none) start-counts;
    bits = omega arith;
  }
  run-crosses regions (last ∷ earlier) start more rules is none unbroken sound unrefused have =
      let enclosures : Enclosures = record { regions = regions; skip = cut.skip } in
      let run = run_after regions earlier (unlabelled start) in
      let place = Real enclosures (length earlier) start in
      let walk = next_walk regions run in
      let turn = turn_events regions last run in
      let before = run-crosses regions earlier start (turn ++ more) rules is none unbroken sound.0 unrefused.0
      (subst (λ es. AllByRecursion (HasVisitMasks es) cut.points) (append_assoc run.events turn more) have) in
      let guest = (run_proper regions earlier start rules is sound.0).guest in
      let proper = all_parts IsProperEvent run.events turn
      (run_proper regions (last ∷ earlier) start rules is sound).events in
      let parts = first_none _ _ (first_none _ _ unrefused.1).1 in
      let whole : Breaks regions run.place.state ≡ None = fault_none (Breaks regions run.place.state) parts.0 in
      let goes : real_turn enclosures place ≡ unbroken_turn enclosures place =
      ap (λ b. turn_unless b enclosures place) before.unbroken in
      let run_goes : real_turn (enclosing regions) run.place ≡ unbroken_turn (enclosing regions) run.place =
      ap (λ b. turn_unless b (enclosing regions) run.place) before.run_unbroken in
      let crosses = either-crosses (is_enclosed enclosures run.place.state.control) run.events more place.past
      (at_start run.labels) last walk
      (subst (λ es. AllByRecursion (HasVisitMasks es) cut.points) (append_assoc run.events turn more) have) proper.1
      before.counts
      (λ enclosed. kind_inner enclosures (kind_of regions run.place.state.control) run.place.state (at_start run.labels)
      last guest (kind_entered run.place.state.control.mode regions run.place.state.control) enclosed whole) in
      let cross : crossing_of enclosures masks place
      ≡ crossing_unless (is_enclosed enclosures run.place.state.control) masks place.past walk =
      ap (λ b. crossing_unbroken b enclosures masks place) before.unbroken
      ∙ ap (λ s. crossing_unless (is_enclosed enclosures s.control) masks place.past
      (guest_walk regions s)) before.state in
      let now : length (crossing_of enclosures masks place)
      ≡ length (crossing_unless (is_enclosed enclosures run.place.state.control) masks place.past walk) =
      ap length cross in
      let bits : length (cross_after enclosures masks (length earlier) start
      ++ crossing_of enclosures masks place)
      ≡ length (cross_after enclosures masks (length earlier) start)
      + length (crossing_of enclosures masks place) =
      length-append (cross_after enclosures masks (length earlier) start)
      (crossing_of enclosures masks place) in
      let sum : sum_by (split_bits side) (run.events ++ turn)
      ≡ sum_by (split_bits side) run.events + sum_by (split_bits side) turn =
      sum_by-append (split_bits side) run.events turn in
      let first = before.bits in
      let second = crosses.0 in
      record {
        state = ap (λ p. p.state) goes ∙ ap (λ s. real_end (guest_walk regions s)) before.state
            ∙ sym (ap (λ p. p.state) run_goes);
        unbroken = ap (λ p. p.broken) goes ∙ ap (λ s. Breaks regions s) before.state ∙ whole;
        run_unbroken = ap (λ p. p.broken) run_goes ∙ whole;
        counts = subst (λ past. CountsOutside cut.skip past (run.events ++ turn))
            (sym (ap (λ p. p.past) goes
            ∙ ap (λ s. visited (is_enclosed enclosures s.control) place.past (guest_walk regions s)) before.state))
            crosses.1;
        bits = omega (arith, bits, now, sum, first, second);
      }

-- ---- the law

over : (mode : Stepped) (status : ℕ) → mode ≡ Exited status → IsOver mode
over Ran status e = absurd (cc)
over (Exited other) status e = tt
over (Stopped fault) status e = tt

-- under masks that are the cut's wherever it lists them no more bits cross than the side's capacity
pub crossing_by : (program : Picture) (public_input : List ℕ) (regions : List Region) (secret : List ℕ)
    (cut : CutPicture) (masks : Masks) (graph : Graph) (halves : List Half) (relays : List Bool)
    (answers : List (List ℕ)) (secret_len capacity turns : ℕ) (output : Output) → are_regions regions ≡ true →
    IsMeasuredRun regions answers (guest program public_input secret) output → length answers ≤ turns →
    IsGraphOf (run_after regions answers (unlabelled (guest program public_input secret))).events graph →
    IsSideOf graph halves relays →
    IsCutOf secret_len (run_after regions answers (unlabelled (guest program public_input secret))).events
    (named_side graph halves relays) capacity cut →
    list_all has_slot cut.points ≡ true → IsLike cut.points masks →
    length (cross_after (record { regions = regions; skip = cut.skip }) masks turns
    (guest program public_input secret)) ≤ side_capacity graph halves relays
crossing_by program public_input regions secret cut masks graph halves relays answers secret_len capacity turns output
    rules measured enough is_graph is_side is_cut slots like =
    let enclosures : Enclosures = record { regions = regions; skip = cut.skip } in
    let events = (run_after regions answers (unlabelled (guest program public_input secret))).events in
    let run = run-crosses (named_side graph halves relays) cut is_cut.points slots masks like regions answers
    (guest program public_input secret) [] rules measured.guest refl refl measured.sound measured.unrefused
    (subst (λ es. AllByRecursion (HasVisitMasks es) cut.points) (sym (append-nil events)) is_cut.masks) in
    let ended = over _ output.status (ap (λ s. s.control.mode) run.state ∙ measured.exits.status) in
    let same : cross_after enclosures masks turns (guest program public_input secret)
    ≡ cross_after enclosures masks (length answers) (guest program public_input secret) =
    cross_later enclosures masks (guest program public_input secret) (length answers) turns enough
    ended in
    let count = ap length same in
    let bits = run.bits in
    let within = split_bits_within events graph halves relays is_graph is_side in
    omega (arith, count, bits, within)

pub crossing_law : CrossingLaw
crossing_law program public_input regions secret cut graph halves relays answers secret_len capacity turns output rules
    measured enough is_graph is_side is_cut slots =
    crossing_by program public_input regions secret cut (MaskAt cut.points) graph halves relays answers secret_len
    capacity turns output rules measured enough is_graph is_side is_cut slots (like_itself cut.points slots)
