-- The points that the real run passes where regions are skipped, beside those of the events of the run with labels.
use Rattle.std.proofs.Common.{◌≡◌, ℕ, suc, ◌+◌, ◌≤◌, ◌++◌, ◌∷◌, [], Bool, true, false, cond, List, length, refl, sym, ap, ◌∙◌}
use Rattle.std.proofs.Common.{length-append, Option, Some, None, arith, subst}
use Rattle.std.specs.Prelude.{if◌then◌else◌}
use Rattle.std.specs.List.{AllByRecursion}
use Rattle.flow_base.specs.declared.points.Point.{Point}
use Rattle.flow_base.specs.PointOrders.{is_same}
use Rattle.flow_base.specs.Points.{is_slot}
use Rattle.enclosure_regions.specs.declared.break_kinds.Break.{Break}
use Rattle.enclosure_regions.specs.declared.region_parts.Region.{Region}
use Rattle.flow_graph.specs.declared.events.Event.{Event}
use Rattle.flow_graph.specs.declared.events.Event.TheVariants.{Pass, Link, FromSecret, Implicit, Out}
use Rattle.region_machine.specs.Breaking.{Breaks}
use Rattle.region_machine.specs.Enclosures.{Enclosures, is_enclosed}
use Rattle.region_machine.specs.Guests.{guest_walk}
use Rattle.region_machine.specs.Runs.{Place, passed, Real, real_turn, turn_unless, unbroken_turn, visited}
use Rattle.replay_machine.specs.Runs.{times_passed}
use Rattle.run_labels.specs.Traces.{events_in}
use Rattle.run_labels.specs.Runs.{IsUnrefused, broken_fault, enclosing, next_walk, run_after, turn_events, unlabelled}
use Rattle.run_labels.specs.TurnLabels.{TurnLabels, at_start}
use Rattle.rv32im_machine.specs.Folds.{real_end}
use Rattle.rv32im_machine.specs.Language.{Walk}
use Rattle.acceptance_law.specs.ClosedEvents.{AreProperEvents, IsProperEvent}
use Rattle.acceptance_law.specs.RunCuts.{visit_masks}
use Rattle.acceptance_law.proofs.CutVisits.{visit_masks_append}
use Rattle.acceptance_law.proofs.GraphEvents.{all_parts}
use Rattle.acceptance_law.proofs.PastsOfEvents.{events_past, pasts}
use Rattle.acceptance_law.proofs.Turns.{first_none}

-- ---- the visits of events

abbrev pub HaveSlots : List Point → Type 0
HaveSlots past = AllByRecursion (λ (point : Point). is_slot point.slot ≡ true) past

times_event : (point : Point) (b : Bool) (mask count : ℕ) (masks : List ℕ) →
    (if b then suc count else count) + length masks ≡ count + length (cond b (mask ∷ []) [] ++ masks)
times_event point true mask count masks = omega arith
times_event point false mask count masks = refl

-- passings of a point are its visits
pub times_pasts : (point : Point) (events : List Event) (past : List Point) →
    times_passed point (pasts events past) ≡ times_passed point past + length (visit_masks point events)
unfolding pasts visit_masks
times_pasts point [] past = omega arith
times_pasts point (Pass other mask ∷ events) past =
    times_pasts point events (other ∷ past)
    ∙ times_event point (is_same point other) mask (times_passed point past) (visit_masks point events)
times_pasts point (Link source target ∷ events) past = times_pasts point events past
times_pasts point (FromSecret other ∷ events) past = times_pasts point events past
times_pasts point (Implicit other region ∷ events) past = times_pasts point events past
times_pasts point (Out region other ∷ events) past = times_pasts point events past

slots_pasts : (events : List Event) (past : List Point) → AreProperEvents events → HaveSlots past →
    HaveSlots (pasts events past)
unfolding pasts
slots_pasts [] past proper slots = slots
slots_pasts (Pass other mask ∷ events) past proper slots =
    slots_pasts events (other ∷ past) proper.1 (proper.0.1, slots)
slots_pasts (Link source target ∷ events) past proper slots = slots_pasts events past proper.1 slots
slots_pasts (FromSecret other ∷ events) past proper slots = slots_pasts events past proper.1 slots
slots_pasts (Implicit other region ∷ events) past proper slots = slots_pasts events past proper.1 slots
slots_pasts (Out region other ∷ events) past proper slots = slots_pasts events past proper.1 slots

-- ---- one turn

-- so often at most, and at slots alone
pub record Within (past : List Point) (events : List Event) : Type 0 where
  pub few : (point : Point) → times_passed point past ≤ length (visit_masks point events)
  pub slots : HaveSlots past

start_within : Within [] []
unfolding visit_masks
start_within = record { few = λ point. omega arith; slots = tt }

turn_within : (enclosed : Bool) (past : List Point) (events : List Event) (labels : TurnLabels) (answers : List ℕ)
    (walk : Walk) → Within past events → AreProperEvents (events_in labels answers walk) →
    Within (visited enclosed past walk) (events ++ events_in labels answers walk)
turn_within true past events labels answers walk within proper = record {
  few = λ point.
      let all : length (visit_masks point (events ++ events_in labels answers walk))
      ≡ length (visit_masks point events) + length (visit_masks point (events_in labels answers walk)) =
      ap length (visit_masks_append point events (events_in labels answers walk))
      ∙ length-append (visit_masks point events) (visit_masks point (events_in labels answers walk)) in
      let few = within.few point in omega (arith, all, few);
  slots = within.slots;
}
turn_within false past events labels answers walk within proper = record {
  few = λ point.
      let all : length (visit_masks point (events ++ events_in labels answers walk))
      ≡ length (visit_masks point events) + length (visit_masks point (events_in labels answers walk)) =
      ap length (visit_masks_append point events (events_in labels answers walk))
      ∙ length-append (visit_masks point events) (visit_masks point (events_in labels answers walk)) in
      let turn : times_passed point (passed past walk)
      ≡ times_passed point past + length (visit_masks point (events_in labels answers walk)) =
      ap (λ p. times_passed point p) (sym (events_past walk labels answers past))
      ∙ times_pasts point (events_in labels answers walk) past in
      let few = within.few point in omega (arith, all, turn, few);
  slots = subst HaveSlots (events_past walk labels answers past)
      (slots_pasts (events_in labels answers walk) past proper within.slots);
}

-- ---- so many turns

-- the real run where these regions are skipped beside the run with labels
pub record Beside (regions : List Region) (skip : List ℕ) (answers : List (List ℕ)) (start : Place) : Type 0 where
  pub state : (Real (record { regions = regions; skip = skip }) (length answers) start).state
      ≡ (run_after regions answers (unlabelled start)).place.state
  pub unbroken : (Real (record { regions = regions; skip = skip }) (length answers) start).broken ≡ None
  pub run_unbroken : (run_after regions answers (unlabelled start)).place.broken ≡ None
  pub within : Within (Real (record { regions = regions; skip = skip }) (length answers) start).past
      (run_after regions answers (unlabelled start)).events

fault_none : (broken : Option Break) → broken_fault broken ≡ None → broken ≡ None
fault_none None e = refl
fault_none (Some broken) e = absurd (cc)

pub runs_beside : (regions : List Region) (skip : List ℕ) (answers : List (List ℕ)) (start : Place) →
    start.past ≡ [] → start.broken ≡ None → IsUnrefused regions answers (unlabelled start) →
    AreProperEvents (run_after regions answers (unlabelled start)).events → Beside regions skip answers start
unfolding run_after Real IsUnrefused
runs_beside regions skip [] start none unbroken unrefused proper = record {
  state = refl;
  unbroken = unbroken;
  run_unbroken = unbroken;
  within = subst (λ past. Within past []) (sym none) start_within;
}
runs_beside regions skip (last ∷ earlier) start none unbroken unrefused proper =
    let enclosures : Enclosures = record { regions = regions; skip = skip } in
    let run = run_after regions earlier (unlabelled start) in
    let place = Real enclosures (length earlier) start in
    let walk = next_walk regions run in
    let turn = turn_events regions last run in
    let parts = all_parts IsProperEvent run.events turn proper in
    let before = runs_beside regions skip earlier start none unbroken unrefused.0 parts.0 in
    let faults = first_none _ _ (first_none _ _ unrefused.1).1 in
    let whole : Breaks regions run.place.state ≡ None = fault_none (Breaks regions run.place.state) faults.0 in
    let goes : real_turn enclosures place ≡ unbroken_turn enclosures place =
    ap (λ b. turn_unless b enclosures place) before.unbroken in
    let run_goes : real_turn (enclosing regions) run.place ≡ unbroken_turn (enclosing regions) run.place =
    ap (λ b. turn_unless b (enclosing regions) run.place) before.run_unbroken in
    record {
      state = ap (λ (p : Place). p.state) goes ∙ ap (λ s. real_end (guest_walk regions s)) before.state
          ∙ sym (ap (λ (p : Place). p.state) run_goes);
      unbroken = ap (λ (p : Place). p.broken) goes ∙ ap (λ s. Breaks regions s) before.state ∙ whole;
      run_unbroken = ap (λ (p : Place). p.broken) run_goes ∙ whole;
      within = subst (λ past. Within past (run.events ++ turn))
          (sym (ap (λ (p : Place). p.past) goes
          ∙ ap (λ s. visited (is_enclosed enclosures s.control) place.past (guest_walk regions s)) before.state))
          (turn_within (is_enclosed enclosures run.place.state.control) place.past run.events (at_start run.labels) last
          walk before.within parts.1);
    }
