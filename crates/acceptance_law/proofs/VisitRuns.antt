-- How often a run passes a point.
use Rattle.std.proofs.Common.{◌≡◌, ℕ, ◌+◌, ◌*◌, ◌≤◌, ◌==◌, cond, nat_le, not, true, false, List, [], ◌∷◌, ◌++◌}
use Rattle.std.proofs.Common.{length, length-append, refl, sym, ap, ◌∙◌, subst, arith, inl, inr}
use Rattle.std.specs.Prelude.{None}
use Rattle.std.specs.List.{list_all}
use Rattle.std.specs.Ordering.{is_eq}
use Rattle.std.proofs.lemmas.Bool.{and_from, and_parts, cases_Bool, cond-true, cond-false, eqb-true, leb-true}
use Rattle.std.proofs.lemmas.List.Sums.{sum_by-append, sum_by-cons}
use Rattle.std.proofs.lemmas.List.Folds.{list_all-append}
use Rattle.flow_base.specs.declared.points.Point.{Point}
use Rattle.flow_base.specs.declared.points.Slot.{Slot}
use Rattle.flow_base.specs.declared.points.Slot.TheVariants as slot
use Rattle.flow_base.specs.Points.{width_of, is_output_slot, is_region_number}
use Rattle.flow_base.specs.Words.{bit_count}
use Rattle.enclosure_regions.specs.declared.region_parts.Region.{Region}
use Rattle.enclosure_regions.specs.Regions.{are_apart, are_ranges, are_registers, are_regions, is_code_address, is_range}
use Rattle.enclosure_regions.specs.Regions.{is_region}
use Rattle.elf32_loader.specs.Pictures.{Picture}
use Rattle.flow_graph.specs.declared.events.Event.{Event}
use Rattle.flow_graph.specs.declared.events.Event.TheVariants.{Pass, Link, FromSecret, Implicit, Out}
use Rattle.flow_graph.specs.EventGraphs.{bits_at, passed}
use Rattle.flow_base.specs.PointOrders.{point_cmp, is_same}
use Rattle.flow_base.proofs.PointOrders.{point_total, is_equal, one_if_same}
use Rattle.rv32im_machine.specs.State.{State}
use Rattle.rv32im_machine.specs.Language.{none_held}
use Rattle.rv32im_machine.specs.Folds.{real_end}
use Rattle.region_machine.specs.Enclosures.{Enters, Kind, Leaves, Steps, kind_of}
use Rattle.region_machine.specs.Guests.{entry, kind_walk, leave}
use Rattle.region_machine.specs.Runs.{real_turn}
use Rattle.region_machine.specs.Starts.{guest, output_limit}
use Rattle.run_labels.specs.TurnLabels.{TurnLabels, at_start}
use Rattle.run_labels.specs.Traces.{events_in, secret_look}
use Rattle.run_labels.specs.Runs.{IsUnrefused, LabelledRun, enclosing, entered_number, next_run, next_walk, run_after}
use Rattle.run_labels.specs.Runs.{stopped_fault, turn_events, turn_fault, unlabelled}
use Rattle.region_machine.specs.Breaking.{Breaks}
use Rattle.acceptance_law.specs.RunCuts.{mask_at_event, visit_masks}
use Rattle.acceptance_law.specs.VisitLaws.{FewVisitsLaw, KnownSlotsLaw, OutputVisitsLaw, is_at_slot}
use Rattle.acceptance_law.proofs.GraphEvents.{same_itself}
use Rattle.acceptance_law.proofs.ProperRuns.{LeavesRegion, kind_leaves}
use Rattle.acceptance_law.proofs.SecretRuns.{next_broken, next_state, unbroken}
use Rattle.acceptance_law.proofs.TurnKinds.{all_rules, rules_of}
use Rattle.acceptance_law.proofs.RowCounts.{Has, Limits}
use Rattle.acceptance_law.proofs.VisitTurns.{Tallied, inner_visit, inner_visits, is_whole, one_unless}
use Rattle.acceptance_law.proofs.VisitTurns.{turn_tallied}
use Rattle.acceptance_law.proofs.CountedRows.{counts_entry, counts_leave, counts_step}

-- ---- points that are the same have slots of one kind

-- an output's slot comes after those of every other kind
output_alike : (p q : Point) → is_same p q ≡ true → is_output_slot p.slot ≡ is_output_slot q.slot
output_alike p q same = ap (λ (x : Point). is_output_slot x.slot) (one_if_same p q same)

-- ---- the visits of a point

visits_cons : (point : Point) (event : Event) (events : List Event) →
    length (visit_masks point (event ∷ events))
    ≡ length (mask_at_event point event) + length (visit_masks point events)
unfolding visit_masks
visits_cons point event events = length-append (mask_at_event point event) (visit_masks point events)

inner_event : (point : Point) (event : Event) → is_output_slot point.slot ≡ false →
    length (mask_at_event point event) ≤ inner_visit event
inner_event point (Pass other mask) e = elim (cases_Bool (is_same point other)) [
  | inl same ↦
      let one = ap length (cond-true (is_same point other) (mask ∷ []) [] same) in
      let inner = ap one_unless (sym (output_alike point other same) ∙ e) in
      omega (arith, one, inner)
  | inr apart ↦ let none = ap length (cond-false (is_same point other) (mask ∷ []) [] apart) in omega (arith, none)
]
inner_event point (Link source target) e = omega arith
inner_event point (FromSecret other) e = omega arith
inner_event point (Implicit other region) e = omega arith
inner_event point (Out region other) e = omega arith

visits_inner : (point : Point) (events : List Event) → is_output_slot point.slot ≡ false →
    length (visit_masks point events) ≤ inner_visits events
unfolding visit_masks
visits_inner point [] e = omega arith
visits_inner point (event ∷ events) e =
    rw (sum_by-cons inner_visit)
    (omega (arith, visits_cons point event events, inner_event point event e, visits_inner point events e))

word_bits : bit_count 4294967295 ≡ 32
unfolding Rattle.flow_base.specs.Words.count_below
word_bits = refl

byte_bits : bit_count 255 ≡ 8
unfolding Rattle.flow_base.specs.Words.count_below
byte_bits = refl

output_bits : (s : Slot) → is_output_slot s ≡ true → 1 ≤ bit_count (width_of s)
output_bits (slot.OutReg register) e = omega (arith, word_bits)
output_bits (slot.OutRange range) e = omega (arith, byte_bits)
output_bits s e = absurd (cc)

output_event : (point : Point) (event : Event) → is_output_slot point.slot ≡ true → is_whole event ≡ true →
    length (mask_at_event point event) ≤ bits_at point event
output_event point (Pass other mask) e whole = elim (cases_Bool (is_same point other)) [
  | inl same ↦
      let one = ap length (cond-true (is_same point other) (mask ∷ []) [] same) in
      let back : is_same other point ≡ true = same-back point other same in
      let output : is_output_slot other.slot ≡ true = sym (output_alike point other same) ∙ e in
      let full : mask ≡ width_of other.slot =
      eqb-true mask (width_of other.slot)
      (sym (cond-true (is_output_slot other.slot) (mask == width_of other.slot) true output) ∙ whole) in
      let bits : cond (is_same other point) (bit_count mask) 0 ≡ bit_count (width_of other.slot) =
      cond-true (is_same other point) (bit_count mask) 0 back ∙ ap bit_count full in
      omega (arith, one, bits, output_bits other.slot output)
  | inr apart ↦ let none = ap length (cond-false (is_same point other) (mask ∷ []) [] apart) in omega (arith, none)
]
  where
    same-back : (p q : Point) → is_same p q ≡ true → is_same q p ≡ true
    same-back p q same =
        ap is_eq (sym (point_total.congr p q p (is_equal (point_cmp p q) same))) ∙ same_itself p
output_event point (Link source target) e whole = omega arith
output_event point (FromSecret other) e whole = omega arith
output_event point (Implicit other region) e whole = omega arith
output_event point (Out region other) e whole = omega arith

visits_output : (point : Point) (events : List Event) → is_output_slot point.slot ≡ true →
    list_all is_whole events ≡ true → length (visit_masks point events) ≤ passed events point
unfolding visit_masks
visits_output point [] e whole = omega arith
visits_output point (event ∷ events) e whole =
    let both = and_parts (is_whole event) (list_all is_whole events) whole in
    rw (sum_by-cons (bits_at point))
    (omega (
      arith,
      visits_cons point event events,
      output_event point event e both.0,
      visits_output point events e both.1,
    ))

-- ---- a turn of each kind

ranges_known : (region : Region) → is_region region ≡ true → length region.ranges ≤ 64
ranges_known region rules =
    let one = and_parts (is_region_number region.id) _ rules in
    let two = and_parts (is_code_address region.enter) _ one.1 in
    let three = and_parts (is_code_address region.leave) _ two.1 in
    let four = and_parts (not (region.enter == region.leave)) _ three.1 in
    let five = and_parts (are_registers region.outs) _ four.1 in
    let six = and_parts (are_registers region.keep) _ five.1 in
    let seven = and_parts (are_apart region.outs region.keep) (are_ranges region.ranges) six.1 in
    let eight = and_parts (list_all is_range region.ranges) _ seven.1 in
    leb-true (length region.ranges) 64 (and_parts (nat_le (length region.ranges) 64) _ eight.1).0

module _ (Known : Type 0) (limits : Limits) where
  kind_tallied : (used : ℕ) (kind : Kind) (state : State) (labels : TurnLabels) (answers : List ℕ) →
      (Known → LeavesRegion kind) → state.setting.secret_length ≡ limits.secret →
      state.setting.output_limit ≤ limits.output → Has limits (used + 5) state.control →
      Tallied Known limits state.setting used (events_in labels answers (kind_walk kind state))
      (real_end (kind_walk kind state))
  kind_tallied used (Enters region) state labels answers known e o h =
      turn_tallied Known limits state.setting state.secret (entry region state.control) state.control.secret_at
      used state.store none_held labels answers
      (counts_entry Known limits state.control.secret_at used region state.control
      (refl, (omega (arith, h.0), h.1, h.2)))
  kind_tallied used (Leaves region) state labels answers known e o h =
      turn_tallied Known limits state.setting state.secret (leave region state.store.kept state.control)
      state.control.secret_at used state.store none_held labels answers
      (counts_leave Known limits state.control.secret_at used region state.store.kept state.control
      (λ k. (rules_of region (known k)).outs)
      (λ k. ranges_known region (known k)) (refl, (omega (arith, h.0), h.1, h.2)))
  kind_tallied used (Steps region) state labels answers known e o h =
      turn_tallied Known limits state.setting state.secret _ state.control.secret_at used state.store none_held
      labels answers
      (counts_step Known limits state.control.secret_at used state.control.mode state.setting state.control e o
      (refl, h))

-- ---- a run

-- what may pass in so many turns
abbrev limits_of : List ℕ → ℕ → Limits
limits_of secret turns = record { secret = length secret; output = output_limit; others = 5 * turns }

pub record RunVisits (Known : Type 0) (secret : List ℕ) (turns : ℕ) (run : LabelledRun) : Type 0 where
  pub has : Has (limits_of secret turns) (inner_visits run.events) run.place.state.control
  pub known : Known → list_all is_at_slot run.events ≡ true
  pub whole : list_all is_whole run.events ≡ true
  pub long : run.place.state.setting.secret_length ≡ length secret
  pub most : run.place.state.setting.output_limit ≡ output_limit
  pub unbroken : run.place.broken ≡ None

module _ (secret : List ℕ) (regions : List Region) where
  abbrev AreKnown : Type 0
  AreKnown = are_regions regions ≡ true

  visits_next : (turns : ℕ) (answers : List ℕ) (run : LabelledRun) → RunVisits AreKnown secret turns run →
      turn_fault regions answers run ≡ None → RunVisits AreKnown secret (turns + 1) (next_run regions answers run)
  visits_next turns answers run r fine =
      let events = turn_events regions answers run in
      let limits = limits_of secret (turns + 1) in
      let room : Has limits (inner_visits run.events + 5) run.place.state.control =
      (omega (arith, r.has.0), r.has.1, r.has.2) in
      let t : Tallied AreKnown limits run.place.state.setting (inner_visits run.events) events
      (real_end (next_walk regions run)) =
      kind_tallied AreKnown limits (inner_visits run.events) (kind_of regions run.place.state.control) run.place.state
      (at_start run.labels) answers
      (λ k. kind_leaves run.place.state.control.mode regions run.place.state.control (all_rules regions k))
      r.long (omega (arith, r.most)) room in
      let s : (real_turn (enclosing regions) run.place).state ≡ real_end (next_walk regions run) =
      next_state regions run.place r.unbroken in
      let sum : inner_visits (run.events ++ events) ≡ inner_visits run.events + inner_visits events =
      sum_by-append inner_visit run.events events in
      let total : inner_visits events + inner_visits run.events ≡ inner_visits (run.events ++ events) =
      omega (arith, sum) in
      record {
        has = subst (λ (x : State). Has limits (inner_visits (run.events ++ events)) x.control) (sym s)
            (subst (λ n. Has limits n (real_end (next_walk regions run)).control) total t.has);
        known = λ k. list_all-append is_at_slot run.events events ∙ and_from _ _ (r.known k) (t.known k);
        whole = list_all-append is_whole run.events events ∙ and_from _ _ r.whole t.whole;
        long = ap (λ (x : State). x.setting.secret_length) s ∙ (ap (λ g. g.secret_length) t.stays ∙ r.long);
        most = ap (λ (x : State). x.setting.output_limit) s ∙ (ap (λ g. g.output_limit) t.stays ∙ r.most);
        unbroken = next_broken regions run.place r.unbroken
            ∙ unbroken (Breaks regions run.place.state)
            (secret_look (entered_number (kind_of regions run.place.state.control)) (at_start run.labels) answers
            (next_walk regions run)) (stopped_fault (real_end (next_walk regions run)).control.mode) fine;
      }

  visits_run : (answers : List (List ℕ)) (start : LabelledRun) → RunVisits AreKnown secret 0 start →
      IsUnrefused regions answers start →
      RunVisits AreKnown secret (length answers) (run_after regions answers start)
  unfolding run_after IsUnrefused
  visits_run [] start r u = r
  visits_run (answers ∷ earlier) start r u =
      subst (λ n. RunVisits AreKnown secret n (next_run regions answers (run_after regions earlier start)))
      (omega arith)
      (visits_next (length earlier) answers (run_after regions earlier start) (visits_run earlier start r u.0) u.1)

-- ---- the laws

module _ (program : Picture) (public_input secret : List ℕ) (regions : List Region) (answers : List (List ℕ))
    (u : IsUnrefused regions answers (unlabelled (guest program public_input secret))) where
  run_visits : RunVisits (are_regions regions ≡ true) secret (length answers)
      (run_after regions answers (unlabelled (guest program public_input secret)))
  run_visits =
      visits_run secret regions answers (unlabelled (guest program public_input secret))
      (record {
        has = (omega arith, omega arith, omega arith);
        known = λ k. refl;
        whole = refl;
        long = refl;
        most = refl;
        unbroken = refl;
      }) u

pub known_slots_law : KnownSlotsLaw
known_slots_law program public_input secret regions answers valid u =
    (run_visits program public_input secret regions answers u).known valid

pub few_visits_law : FewVisitsLaw
few_visits_law program public_input secret regions answers point u turns short inner =
    let r = run_visits program public_input secret regions answers u in
    let run = run_after regions answers (unlabelled (guest program public_input secret)) in
    omega (arith, visits_inner point run.events inner, r.has.0, r.has.1, r.has.2, turns, short)

pub output_visits_law : OutputVisitsLaw
output_visits_law program public_input secret regions answers point u output =
    visits_output point _ output (run_visits program public_input secret regions answers u).whole
