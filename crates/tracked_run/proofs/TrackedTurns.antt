-- A turn whose labels are kept, for a run that stands where it begins.
use Rattle.std.proofs.Common.{◌≡◌, ℕ, List, true, false, Option, Some, None, Ok, refl, ap, sym, ◌∙◌, subst}
use mathlib.Core.Path.{fun_ext}
use Rattle.flow_base.specs.declared.points.Point.{Point}
use Rattle.flow_graph.specs.declared.events.Event.{Event}
use Rattle.enclosure_regions.specs.declared.break_kinds.Break.{Break}
use Rattle.enclosure_regions.specs.declared.region_parts.Region.{Region}
use Rattle.enclosure_regions.specs.Regions.{are_regions}
use Rattle.rv32im_machine.specs.declared.stepping.Fault.{Fault}
use Rattle.rv32im_machine.specs.declared.stepping.Stepped.{Stepped}
use Rattle.rv32im_machine.specs.declared.stepping.Stepped.TheVariants as mode
use Rattle.rv32im_machine.specs.Folds.{real_end}
use Rattle.rv32im_machine.specs.State.{State, Setting}
use Rattle.shadow_masks.specs.Shades.{Shades, register_label, kept_label, byte_label}
use Rattle.shadow_masks.specs.Writes.{LabelMap, ReadsAs}
use Rattle.region_machine.specs.Breaking.{Breaks}
use Rattle.region_machine.specs.Enclosures.{Kind, Enters, Leaves, Steps, is_enclosed_kind, kind_of}
use Rattle.region_machine.specs.Guests.{guest_walk}
use Rattle.region_machine.specs.Within.{may_leave}
use Rattle.region_machine.proofs.RangesStayInside.{guest_keeps}
use Rattle.run_labels.specs.declared.faults.MeasureFault.{MeasureFault}
use Rattle.run_labels.specs.Traces.{secret_look}
use Rattle.run_labels.specs.Runs.{LabelledRun, enclosing, entered_number, broken_fault, stopped_fault, turn_fault}
use Rattle.tracked_run.specs.Labels.{map_of, labels_of, clean_held}
use Rattle.tracked_run.specs.Outcomes.{fault_of, spent_by, turn_answer}
use Rattle.tracked_run.specs.Runs.{Stands, MakesTurn, Turns}
use Rattle.tracked_run.specs.Private.Tracking.{Left, EndsTracked}
use Rattle.tracked_run.proofs.Settings.{same_setting}
use Rattle.std.specs.Option.{option_or}

-- ---- no region is skipped

pub never_enclosed : (regions : List Region) (kind : Kind) → is_enclosed_kind (enclosing regions) kind ≡ false
never_enclosed regions (Enters region) = refl
never_enclosed regions (Leaves region) = refl
never_enclosed regions (Steps None) = refl
never_enclosed regions (Steps (Some region)) = refl

-- ---- refusals

none_later : (first later : Option MeasureFault) → option_or first later ≡ None → later ≡ None
none_later None later e = e
none_later (Some fault) later e = absurd (cc)

unbroken_of : (broken : Option Break) (later : Option MeasureFault) →
    option_or (broken_fault broken) later ≡ None → broken ≡ None
unbroken_of None later e = refl
unbroken_of (Some broken) later e = absurd (cc)

stopped_is : (fault : Fault) → stopped_fault (mode.Stopped fault) ≡ None → ⊥
stopped_is fault e = absurd (cc)

pub not_broken : (refused : Option MeasureFault) (broken : Option Break) (mode : Stepped) →
    fault_of refused broken mode ≡ None → broken ≡ None
not_broken refused broken mode e =
    unbroken_of broken (stopped_fault mode) (none_later refused (option_or (broken_fault broken) (stopped_fault mode)) e)

not_stopped : (refused : Option MeasureFault) (broken : Option Break) (fault : Fault) →
    fault_of refused broken (mode.Stopped fault) ≡ None → ⊥
not_stopped refused broken fault e =
    stopped_is fault (none_later (broken_fault broken) (stopped_fault (mode.Stopped fault))
    (none_later refused (option_or (broken_fault broken) (stopped_fault (mode.Stopped fault))) e))

-- ---- the run, by the machine and the shadow

-- a run that has broken no region
abbrev run_of : State → List Point → Shades → List Event → LabelledRun
run_of machine past shadow events = record {
  place = record { state = machine; past = past; broken = None };
  labels = map_of shadow;
  events = events;
}

reads_same : (map : LabelMap) (shades : Shades) → ReadsAs map shades → map ≡ map_of shades
reads_same map shades h =
    let registers : map.registers ≡ register_label shades = fun_ext (λ r. sym (h.registers r)) in
    let kept : map.kept ≡ kept_label shades = fun_ext (λ r. sym (h.kept r)) in
    let bytes : map.bytes ≡ byte_label shades = fun_ext (λ a. sym (h.bytes a)) in
    λ i. record { registers = registers i; kept = kept i; bytes = bytes i }

pub reads_of : (map : LabelMap) (shades : Shades) → map_of shades ≡ map → ReadsAs map shades
reads_of map shades e = record {
  registers = λ r. ap (λ (m : LabelMap). m.registers r) e;
  kept = λ r. ap (λ (m : LabelMap). m.kept r) e;
  bytes = λ a. ap (λ (m : LabelMap). m.bytes a) e;
}

stands_same : (machine : State) (shadow : Shades) (run : LabelledRun) → Stands machine shadow run →
    run_of machine run.place.past shadow run.events ≡ run
stands_same machine shadow run s =
    let labels : map_of shadow ≡ run.labels = sym (reads_same run.labels shadow s.labels) in
    let unbroken : None ≡ run.place.broken = sym s.unbroken in
    λ i. record {
      place = record { state = s.state i; past = run.place.past; broken = unbroken i };
      labels = labels i;
      events = run.events;
    }

-- ---- the turn

-- what is known of a turn of a machine, and of why it refuses the run
record Facts {E : Type 0} (stands : E → List Event → Type 0) (table : ℕ) (regions : List Region) (machine : State)
    (before : Left E) (reached : State) (after : Left E) (broken : Option Break) : Type 0 where
  pub tracked :
      EndsTracked stands table (entered_number (kind_of regions machine.control)) (labels_of before.shades clean_held) before
      (guest_walk regions machine) reached after
  pub unrefused : before.refused ≡ None
  pub breaks : broken ≡ Breaks regions machine

is_fault : {E : Type 0} (stands : E → List Event → Type 0) (table : ℕ) (regions : List Region) (machine : State)
    (past : List Point) (earlier : List Event) (before : Left E) (reached : State) (after : Left E)
    (broken : Option Break) (k : Facts stands table regions machine before reached after broken) →
    turn_fault regions k.tracked.answers (run_of machine past before.shades earlier)
    ≡ fault_of after.refused broken reached.control.mode
is_fault stands table regions machine past earlier before reached after broken k =
    let end : State = real_end (guest_walk regions machine) in
    let look : Option MeasureFault = secret_look (entered_number (kind_of regions machine.control))
    (labels_of before.shades clean_held) k.tracked.answers (guest_walk regions machine) in
    let looked : after.refused ≡ look =
    k.tracked.refused ∙ ap (λ r. option_or r look) k.unrefused in
    let stops : reached.control.mode ≡ end.control.mode = ap (λ (s : State). s.control.mode) k.tracked.ends in
    ap (λ r. fault_of r (Breaks regions machine) end.control.mode) (sym looked)
    ∙ (ap (λ x. fault_of after.refused x end.control.mode) (sym k.breaks)
    ∙ ap (λ x. fault_of after.refused broken x) (sym stops))

made : {E : Type 0} (stands : E → List Event → Type 0) (table : ℕ) (regions : List Region) (machine : State)
    (past : List Point) (earlier : List Event) (before : Left E) (reached : State) (after : Left E)
    (broken : Option Break) (mode : Stepped) → Facts stands table regions machine before reached after broken →
    fault_of after.refused broken reached.control.mode ≡ None → reached.control.mode ≡ mode →
    MakesTurn table regions (run_of machine past before.shades earlier) (stands before.events) (stands after.events) reached
    after.shades mode
made stands table regions machine past earlier before reached after broken mode k none m = record {
  answers = k.tracked.answers;
  are_answers = record { sound = k.tracked.sound; by_table = k.tracked.by_table };
  unrefused = is_fault stands table regions machine past earlier before reached after broken k ∙ none;
  next = record {
    state = k.tracked.ends;
    unbroken = sym k.breaks ∙ not_broken after.refused broken reached.control.mode none;
    labels = reads_of _ after.shades k.tracked.labelled;
  };
  in_mode = m;
  added = k.tracked.added;
}

turned_by : {E : Type 0} (stands : E → List Event → Type 0) (table : ℕ) (regions : List Region) (machine : State)
    (past : List Point) (earlier : List Event) (before : Left E) (reached : State) (after : Left E)
    (broken : Option Break) (fault : Option MeasureFault) (mode : Stepped) →
    Facts stands table regions machine before reached after broken →
    fault_of after.refused broken reached.control.mode ≡ fault → reached.control.mode ≡ mode →
    Turns table regions (run_of machine past before.shades earlier) (stands before.events) (stands after.events) reached
    after.shades (Ok (turn_answer fault mode))
turned_by stands table regions machine past earlier before reached after broken None mode.Ran k f m =
    made stands table regions machine past earlier before reached after broken mode.Ran k f m
turned_by stands table regions machine past earlier before reached after broken None (mode.Exited status) k f m =
    made stands table regions machine past earlier before reached after broken (mode.Exited status) k f m
turned_by stands table regions machine past earlier before reached after broken None (mode.Stopped fault) k f m =
    absurd (not_stopped after.refused broken fault (ap (λ x. fault_of after.refused broken x) (sym m) ∙ f))
turned_by stands table regions machine past earlier before reached after broken (Some fault) mode k f m = record {
  answers = k.tracked.answers;
  are_answers = record { sound = k.tracked.sound; by_table = k.tracked.by_table };
  refused = is_fault stands table regions machine past earlier before reached after broken k ∙ f;
  state = k.tracked.ends;
  labels = reads_of _ after.shades k.tracked.labelled;
  added = k.tracked.added;
}

pub turned : {E : Type 0} (stands : E → List Event → Type 0) (table : ℕ) (regions : List Region) (machine : State)
    (before : Left E) (reached : State) (after : Left E) (broken : Option Break) (run : LabelledRun) →
    EndsTracked stands table (entered_number (kind_of regions machine.control)) (labels_of before.shades clean_held) before
    (guest_walk regions machine) reached after →
    before.refused ≡ None → broken ≡ Breaks regions machine → Stands machine before.shades run →
    Turns table regions run (stands before.events) (stands after.events) reached after.shades
    (Ok (turn_answer (fault_of after.refused broken reached.control.mode) reached.control.mode))
turned stands table regions machine before reached after broken run t new b s =
    subst (λ r. Turns table regions r (stands before.events) (stands after.events) reached after.shades
    (Ok (turn_answer (fault_of after.refused broken reached.control.mode) reached.control.mode)))
    (stands_same machine before.shades run s)
    (turned_by stands table regions machine run.place.past run.events before reached after broken
    (fault_of after.refused broken reached.control.mode) reached.control.mode
    (record { tracked = t; unrefused = new; breaks = b }) refl refl)

-- ---- after a turn that is not refused

not_ran : (fault : Option MeasureFault) (mode : Stepped) → spent_by (Ok (turn_answer fault mode)) ≡ None → fault ≡ None
not_ran None mode e = refl
not_ran (Some fault) mode e = absurd (cc)

pub base_stays : (regions : List Region) (machine reached : State) (old new : ℕ) →
    reached ≡ real_end (guest_walk regions machine) → new ≡ old → old ≡ machine.setting.base →
    new ≡ reached.setting.base
base_stays regions machine reached old new e n o =
    n ∙ (o ∙ (ap (λ (s : Setting). s.base) (sym (same_setting regions machine))
    ∙ ap (λ (s : State). s.setting.base) (sym e)))

pub leave_stays : (regions : List Region) (machine reached : State) (refused : Option MeasureFault)
    (broken : Option Break) (mode : Stepped) → are_regions regions ≡ true → may_leave regions machine ≡ true →
    reached ≡ real_end (guest_walk regions machine) → broken ≡ Breaks regions machine →
    spent_by (Ok (turn_answer (fault_of refused broken mode) mode)) ≡ None → may_leave regions reached ≡ true
leave_stays regions machine reached refused broken mode rules leave e b ran =
    let unbroken : Breaks regions machine ≡ None =
    sym b ∙ not_broken refused broken mode (not_ran (fault_of refused broken mode) mode ran) in
    subst (λ (s : State). may_leave regions s ≡ true) (sym e) (guest_keeps regions machine rules leave unbroken)
