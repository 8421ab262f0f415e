-- Each label whose mask is not 0 names a point that the run has passed with a mask other than 0: so the events of a run
-- name such points alone.
use Rattle.std.proofs.Common.{◌≡◌, ◌≢◌, ◌⊎◌, ℕ, ◌+◌, ◌≤◌, ◌<◌, ◌^◌, ◌==◌, ◌&&◌, ◌++◌, ◌∷◌, [], Bool, true, false}
use Rattle.std.proofs.Common.{List, refl, sym, ap, ◌∙◌, subst, arith, append_assoc, append-nil, inl, inr, nat_lt}
use Rattle.std.specs.Prelude.{if◌then◌else◌}
use Rattle.std.specs.List.{AllByRecursion}
use Rattle.std.proofs.lemmas.Bool.{eqb-false}
use Rattle.flow_base.specs.declared.points.Point.{Point}
use Rattle.flow_base.specs.declared.points.Slot.{Slot}
use Rattle.flow_base.specs.declared.points.Slot.TheVariants.{First as FirstSlot, Second as SecondSlot, Address}
use Rattle.flow_base.specs.declared.points.Slot.TheVariants.{Result as ResultSlot, Decision as DecisionSlot, Number}
use Rattle.flow_base.specs.declared.points.Slot.TheVariants.{Arg0, Arg1, Arg2, SecretIn, ByteOut, Status, OutReg}
use Rattle.flow_base.specs.declared.points.Slot.TheVariants.{OutRange}
use Rattle.flow_base.specs.Points.{width_of}
use Rattle.flow_graph.specs.declared.events.Event.{Event}
use Rattle.flow_graph.specs.declared.events.Event.TheVariants.{Pass, Link}
use Rattle.enclosure_regions.specs.declared.region_parts.Region.{Region}
use Rattle.region_machine.specs.Runs.{Place as RunPlace}
use Rattle.rv32im_decode.specs.declared.instructions.LoadKind.TheVariants.{Lb, Lh, Lw, Lbu, Lhu}
use Rattle.rv32im_machine.specs.declared.language.Place.{Place}
use Rattle.rv32im_machine.specs.declared.language.Place.TheVariants.{Register, Byte, First, Second}
use Rattle.rv32im_machine.specs.declared.language.Aim.{Aim}
use Rattle.rv32im_machine.specs.declared.language.Aim.TheVariants.{Put, Decide, Give}
use Rattle.rv32im_machine.specs.declared.language.Part.TheVariants.{Byte0, Byte1, Byte2, Byte3}
use Rattle.rv32im_machine.specs.declared.language.Passing.{Passing}
use Rattle.rv32im_machine.specs.declared.language.Shape.{Shape}
use Rattle.rv32im_machine.specs.declared.language.Shape.TheVariants.{Copied, Extended, Part}
use Rattle.rv32im_machine.specs.declared.language.Source.{Source}
use Rattle.rv32im_machine.specs.declared.language.Source.TheVariants.{At, Constant, Secret}
use Rattle.rv32im_machine.specs.declared.language.Sources.{Sources}
use Rattle.rv32im_machine.specs.declared.language.Sources.TheVariants.{One, Two, Byte as BytesOne, Half as BytesTwo}
use Rattle.rv32im_machine.specs.declared.language.Sources.TheVariants.{Word as BytesFour}
use Rattle.rv32im_machine.specs.Language.{Walk, Looked, Passed, Moved, Saved, Restored, Ended, first_of, shaped}
use Rattle.shadow_masks.specs.declared.labels.Label.{Label}
use Rattle.shadow_masks.specs.Pages.{label_of}
use Rattle.shadow_masks.specs.Labels.{clean}
use Rattle.shadow_masks.specs.Writes.{LabelMap, default_map}
use Rattle.run_labels.specs.TurnLabels.{TurnLabels, at_start, label_at, put_label, aim_label, save_labels}
use Rattle.run_labels.specs.TurnLabels.{restore_labels}
use Rattle.run_labels.specs.Masks.{mask_of, answers_after, labels_after, moved_label}
use Rattle.run_labels.specs.Flowing.{link_from, source_events, byte_events, sources_events, aim_events, flow_events}
use Rattle.run_labels.specs.Flowing.{passing_events}
use Rattle.run_labels.specs.Traces.{traced, labels_in, events_in}
use Rattle.run_labels.specs.Runs.{unlabelled, next_walk, turn_events, run_after}
use Rattle.acceptance_law.specs.ClosedEvents.{IsProperEvent, AreProperEvents}
use Rattle.acceptance_law.proofs.GraphEvents.{Knows, knows_more, knows_pass, Names, AreNamed, all_named, named_append}
use Rattle.acceptance_law.proofs.GraphEvents.{all_append, all_parts}
use Rattle.flow_base.specs.Listed.{is_listed}

-- ---- labels

abbrev pub IsKnown : List Event → Label → Type 0
IsKnown before label = (label.mask ≡ 0) ⊎ Knows before label.point

pub record AreKnown (before : List Event) (map : LabelMap) : Type 0 where
  pub registers : (register : ℕ) → IsKnown before (map.registers register)
  pub kept : (register : ℕ) → IsKnown before (map.kept register)
  pub bytes : (address : ℕ) → IsKnown before (map.bytes address)

pub record AreKnownInTurn (before : List Event) (labels : TurnLabels) : Type 0 where
  pub map : AreKnown before labels.map
  pub first : IsKnown before labels.first
  pub second : IsKnown before labels.second

label_more : (before more : List Event) (label : Label) → IsKnown before label → IsKnown (before ++ more) label
label_more before more label (inl none) = inl none
label_more before more label (inr knows) = inr (knows_more before more label.point knows)

map_more : (before more : List Event) (map : LabelMap) → AreKnown before map → AreKnown (before ++ more) map
map_more before more map known = record {
  registers = λ register. label_more before more (map.registers register) (known.registers register);
  kept = λ register. label_more before more (map.kept register) (known.kept register);
  bytes = λ address. label_more before more (map.bytes address) (known.bytes address);
}

turn_more : (before more : List Event) (labels : TurnLabels) → AreKnownInTurn before labels →
    AreKnownInTurn (before ++ more) labels
turn_more before more labels known = record {
  map = map_more before more labels.map known.map;
  first = label_more before more labels.first known.first;
  second = label_more before more labels.second known.second;
}

either_label : (before : List Event) (test : Bool) (label other : Label) → IsKnown before label → IsKnown before other →
    IsKnown before (if test then label else other)
either_label before true label other known kept = known
either_label before false label other known kept = kept

put_known : (before : List Event) (place : Place) (label : Label) (labels : TurnLabels) → IsKnown before label →
    AreKnownInTurn before labels → AreKnownInTurn before (put_label place label labels)
put_known before (Register register) label labels new known = record {
  map = record {
    registers = λ r. either_label before (nat_lt 0 r && r == register) label (labels.map.registers r) new
        (known.map.registers r);
    kept = known.map.kept;
    bytes = known.map.bytes;
  };
  first = known.first;
  second = known.second;
}
put_known before (Byte address) label labels new known = record {
  map = record {
    registers = known.map.registers;
    kept = known.map.kept;
    bytes = λ a. either_label before (a == address) label (labels.map.bytes a) new (known.map.bytes a);
  };
  first = known.first;
  second = known.second;
}
put_known before First label labels new known = record { map = known.map; first = new; second = known.second }
put_known before Second label labels new known = record { map = known.map; first = known.first; second = new }

aim_known : (before : List Event) (aim : Aim) (label : Label) (labels : TurnLabels) → IsKnown before label →
    AreKnownInTurn before labels → AreKnownInTurn before (aim_label aim label labels)
aim_known before (Put place) label labels new known = put_known before place label labels new known
aim_known before Decide label labels new known = known
aim_known before (Give place) label labels new known = put_known before place label labels new known

saved_known : (before : List Event) (labels : TurnLabels) → AreKnownInTurn before labels →
    AreKnownInTurn before (save_labels labels)
saved_known before labels known = record {
  map = record {
    registers = known.map.registers;
    kept = known.map.registers;
    bytes = known.map.bytes;
  };
  first = known.first;
  second = known.second;
}

restored_known : (before : List Event) (registers : List ℕ) (labels : TurnLabels) → AreKnownInTurn before labels →
    AreKnownInTurn before (restore_labels registers labels)
restored_known before registers labels known = record {
  map = record {
    registers = λ r. either_label before (is_listed registers r) (labels.map.kept r) (labels.map.registers r)
        (known.map.kept r) (known.map.registers r);
    kept = known.map.kept;
    bytes = known.map.bytes;
  };
  first = known.first;
  second = known.second;
}

place_known : (before : List Event) (labels : TurnLabels) → AreKnownInTurn before labels → (place : Place) →
    IsKnown before (label_at labels place)
place_known before labels known (Register register) = known.map.registers register
place_known before labels known (Byte address) = known.map.bytes address
place_known before labels known First = known.first
place_known before labels known Second = known.second

-- a label of a point that has passed
some_mask : (mask : ℕ) → (mask == 0) ≡ false → 0 < mask
some_mask mask is = let some : mask ≢ 0 = eqb-false mask 0 is in omega arith

tested_label : (before : List Event) (mask : ℕ) (point : Point) (test : Bool) → (mask == 0) ≡ test →
    (0 < mask → Knows before point) →
    IsKnown before (if test then clean else record { mask = mask; point = point })
tested_label before mask point true is knows = inl refl
tested_label before mask point false is knows = inr (knows (some_mask mask is))

label_known : (before : List Event) (mask : ℕ) (point : Point) → (0 < mask → Knows before point) →
    IsKnown before (label_of mask point)
label_known before mask point knows = tested_label before mask point (mask == 0) refl knows

shaped_zero : (shape : Shape) → shaped shape (0 ∷ []) ≡ 0
shaped_zero Copied = refl
shaped_zero (Extended Lb) = refl
shaped_zero (Extended Lh) = refl
shaped_zero (Extended Lw) = refl
shaped_zero (Extended Lbu) = refl
shaped_zero (Extended Lhu) = refl
shaped_zero (Part Byte0) = refl
shaped_zero (Part Byte1) = refl
shaped_zero (Part Byte2) = refl
shaped_zero (Part Byte3) = refl

copy_known : (before : List Event) (shape : Shape) (label : Label) → IsKnown before label →
    IsKnown before (label_of (shaped shape (label.mask ∷ [])) label.point)
copy_known before shape label (inl none) =
    subst (λ mask. IsKnown before (label_of mask label.point))
    (sym (ap (λ mask. shaped shape (mask ∷ [])) none ∙ shaped_zero shape)) (inl refl)
copy_known before shape label (inr knows) =
    label_known before (shaped shape (label.mask ∷ [])) label.point (λ some. knows)

moved_known : (before : List Event) (labels : TurnLabels) → AreKnownInTurn before labels → (shape : Shape)
    (source : Source) → IsKnown before (moved_label labels shape source)
moved_known before labels known shape (At place) =
    copy_known before shape (label_at labels place) (place_known before labels known place)
moved_known before labels known shape (Constant value) = inl refl
moved_known before labels known shape (Secret index) = inl refl

-- ---- the events of one passing

tested_link : (before : List Event) (label : Label) (point : Point) (test : Bool) → (label.mask == 0) ≡ test →
    IsKnown before label → Knows before point →
    AllByRecursion (Names before) (if test then [] else Link label.point point ∷ [])
tested_link before label point true is known here = tt
tested_link before label point false is (inl none) here =
    absurd (let some : 0 < label.mask = some_mask label.mask is in omega (arith, some, none))
tested_link before label point false is (inr knows) here = ((knows, here), tt)

link_named : (before : List Event) (label : Label) (point : Point) → IsKnown before label → Knows before point →
    AllByRecursion (Names before) (link_from label point)
link_named before label point known here = tested_link before label point (label.mask == 0) refl known here

source_named : (before : List Event) (labels : TurnLabels) (point : Point) → AreKnownInTurn before labels →
    Knows before point → (source : Source) → AllByRecursion (Names before) (source_events labels point source)
source_named before labels point known here (At place) =
    link_named before (label_at labels place) point (place_known before labels known place) here
source_named before labels point known here (Constant value) = tt
source_named before labels point known here (Secret index) = (here, tt)

byte_named : (before : List Event) (labels : TurnLabels) (point : Point) → AreKnownInTurn before labels →
    Knows before point → (address : ℕ) → AllByRecursion (Names before) (byte_events labels point address)
byte_named before labels point known here address =
    link_named before (labels.map.bytes address) point (known.map.bytes address) here

sources_named : (before : List Event) (labels : TurnLabels) (point : Point) → AreKnownInTurn before labels →
    Knows before point → (sources : Sources) → AllByRecursion (Names before) (sources_events labels point sources)
sources_named before labels point known here (One source) = source_named before labels point known here source
sources_named before labels point known here (Two first second) =
    all_append (Names before) (source_events labels point first) (source_events labels point second)
    (source_named before labels point known here first) (source_named before labels point known here second)
sources_named before labels point known here (BytesOne address) = byte_named before labels point known here address
sources_named before labels point known here (BytesTwo address) =
    all_append (Names before) (byte_events labels point address) (byte_events labels point (address + 1))
    (byte_named before labels point known here address) (byte_named before labels point known here (address + 1))
sources_named before labels point known here (BytesFour address) =
    let byte = byte_named before labels point known here in
    all_append (Names before) (byte_events labels point address) _ (byte address)
    (all_append (Names before) (byte_events labels point (address + 1)) _ (byte (address + 1))
    (all_append (Names before) (byte_events labels point (address + 2)) (byte_events labels point (address + 3))
    (byte (address + 2)) (byte (address + 3))))

aim_named : (before : List Event) (point : Point) → Knows before point → (aim : Aim) →
    AreProperEvents (aim_events point aim) → AllByRecursion (Names before) (aim_events point aim)
aim_named before point here (Put place) proper = tt
aim_named before point here Decide proper = (here, tt)
aim_named before point here (Give place) proper = ((here, proper.0), tt)

flow_named : (before : List Event) (labels : TurnLabels) (passing : Passing) → AreKnownInTurn before labels →
    Knows before passing.point → AreProperEvents (flow_events labels passing) →
    AllByRecursion (Names before) (flow_events labels passing)
flow_named before labels passing known here proper =
    all_append (Names before) (sources_events labels passing.point passing.sources)
    (aim_events passing.point passing.aim) (sources_named before labels passing.point known here passing.sources)
    (aim_named before passing.point here passing.aim
    (all_parts IsProperEvent (sources_events labels passing.point passing.sources)
    (aim_events passing.point passing.aim) proper).1)

width_word : (slot : Slot) → width_of slot < 2 ^ 32
width_word FirstSlot = omega arith
width_word SecondSlot = omega arith
width_word Address = omega arith
width_word ResultSlot = omega arith
width_word DecisionSlot = omega arith
width_word Number = omega arith
width_word Arg0 = omega arith
width_word Arg1 = omega arith
width_word Arg2 = omega arith
width_word SecretIn = omega arith
width_word ByteOut = omega arith
width_word Status = omega arith
width_word (OutReg register) = omega arith
width_word (OutRange range) = omega arith

knows_here : (before : List Event) (point : Point) (mask : ℕ) → mask ≤ width_of point.slot → 0 < mask →
    Knows (before ++ Pass point mask ∷ []) point
knows_here before point mask fits some =
    let word : width_of point.slot < 2 ^ 32 = width_word point.slot in
    knows_pass before point mask some (omega (arith, fits, word))

tested_events : (before : List Event) (labels : TurnLabels) (passing : Passing) (mask : ℕ) (test : Bool) →
    (mask == 0) ≡ test → AreKnownInTurn before labels →
    AreProperEvents (Pass passing.point mask ∷ (if test then [] else flow_events labels passing)) →
    AreNamed before (Pass passing.point mask ∷ (if test then [] else flow_events labels passing))
tested_events before labels passing mask true is known proper = (tt, tt)
tested_events before labels passing mask false is known proper =
    let after = before ++ Pass passing.point mask ∷ [] in
    let here : Knows after passing.point =
    knows_here before passing.point mask proper.0.0 (some_mask mask is) in (
      tt,
      all_named after (flow_events labels passing)
          (flow_named after labels passing (turn_more before (Pass passing.point mask ∷ []) labels known) here
          proper.1),
    )

passing_named : (before : List Event) (labels : TurnLabels) (answer : ℕ) (passing : Passing) →
    AreKnownInTurn before labels → AreProperEvents (passing_events labels answer passing) →
    AreNamed before (passing_events labels answer passing)
passing_named before labels answer passing known proper =
    tested_events before labels passing (mask_of labels answer passing) (mask_of labels answer passing == 0) refl known
    proper

-- the labels after a passing
passing_known : (before more : List Event) (labels : TurnLabels) (aim : Aim) (point : Point) (mask : ℕ) →
    mask ≤ width_of point.slot → AreKnownInTurn before labels →
    AreKnownInTurn (before ++ (Pass point mask ∷ more)) (aim_label aim (label_of mask point) labels)
passing_known before more labels aim point mask fits known =
    aim_known (before ++ (Pass point mask ∷ more)) aim (label_of mask point) labels
    (label_known (before ++ (Pass point mask ∷ more)) mask point (λ some.
    subst (λ events. Knows events point) (append_assoc before (Pass point mask ∷ []) more)
    (knows_more (before ++ Pass point mask ∷ []) more point (knows_here before point mask fits some))))
    (turn_more before (Pass point mask ∷ more) labels known)

-- ---- one turn

pub turn_named : (before : List Event) (labels : TurnLabels) (answers : List ℕ) (walk : Walk) →
    AreKnownInTurn before labels → AreProperEvents (events_in labels answers walk) →
    AreNamed before (events_in labels answers walk)
    × AreKnown (before ++ events_in labels answers walk) (labels_in labels answers walk)
unfolding traced
turn_named before labels answers (Looked seen value walk) known proper =
    turn_named before labels answers walk known proper
turn_named before labels answers (Passed passing go) known proper =
    let here = passing_events labels (first_of answers) passing in
    let next = labels_after labels (first_of answers) passing in
    let later = answers_after passing.work answers in
    let parts = all_parts IsProperEvent here (events_in next later (go passing.value)) proper in
    let rest = turn_named (before ++ here) next later (go passing.value)
    (passing_known before _ labels passing.aim passing.point (mask_of labels (first_of answers) passing) parts.0.0.0
    known) parts.1 in (
      named_append before here (events_in next later (go passing.value))
          (passing_named before labels (first_of answers) passing known parts.0) rest.0,
      subst (λ events. AreKnown events (labels_in next later (go passing.value)))
          (append_assoc before here (events_in next later (go passing.value))) rest.1,
    )
turn_named before labels answers (Moved place shape source value walk) known proper =
    turn_named before (put_label place (moved_label labels shape source) labels) answers walk
    (put_known before place (moved_label labels shape source) labels (moved_known before labels known shape source)
    known) proper
turn_named before labels answers (Saved walk) known proper =
    turn_named before (save_labels labels) answers walk (saved_known before labels known) proper
turn_named before labels answers (Restored registers walk replayed) known proper =
    turn_named before (restore_labels registers labels) answers walk (restored_known before registers labels known)
    proper
turn_named before labels answers (Ended state) known proper =
    (tt, subst (λ events. AreKnown events labels.map) (sym (append-nil before)) known.map)

-- ---- a run

start_known : (before : List Event) (map : LabelMap) → AreKnown before map → AreKnownInTurn before (at_start map)
start_known before map known = record { map = known; first = inl refl; second = inl refl }

default_known : AreKnown [] default_map
default_known = record { registers = λ register. inl refl; kept = λ register. inl refl; bytes = λ address. inl refl }

pub run_named : (regions : List Region) (answers : List (List ℕ)) (start : RunPlace) →
    AreProperEvents (run_after regions answers (unlabelled start)).events →
    AreNamed [] (run_after regions answers (unlabelled start)).events
    × AreKnown (run_after regions answers (unlabelled start)).events
    (run_after regions answers (unlabelled start)).labels
unfolding run_after
run_named regions [] start proper = (tt, default_known)
run_named regions (last ∷ earlier) start proper =
    let run = run_after regions earlier (unlabelled start) in
    let parts = all_parts IsProperEvent run.events (turn_events regions last run) proper in
    let before = run_named regions earlier start parts.0 in
    let turn = turn_named run.events (at_start run.labels) last (next_walk regions run)
    (start_known run.events run.labels before.1) parts.1 in
    (named_append [] run.events (turn_events regions last run) before.0 turn.0, turn.1)
