-- The outputs of a region pass one after another, in the real run at its leave and in the replay at its leave or skip.
use Rattle.std.proofs.Common.{◌≡◌, ℕ, zero, suc, ◌+◌, ◌<◌, ◌≤◌, Bool, true, false, List, [], ◌∷◌, ◌++◌, length}
use Rattle.std.proofs.Common.{refl, sym, ap, subst, ◌∙◌, arith, inl, inr, ⊎_elim}
use Rattle.std.specs.Prelude.{◌==◌, ◌&&◌, if◌then◌else◌}
use Rattle.std.proofs.lemmas.Bool.{and_parts}
use Rattle.flow_base.specs.declared.points.Slot.{Slot}
use Rattle.flow_base.specs.declared.points.Slot.TheVariants.{First as FirstSlot, Second as SecondSlot, Address}
use Rattle.flow_base.specs.declared.points.Slot.TheVariants.{Result as ResultSlot, Decision as DecisionSlot, Number}
use Rattle.flow_base.specs.declared.points.Slot.TheVariants.{Arg0, Arg1, Arg2, SecretIn, ByteOut, Status, OutReg}
use Rattle.flow_base.specs.declared.points.Slot.TheVariants.{OutRange}
use Rattle.flow_base.specs.declared.points.Point.{Point}
use Rattle.flow_base.specs.Points.{width_of, slot_number}
use Rattle.flow_base.specs.Words.{Agree, bits_under, patched}
use Rattle.flow_base.proofs.PointOrders.{one_if_same}
use Rattle.flow_base.specs.PointOrders.{is_same}
use Rattle.flow_graph.specs.declared.events.Event.{Event}
use Rattle.flow_graph.specs.declared.events.Event.TheVariants.{Pass, Out}
use Rattle.rv32im_machine.specs.declared.language.Aim.TheVariants.{Give}
use Rattle.rv32im_machine.specs.declared.language.Place.{Place}
use Rattle.rv32im_machine.specs.declared.language.Place.TheVariants.{Register, Byte}
use Rattle.rv32im_machine.specs.declared.language.Source.TheVariants.{At}
use Rattle.rv32im_machine.specs.declared.language.Sources.TheVariants.{One}
use Rattle.rv32im_machine.specs.State.{Setting, Control, Store}
use Rattle.region_machine.specs.Guests.{output_point, gives_registers, gives_bytes, gives_ranges, gives}
use Rattle.enclosure_regions.specs.declared.region_parts.Range.{Range}
use Rattle.enclosure_regions.specs.declared.region_parts.Region.{Region}
use Rattle.enclosure_regions.specs.Turns.{start_of}
use Rattle.rv32im_machine.specs.Language.{Turn, Gives, Ends, walked, Held, at_place, put, hold}
use Rattle.rv32im_machine.specs.Folds.{real_end}
use Rattle.region_machine.specs.Runs.{passed}
use Rattle.replay_machine.specs.Runs.{Masks, mask_at, replayed}
use Rattle.lockstep_replay.specs.Crossing.{crossing}
use Rattle.shadow_masks.specs.Pages.{label_of}
use Rattle.run_labels.specs.TurnLabels.{TurnLabels, label_at, put_label}
use Rattle.run_labels.specs.Flowing.{source_events}
use Rattle.run_labels.specs.Traces.{traced, labels_in, events_in, secret_look, EachAnswer}
use Rattle.acceptance_law.specs.Sides.{NamedSide, is_split}
use Rattle.acceptance_law.specs.ClosedEvents.{AreClosedEvents}
use Rattle.acceptance_law.specs.Covers.{IsMaskWithin, IsContained, AreContained}
use Rattle.acceptance_law.specs.RunCuts.{is_inner, is_instruction_slot}
use Rattle.acceptance_law.specs.Inputs.{IsProperPlace, place_limit}
use Rattle.acceptance_law.proofs.WritesKeepRelation.{close_label_of, Beside, put_limits, put_label_limits, put_registers}
use Rattle.acceptance_law.proofs.WritesKeepRelation.{put_memory, put_kept, fresh_beside}
use Rattle.acceptance_law.proofs.Passings.{slot_word, slot_agree, link_equal, patched_slot, closed_append}
use Rattle.acceptance_law.proofs.Turns.{none_if, feed_bits, NeverInner, SameCounts, counts_step, mask_same}
use Rattle.acceptance_law.proofs.Turns.{none_append, none_sources, none_aim, contained_after, CloseAt, patched_close}
use Rattle.acceptance_law.proofs.Turns.{closed_if, label_of_limit}
use Rattle.acceptance_law.proofs.TurnsKeepRelation.{CoveredTurn, KeptTurn}
use Rattle.acceptance_law.proofs.Outputs.{Output, OfRegister, OfByte, output_slot, output_place, IsOutput, AreOutputs}
use Rattle.acceptance_law.proofs.Outputs.{IsAmong, given, Waits, waits_put}
use Rattle.flow_base.specs.Listed.{is_listed}

and_false : (b : Bool) → (b && false) ≡ false
and_false true = refl
and_false false = refl

pub output_width : (o : Output) → width_of (output_slot o) ≡ place_limit (output_place o)
output_width (OfRegister register) = refl
output_width (OfByte range address) = refl

pub is_place : (base : ℕ) (o : Output) → IsOutput base o → IsProperPlace base (output_place o)
is_place base (OfRegister register) is = tt
is_place base (OfByte range address) is = is

-- an output point is never an inner one
never_inner : (skip : List ℕ) (region : Region) (o : Output) →
    is_inner skip (output_point region (output_slot o)) ≡ false
never_inner skip region (OfRegister register) = and_false (is_listed skip region.id)
never_inner skip region (OfByte range address) = and_false (is_listed skip region.id)

low_number : (slot : Slot) → is_instruction_slot slot ≡ true → slot_number slot ≤ 5
low_number FirstSlot e = omega arith
low_number SecondSlot e = omega arith
low_number Address e = omega arith
low_number ResultSlot e = omega arith
low_number DecisionSlot e = omega arith
low_number Number e = absurd (cc)
low_number Arg0 e = absurd (cc)
low_number Arg1 e = absurd (cc)
low_number Arg2 e = absurd (cc)
low_number SecretIn e = absurd (cc)
low_number ByteOut e = absurd (cc)
low_number Status e = absurd (cc)
low_number (OutReg register) e = absurd (cc)
low_number (OutRange range) e = absurd (cc)

high_number : (base : ℕ) (o : Output) → IsOutput base o → 12 < slot_number (output_slot o)
high_number base (OfRegister register) is = omega (arith, is)
high_number base (OfByte range address) is = omega arith

never_same : (skip : List ℕ) (base : ℕ) (region : Region) (o : Output) → IsOutput base o →
    NeverInner skip (output_point region (output_slot o))
never_same skip base region o is other inner = pick (is_same (output_point region (output_slot o)) other) refl
  where
    pick : (t : Bool) → is_same (output_point region (output_slot o)) other ≡ t → t ≡ false
    pick false e = refl
    pick true e =
        let same : slot_number (output_slot o) ≡ slot_number other.slot =
        ap (λ (p : Point). slot_number p.slot) (one_if_same (output_point region (output_slot o)) other e) in
        let low = low_number other.slot
        (and_parts (is_listed skip other.region) (is_instruction_slot other.slot) inner).1 in
        let high = high_number base o is in
        absurd (omega (arith, same, low, high))

-- the relation at the leave of a region whose outputs wait
pub record Waiting (side : NamedSide) (region : ℕ) (base : ℕ) (os : List Output) (labels : TurnLabels) (real : Store)
    (held : Held) (copy : Store) (taken : Held) : Type 0 where
  pub places : (place : Place) → IsProperPlace base place →
      Waits side region os place (label_at labels place) (at_place base real held place)
      (at_place base copy taken place)
  pub registers : length real.registers ≡ length copy.registers
  pub memory : length real.memory ≡ length copy.memory
  pub real_limits : (place : Place) → at_place base real held place ≤ place_limit place
  pub copy_limits : (place : Place) → at_place base copy taken place ≤ place_limit place
  pub label_limits : (place : Place) → (label_at labels place).mask ≤ place_limit place

-- where the region's outputs do not wait
pub waiting_of : (side : NamedSide) (region base : ℕ) (os : List Output) (labels : TurnLabels) (real : Store)
    (held : Held) (copy : Store) (taken : Held) → Beside side base labels real held copy taken →
    Waiting side region base os labels real held copy taken
waiting_of side region base os labels real held copy taken beside = record {
  places = λ place is. inr (beside.places place is);
  registers = beside.registers;
  memory = beside.memory;
  real_limits = beside.real_limits;
  copy_limits = beside.copy_limits;
  label_limits = beside.label_limits;
}

-- where all outputs have passed
pub beside_of : (side : NamedSide) (region base : ℕ) (labels : TurnLabels) (real : Store) (held : Held) (copy : Store)
    (taken : Held) → Waiting side region base [] labels real held copy taken →
    Beside side base labels real held copy taken
unfolding IsAmong
beside_of side region base labels real held copy taken waiting = record {
  places = λ place is. ⊎_elim (λ a. absurd a.0) (λ close. close) (waiting.places place is);
  registers = waiting.registers;
  memory = waiting.memory;
  real_limits = waiting.real_limits;
  copy_limits = waiting.copy_limits;
  label_limits = waiting.label_limits;
}

module _ (side : NamedSide) (skip : List ℕ) (masks : Masks) (setting : Setting) (secret other : List ℕ) (number : ℕ)
    (region : Region) where
  module _ (o : Output) (os : List Output) (labels : TurnLabels) (real : Store) (held : Held) (copy : Store)
      (taken : Held) (past all : List Point) (is : IsOutput setting.base o)
      (waiting : Waiting side region.id setting.base (o ∷ os) labels real held copy taken)
      (counts : SameCounts skip past all) where
    abbrev pub output_at : Point
    output_at = output_point region (output_slot o)

    abbrev pub real_output : ℕ
    real_output = at_place setting.base real held (output_place o)

    abbrev pub copy_output : ℕ
    copy_output = at_place setting.base copy taken (output_place o)

    abbrev pub cut_output : ℕ
    cut_output = mask_at masks past output_at

    abbrev pub passed_output : ℕ
    passed_output = patched copy_output cut_output (bits_under real_output cut_output)

    abbrev pub flows : List Event
    flows = source_events labels output_at (At (output_place o)) ++ (Out region.id output_at ∷ [])

    real_fits : real_output ≤ width_of (output_slot o)
    real_fits = subst (λ w. real_output ≤ w) (sym (output_width o)) (waiting.real_limits (output_place o))

    copy_fits : copy_output ≤ width_of (output_slot o)
    copy_fits = subst (λ w. copy_output ≤ w) (sym (output_width o)) (waiting.copy_limits (output_place o))

    agree : Agree (width_of (output_slot o)) real_output copy_output
    agree = slot_agree (output_slot o) real_output copy_output real_fits copy_fits

    module _ (closed : AreClosedEvents side (if width_of (output_slot o) == 0 then [] else flows))
        (contained : IsContained side skip masks all (Pass output_at (width_of (output_slot o)))) where
      unwaiting : side.first output_at ≡ false →
          Waits side region.id (o ∷ os) (output_place o) (label_at labels (output_place o)) real_output copy_output →
          AreClosedEvents side flows → real_output ≡ copy_output
      unwaiting outside (inl (among, zeroth, relay)) h =
          let out = (closed_append side (source_events labels output_at (At (output_place o)))
          (Out region.id output_at ∷ []) h).1.0 in
          let both : true ≡ false = sym (out relay) ∙ outside in absurd (cc)
      unwaiting outside (inr close) h =
          link_equal side output_at (label_at labels (output_place o)) real_output copy_output close outside
          (closed_append side (source_events labels output_at (At (output_place o)))
          (Out region.id output_at ∷ []) h).0

      equal : side.first output_at ≡ false → real_output ≡ copy_output
      equal outside =
          closed_if side (width_of (output_slot o)) flows real_output copy_output agree closed
          (unwaiting outside (waiting.places (output_place o) (is_place setting.base o is)))

      within : is_split side output_at ≡ true → IsMaskWithin (width_of (output_slot o)) cut_output
      within split =
          subst (λ c. IsMaskWithin (width_of (output_slot o)) c)
          (sym (mask_same skip masks output_at past all counts (never_same skip setting.base region o is)))
          (contained split (never_inner skip region o))

      close : CloseAt side (width_of (output_slot o)) output_at real_output passed_output
      close =
          patched_close side output_at (width_of (output_slot o)) cut_output real_output copy_output
          (slot_word (output_slot o) real_output real_fits) agree equal within

      pub output_passed : Waiting side region.id setting.base os
          (put_label (output_place o) (label_of (width_of (output_slot o)) output_at) labels)
          (put setting.base (output_place o) real_output real) (hold (output_place o) real_output held)
          (put setting.base (output_place o) passed_output copy) (hold (output_place o) passed_output taken)
      output_passed =
          let width = output_width o in
          let fits = patched_slot (output_slot o) cut_output real_output copy_output real_fits copy_fits in
          let small : passed_output ≤ place_limit (output_place o) = subst (λ w. passed_output ≤ w) width fits in
          let mask : width_of (output_slot o) ≤ place_limit (output_place o) =
          subst (λ w. width_of (output_slot o) ≤ w) width (omega arith) in
          let label = label_of (width_of (output_slot o)) output_at in
          record {
            places = λ q iq. waits_put side region.id setting.base o os label real_output passed_output labels real held
                copy taken is (close_label_of side (width_of (output_slot o)) output_at real_output passed_output
                close.0 close.1) waiting.registers waiting.memory q iq (waiting.places q iq);
            registers = put_registers setting.base (output_place o) real_output real ∙ waiting.registers
                ∙ sym (put_registers setting.base (output_place o) passed_output copy);
            memory = put_memory setting.base (output_place o) real_output real ∙ waiting.memory
                ∙ sym (put_memory setting.base (output_place o) passed_output copy);
            real_limits = λ q. put_limits setting.base (output_place o) real_output real held
                (waiting.real_limits (output_place o)) q (waiting.real_limits q);
            copy_limits = λ q. put_limits setting.base (output_place o) passed_output copy taken small q
                (waiting.copy_limits q);
            label_limits = λ q. put_label_limits (output_place o) label labels
                (label_of_limit (width_of (output_slot o)) output_at (place_limit (output_place o)) mask) q
                (waiting.label_limits q);
          }

  -- the outputs pass
  pub given_kept : (os : List Output) (control : Control) (labels : TurnLabels) (answers : List ℕ) (real : Store)
      (held : Held) (copy : Store) (taken : Held) (past all : List Point) → AreOutputs setting.base os →
      Waiting side region.id setting.base os labels real held copy taken → SameCounts skip past all →
      CoveredTurn side skip masks number labels answers all
      (walked setting secret (given region os (Ends control)) real held) →
      KeptTurn side skip masks setting other labels answers
      (walked setting secret (given region os (Ends control)) real held)
      (walked setting other (given region os (Ends control)) copy taken) copy past all
  unfolding given walked replayed crossing passed real_end traced AreContained
  given_kept [] control labels answers real held copy taken past all are waiting counts covered = record {
    store = copy;
    uses = refl;
    beside = fresh_beside side setting.base labels real held copy taken
        (beside_of side region.id setting.base labels real held copy taken waiting);
    counts = counts;
    kept = refl;
  }
  given_kept (o ∷ os) control labels answers real held copy taken past all are waiting counts covered =
      let point = output_at o os labels real held copy taken past all are.0 waiting counts in
      let r = real_output o os labels real held copy taken past all are.0 waiting counts in
      let y = copy_output o os labels real held copy taken past all are.0 waiting counts in
      let c = cut_output o os labels real held copy taken past all are.0 waiting counts in
      let p = passed_output o os labels real held copy taken past all are.0 waiting counts in
      let es = flows o os labels real held copy taken past all are.0 waiting counts in
      let place = output_place o in
      let m = width_of (output_slot o) in
      let later = events_in (put_label place (label_of m point) labels) answers
      (walked setting secret (given region os (Ends control)) (put setting.base place r real) (hold place r held)) in
      let parts = closed_append side (if m == 0 then [] else es) later covered.closed.1 in
      let rest = given_kept os control (put_label place (label_of m point) labels) answers
      (put setting.base place r real) (hold place r held) (put setting.base place p copy) (hold place p taken)
      (point ∷ past) (point ∷ all) are.1
      (output_passed o os labels real held copy taken past all are.0 waiting counts parts.0 covered.contained.0)
      (counts_step skip point past all counts)
      (record {
        sound = covered.sound.1;
        looks = covered.looks;
        closed = parts.1;
        contained = contained_after side skip masks (point ∷ all) (if m == 0 then [] else es) later
            (none_if (m == 0) es (none_append _ _ (none_sources labels point (One (At place)))
            (none_aim point (Give place)))) covered.contained.1;
      }) in record {
        store = rest.store;
        uses = feed_bits r c
            (λ bits. replayed masks (point ∷ past) (walked setting other (given region os (Ends control))
            (put setting.base place (patched y c bits) copy) (hold place (patched y c bits) taken)))
            (crossing masks (point ∷ past) (walked setting secret (given region os (Ends control))
            (put setting.base place r real) (hold place r held)))
            ∙ rest.uses;
        beside = rest.beside;
        counts = rest.counts;
        kept = rest.kept ∙ put_kept setting.base place p copy;
      }

-- ---- the outputs as the leave and the skip list them

given_append : (region : Region) (first later : List Output) (turn : Turn) →
    given region (first ++ later) turn ≡ given region first (given region later turn)
unfolding given
given_append region [] later turn = refl
given_append region (o ∷ first) later turn =
    ap (λ t. Gives (output_point region (output_slot o)) (output_place o) t) (given_append region first later turn)

unfoldable pub register_outputs : List ℕ → List Output
register_outputs [] = []
register_outputs (register ∷ registers) = OfRegister register ∷ register_outputs registers

unfoldable pub byte_outputs : ℕ → ℕ → ℕ → List Output
byte_outputs range address zero = []
byte_outputs range address (suc count) = OfByte range address ∷ byte_outputs range (address + 1) count

unfoldable pub range_outputs : List ℕ → ℕ → List Range → List Output
range_outputs registers number [] = []
range_outputs registers number (range ∷ ranges) =
    byte_outputs number (start_of registers range) range.length ++ range_outputs registers (number + 1) ranges

abbrev pub outputs_of : Region → List ℕ → List Output
outputs_of region registers = register_outputs region.outs ++ range_outputs registers 0 region.ranges

registers_given : (region : Region) (registers : List ℕ) (turn : Turn) →
    gives_registers region registers turn ≡ given region (register_outputs registers) turn
unfolding gives_registers given register_outputs
registers_given region [] turn = refl
registers_given region (register ∷ registers) turn =
    ap (λ t. Gives (output_point region (OutReg register)) (Register register) t)
    (registers_given region registers turn)

bytes_given : (region : Region) (number address count : ℕ) (turn : Turn) →
    gives_bytes region number address count turn ≡ given region (byte_outputs number address count) turn
unfolding gives_bytes given byte_outputs
bytes_given region number address zero turn = refl
bytes_given region number address (suc count) turn =
    ap (λ t. Gives (output_point region (OutRange number)) (Byte address) t)
    (bytes_given region number (address + 1) count turn)

ranges_given : (region : Region) (registers : List ℕ) (number : ℕ) (ranges : List Range) (turn : Turn) →
    gives_ranges region registers number ranges turn ≡ given region (range_outputs registers number ranges) turn
unfolding gives_ranges given range_outputs
ranges_given region registers number [] turn = refl
ranges_given region registers number (range ∷ ranges) turn =
    bytes_given region number (start_of registers range) range.length
    (gives_ranges region registers (number + 1) ranges turn)
    ∙ ap (λ t. given region (byte_outputs number (start_of registers range) range.length) t)
    (ranges_given region registers (number + 1) ranges turn)
    ∙ sym (given_append region (byte_outputs number (start_of registers range) range.length)
    (range_outputs registers (number + 1) ranges) turn)

pub gives_given : (region : Region) (registers : List ℕ) (turn : Turn) →
    gives region registers turn ≡ given region (outputs_of region registers) turn
gives_given region registers turn =
    registers_given region region.outs (gives_ranges region registers 0 region.ranges turn)
    ∙ ap (λ t. given region (register_outputs region.outs) t) (ranges_given region registers 0 region.ranges turn)
    ∙ sym (given_append region (register_outputs region.outs) (range_outputs registers 0 region.ranges) turn)
