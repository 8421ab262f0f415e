-- A skipped region beside one skip of the replay.
use Rattle.std.proofs.Common.{◌≡◌, ℕ, ◌-◌, ◌≤◌, inl, inr, ⊎_elim, Bool, true, false}
use Rattle.std.proofs.Common.{List, ◌++◌, length, None, refl, sym, ap, subst, ◌∙◌}
use Rattle.std.specs.Prelude.{◌||◌, if◌then◌else◌, slice_index}
use Rattle.std.specs.List.{list_all}
use Rattle.flow_base.specs.declared.points.Point.{Point}
use Rattle.enclosure_regions.specs.declared.region_parts.Region.{Region}
use Rattle.enclosure_regions.specs.Breaks.{keep_break, declares_byte}
use Rattle.enclosure_regions.specs.Regions.{is_register}
use Rattle.rv32im_machine.specs.declared.language.Place.{Place}
use Rattle.rv32im_machine.specs.declared.language.Place.TheVariants.{Register, Byte, First, Second}
use Rattle.rv32im_machine.specs.State.{Setting, Control, Store, entered, moved_to}
use Rattle.rv32im_machine.specs.Language.{Turn, Ends, Walk, Restored, walked, none_held, at_place}
use Rattle.region_machine.specs.Guests.{gives, leave, skip}
use Rattle.region_machine.specs.Within.{are_inside}
use Rattle.replay_machine.specs.Runs.{Masks}
use Rattle.shadow_masks.specs.declared.labels.Label.{Label}
use Rattle.shadow_masks.specs.Labels.{clean}
use Rattle.shadow_masks.specs.Writes.{LabelMap}
use Rattle.run_labels.specs.TurnLabels.{TurnLabels, label_at, at_start, restore_labels}
use Rattle.run_labels.specs.Traces.{traced, labels_in}
use Rattle.acceptance_law.specs.Sides.{NamedSide}
use Rattle.acceptance_law.specs.Inputs.{IsProperPlace, place_limit}
use Rattle.acceptance_law.proofs.WritesKeepRelation.{Close, close_refl, Beside}
use Rattle.acceptance_law.proofs.Turns.{SameCounts}
use Rattle.acceptance_law.proofs.TurnsKeepRelation.{CoveredTurn, KeptTurn}
use Rattle.acceptance_law.proofs.Outputs.{Output, AreOutputs, IsAmong, given, Waits}
use Rattle.acceptance_law.proofs.RegionOutputsPass.{Waiting, given_kept, gives_given, outputs_of, register_outputs}
use Rattle.acceptance_law.proofs.Unchanged.{declared, SamePlace}
use Rattle.acceptance_law.proofs.Entering.{SameStarts}
use Rattle.acceptance_law.proofs.Leaving.{same_outputs, outputs_are, kept_same, leave_covered}
use Rattle.rv32im_machine.specs.Folds.{real_end}
use Rattle.rv32im_machine.specs.State.{restored}
use Rattle.region_machine.specs.Runs.{passed}
use Rattle.lockstep_replay.specs.Crossing.{crossing}
use Rattle.crossing_bits.specs.Askers.{feed}
use Rattle.acceptance_law.proofs.Skipping.{zeroed, cleared, skip_zeroed, zeroed_replayed, cleared_case, cleared_among}
use Rattle.acceptance_law.proofs.Skipping.{cleared_registers, cleared_memory, cleared_kept, cleared_limits, outs_among}
use Rattle.acceptance_law.proofs.Skipping.{range_among}
use Rattle.flow_base.specs.Listed.{is_listed}

-- the real run at the leave of a skipped region, beside what it was at the entry
pub record SkippedTo (base : ℕ) (region : Region) (before : LabelMap) (entry : Store) (labels : LabelMap)
    (real : Store) :
    Type 0 where
  pub kept : real.kept ≡ entry.registers
  pub label_kept : labels.kept ≡ before.registers
  pub same : (q : Place) → IsProperPlace base q → declared region entry.registers q ≡ false →
      SamePlace base q (at_start before) entry none_held (at_start labels) real none_held
  pub registers : length real.registers ≡ length entry.registers
  pub memory : length real.memory ≡ length entry.memory
  pub limits : (q : Place) → at_place base real none_held q ≤ place_limit q
  pub label_limits : (q : Place) → (label_at (at_start labels) q).mask ≤ place_limit q

module _ (side : NamedSide) (base : ℕ) (region : Region) (relay : side.relay region.id ≡ true)
    (before labels : LabelMap) (entry real copy : Store)
    (beside : Beside side base (at_start before) entry none_held copy none_held)
    (to : SkippedTo base region before entry labels real)
    (outs : list_all is_register region.outs ≡ true) (keeps : list_all is_register region.keep ≡ true)
    (inside : are_inside region.ranges real.kept base ≡ true)
    (unbroken : keep_break region real.kept real.registers ≡ None) where
  abbrev pub outputs : List Output
  outputs = outputs_of region real.kept

  are : AreOutputs base outputs
  are = outputs_are base region real.kept outs inside

  -- a place that the replay does not clear is as it was in both runs
  uncleared : (q : Place) → IsProperPlace base q → (label : Label) (value : ℕ) →
      Close side label value (at_place base copy none_held q) →
      Waits side region.id outputs q label value (at_place base (cleared base outputs copy) none_held q)
  uncleared q iq label value close = ⊎_elim
      (λ among. inl (among.0, among.1, relay))
      (λ same. inr (subst (λ v. Close side label value v) (sym same) close))
      (cleared_case base outputs copy q are iq)

  waits : (q : Place) → IsProperPlace base q → IsAmong outputs q → (label : Label) (value : ℕ) →
      Waits side region.id outputs q label value (at_place base (cleared base outputs copy) none_held q)
  waits q iq among label value = inl (among, cleared_among base outputs copy q are iq among, relay)

  undeclared : (q : Place) → IsProperPlace base q → declared region entry.registers q ≡ false →
      Waits side region.id outputs q (label_at (at_start labels) q) (at_place base real none_held q)
      (at_place base (cleared base outputs copy) none_held q)
  undeclared q iq none =
      let same = to.same q iq none in
      uncleared q iq (label_at (at_start labels) q) (at_place base real none_held q)
      (subst (λ l. Close side l (at_place base real none_held q) (at_place base copy none_held q)) (sym same.1)
      (subst (λ v. Close side (label_at (at_start before) q) v (at_place base copy none_held q)) (sym same.0)
      (beside.places q iq)))

  kept_waits : (q : ℕ) → is_listed region.keep q ≡ true →
      Waits side region.id outputs (Register q) (labels.kept q) (slice_index real.registers q)
      (slice_index (cleared base outputs copy).registers q)
  kept_waits q listed =
      let value : slice_index entry.registers q ≡ slice_index real.registers q =
      ap (λ xs. slice_index xs q) (sym to.kept) ∙ kept_same region real.kept real.registers q unbroken listed in
      uncleared (Register q) tt (labels.kept q) (slice_index real.registers q)
      (subst (λ l. Close side l (slice_index real.registers q) (slice_index copy.registers q))
      (ap (λ (f : ℕ → Label). f q) (sym to.label_kept))
      (subst (λ v. Close side (before.registers q) v (slice_index copy.registers q)) value
      (beside.places (Register q) tt)))

  register_waits : (q : ℕ) (t : Bool) → is_listed region.keep q ≡ t → (s : Bool) → is_listed region.outs q ≡ s →
      Waits side region.id outputs (Register q) (if t then labels.kept q else labels.registers q)
      (slice_index real.registers q) (slice_index (cleared base outputs copy).registers q)
  register_waits q true listed s e = kept_waits q listed
  register_waits q false unlisted true e =
      waits (Register q) tt (outs_among region real.kept q e) (labels.registers q) (slice_index real.registers q)
  register_waits q false unlisted false e = undeclared (Register q) tt (neither _ _ e unlisted)
    where
      neither : (a b : Bool) → a ≡ false → b ≡ false → (a || b) ≡ false
      neither false b p r = r
      neither true b p r = p

  byte_waits : (a : ℕ) → base ≤ a → (t : Bool) → declares_byte region entry.registers a ≡ t →
      Waits side region.id outputs (Byte a) (labels.bytes a) (slice_index real.memory (a - base))
      (slice_index (cleared base outputs copy).memory (a - base))
  byte_waits a from true e =
      waits (Byte a) from (range_among region real.kept a (subst (λ xs. declares_byte region xs a ≡ true)
      (sym to.kept) e))
      (labels.bytes a) (slice_index real.memory (a - base))
  byte_waits a from false e = undeclared (Byte a) from e

  skip_places : (place : Place) → IsProperPlace base place →
      Waits side region.id outputs place (label_at (restore_labels region.keep (at_start labels)) place)
      (at_place base real none_held place) (at_place base (cleared base outputs copy) none_held place)
  skip_places (Register q) is = register_waits q (is_listed region.keep q) refl (is_listed region.outs q) refl
  skip_places (Byte a) is = byte_waits a is (declares_byte region entry.registers a) refl
  skip_places First is = inr (close_refl side clean 0)
  skip_places Second is = inr (close_refl side clean 0)

  tag_limit : (q : ℕ) (t : Bool) → (if t then labels.kept q else labels.registers q).mask ≤ 4294967295
  tag_limit q true =
      subst (λ (f : ℕ → Label). (f q).mask ≤ 4294967295) (sym to.label_kept) (beside.label_limits (Register q))
  tag_limit q false = to.label_limits (Register q)

  skip_label_limits : (place : Place) →
      (label_at (restore_labels region.keep (at_start labels)) place).mask ≤ place_limit place
  skip_label_limits (Register q) = tag_limit q (is_listed region.keep q)
  skip_label_limits (Byte a) = to.label_limits (Byte a)
  skip_label_limits First = to.label_limits First
  skip_label_limits Second = to.label_limits Second

  pub skip_waiting : Waiting side region.id base outputs (restore_labels region.keep (at_start labels)) real none_held
      (cleared base outputs copy) none_held
  skip_waiting = record {
    places = skip_places;
    registers = to.registers ∙ beside.registers ∙ sym (cleared_registers base outputs copy);
    memory = to.memory ∙ beside.memory ∙ sym (cleared_memory base outputs copy);
    real_limits = to.limits;
    copy_limits = cleared_limits base outputs copy beside.copy_limits;
    label_limits = skip_label_limits;
  }

-- ---- a skipped region is left

zeroed_kept : (side : NamedSide) (cut_skip : List ℕ) (masks : Masks) (setting : Setting) (other : List ℕ)
    (labels : TurnLabels) (answers : List ℕ) (walk : Walk) (os : List Output) (turn : Turn) (copy : Store)
    (past all : List Point) →
    KeptTurn side cut_skip masks setting other labels answers walk
    (walked setting other turn (cleared setting.base os copy) none_held) (cleared setting.base os copy) past all →
    KeptTurn side cut_skip masks setting other labels answers walk
    (walked setting other (zeroed os turn) copy none_held)
    copy past all
zeroed_kept side cut_skip masks setting other labels answers walk os turn copy past all kept = record {
  store = kept.store;
  uses = ap (λ asker. feed asker (crossing masks past walk)) (zeroed_replayed masks past setting other os turn copy
      none_held) ∙ kept.uses;
  beside = kept.beside;
  counts = kept.counts;
  kept = kept.kept ∙ cleared_kept setting.base os copy;
}

-- the leave's walk without its first node
left_kept : (side : NamedSide) (cut_skip : List ℕ) (masks : Masks) (setting : Setting) (secret other : List ℕ)
    (labels : TurnLabels) (answers : List ℕ) (keep : List ℕ) (turn : Turn) (real : Store) (copied : Walk) (copy : Store)
    (past all : List Point) →
    KeptTurn side cut_skip masks setting other (restore_labels keep labels) answers
    (walked setting secret turn real none_held) copied copy past all →
    KeptTurn side cut_skip masks setting other labels answers
    (Restored keep (walked setting secret turn real none_held)
    (walked setting secret turn (restored keep real) none_held))
    copied copy past all
unfolding crossing passed real_end traced
left_kept side cut_skip masks setting secret other labels answers keep turn real copied copy past all kept = record {
  store = kept.store;
  uses = kept.uses;
  beside = kept.beside;
  counts = kept.counts;
  kept = kept.kept;
}

pub skip_kept : (side : NamedSide) (cut_skip : List ℕ) (masks : Masks) (setting : Setting) (secret other : List ℕ)
    (number : ℕ) (region : Region) → side.relay region.id ≡ true → (before labels : LabelMap)
    (entry real copy : Store) → Beside side setting.base (at_start before) entry none_held copy none_held →
    SkippedTo setting.base region before entry labels real → list_all is_register region.outs ≡ true →
    list_all is_register region.keep ≡ true → are_inside region.ranges real.kept setting.base ≡ true →
    keep_break region real.kept real.registers ≡ None → SameStarts region.ranges real.kept copy.registers →
    (control entered_by : Control) → entered 0 control ≡ moved_to region.leave entered_by → (answers : List ℕ)
    (past all : List Point) → SameCounts cut_skip past all →
    CoveredTurn side cut_skip masks number (at_start labels) answers all
    (walked setting secret (leave region real.kept control) real none_held) →
    KeptTurn side cut_skip masks setting other (at_start labels) answers
    (walked setting secret (leave region real.kept control) real none_held)
    (walked setting other (skip region copy.registers entered_by) copy none_held) copy past all
unfolding walked
skip_kept side cut_skip masks setting secret other number region relay before labels entry real copy beside to outs
    keeps inside unbroken starts control entered_by alike answers past all counts covered =
    let os = outputs_of region real.kept in
    let end = Ends (entered 0 control) in
    let real_gives : gives region real.kept end ≡ given region os end = gives_given region real.kept end in
    let same_os : os ≡ outputs_of region copy.registers =
    ap (λ later. register_outputs region.outs ++ later) (same_outputs real.kept copy.registers 0 region.ranges starts)
    in
    let skipped : zeroed os (given region os end) ≡ skip region copy.registers entered_by =
    ap (λ c. zeroed os (given region os (Ends c))) alike
    ∙ ap (λ all_outputs. zeroed all_outputs (given region all_outputs
    (Ends (moved_to region.leave entered_by)))) same_os
    ∙ sym (skip_zeroed region copy.registers entered_by) in
    let known = leave_covered side cut_skip masks setting secret other number region (at_start labels) answers all
    region.keep (walked setting secret (gives region real.kept end) real none_held)
    (walked setting secret (gives region real.kept end) (restored region.keep real) none_held) covered in
    let given_known = subst (λ t. CoveredTurn side cut_skip masks number (restore_labels region.keep (at_start labels))
    answers all (walked setting secret t real none_held)) real_gives known in
    let result = given_kept side cut_skip masks setting secret other number region os (entered 0 control)
    (restore_labels region.keep (at_start labels)) answers real none_held (cleared setting.base os copy) none_held past
    all (outputs_are setting.base region real.kept outs inside)
    (skip_waiting side setting.base region relay before labels entry real copy beside to outs keeps inside unbroken)
    counts given_known in
    left_kept side cut_skip masks setting secret other (at_start labels) answers region.keep
    (gives region real.kept end)
    real (walked setting other (skip region copy.registers entered_by) copy none_held) copy past all
    (subst (λ t. KeptTurn side cut_skip masks setting other (restore_labels region.keep (at_start labels)) answers
    (walked setting secret t real none_held)
    (walked setting other (skip region copy.registers entered_by) copy none_held) copy past all) (sym real_gives)
    (subst (λ t. KeptTurn side cut_skip masks setting other (restore_labels region.keep (at_start labels)) answers
    (walked setting secret (given region os end) real none_held) (walked setting other t copy none_held) copy past all)
    skipped
    (zeroed_kept side cut_skip masks setting other (restore_labels region.keep (at_start labels)) answers
    (walked setting secret (given region os end) real none_held) os (given region os end) copy past all result)))
