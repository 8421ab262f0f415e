-- The leave of a region keeps that the real run, the replay and the walk agree outside the walk's masks: of a region that was
-- run, and of one that the replay and the walk skip at once.
use Rattle.std.proofs.Common.{◌≡◌, ℕ, ◌+◌, ◌≤◌, ◌⊎◌, inl, inr, ⊎_elim, Bool, true, false, List, [], ◌∷◌, ◌++◌, None}
use Rattle.std.proofs.Common.{refl, sym, ap, subst, ◌∙◌, arith}
use Rattle.std.specs.Prelude.{◌==◌, ◌&&◌, nat_lt, not, if◌then◌else◌}
use Rattle.std.specs.List.{list_all}
use Rattle.std.proofs.lemmas.Bool.{eqb-true, and_parts}
use Rattle.flow_base.specs.declared.points.Point.{Point}
use Rattle.flow_base.specs.Points.{nowhere}
use Rattle.crossing_bits.specs.Askers.{Asker}
use Rattle.enclosure_regions.specs.declared.region_parts.Region.{Region}
use Rattle.enclosure_regions.specs.Breaks.{keep_break}
use Rattle.enclosure_regions.specs.Regions.{is_register}
use Rattle.rv32im_machine.specs.declared.language.Place.{Place}
use Rattle.rv32im_machine.specs.declared.language.Place.TheVariants.{Register, Byte, First, Second}
use Rattle.rv32im_machine.specs.declared.language.Shape.TheVariants.{Copied}
use Rattle.rv32im_machine.specs.declared.language.Source.TheVariants.{Constant}
use Rattle.rv32im_machine.specs.Folds.{real_end}
use Rattle.rv32im_machine.specs.State.{Setting, Control, Store, entered, moved_to, restored}
use Rattle.rv32im_machine.specs.Language.{Turn, Ends, Held, hold, put, walked, none_held, at_place}
use Rattle.region_machine.specs.Guests.{gives, leave, skip}
use Rattle.region_machine.specs.Runs.{passed}
use Rattle.region_machine.specs.Within.{are_inside}
use Rattle.replay_machine.specs.Runs.{ReplayPlace, replayed}
use Rattle.lockstep_replay.specs.Crossing.{crossing}
use Rattle.lockstep_replay.specs.Verdicts.{counted_bits}
use Rattle.shadow_masks.specs.Labels.{clean}
use Rattle.shadow_masks.specs.Pages.{label_of}
use Rattle.shadow_masks.specs.Writes.{LabelMap, Save, after}
use Rattle.run_labels.specs.TurnLabels.{TurnLabels, at_start, label_at, put_label, restore_labels}
use Rattle.acceptance_law.specs.Inputs.{place_limit}
use Rattle.acceptance_law.proofs.Entering.{SameStarts}
use Rattle.acceptance_law.proofs.Leaving.{KeptBeside, kept_same, outputs_are, put_back, restored_beside, same_outputs}
use Rattle.acceptance_law.proofs.Leaving.{zero_unlisted}
use Rattle.acceptance_law.proofs.Outputs.{IsAmong, OfByte, OfRegister, Output, Waits, given, output_place}
use Rattle.acceptance_law.proofs.RegionOutputsPass.{Waiting, gives_given, outputs_of, register_outputs, waiting_of}
use Rattle.acceptance_law.proofs.Skipping.{cleared, cleared_among, cleared_kept, skip_zeroed, zeroed, zeroed_replayed}
use Rattle.acceptance_law.proofs.SkipsKeepRelation.{SkippedTo, skip_waiting}
use Rattle.acceptance_law.proofs.WritesKeepRelation.{Beside, put_label_kept, put_label_limits}
use Rattle.masked_turns.specs.Clearing.{Cutting}
use Rattle.masked_turns.proofs.OutsideMasks.{AreSmall, everything}
use Rattle.every_secret.specs.Masked.{Reached, label_moved, masked}
use Rattle.every_secret.specs.Rules.{Rules, public_mask}
use Rattle.every_secret.proofs.Alike.{seeing}
use Rattle.every_secret.proofs.WalkKeeps.{AlikeControl, Outcome, kept_of, knows, same_part, step}
use Rattle.every_secret.proofs.WalkOutputs.{given_walks}
use Rattle.flow_base.specs.Listed.{is_listed}

-- ---- controls

pub alike_entered : (number : ℕ) (masks : List ℕ) (mask : ℕ) (control shown : Control) →
    AlikeControl masks mask control shown → AlikeControl masks mask (entered number control) (entered number shown)
unfolding entered
alike_entered number masks mask control shown alike = record {
  output = alike.output;
  mode = alike.mode;
  same = ap (λ (c : Control). entered number c) alike.same;
}

pub alike_moved : (pc : ℕ) (masks : List ℕ) (mask : ℕ) (control shown : Control) →
    AlikeControl masks mask control shown → AlikeControl masks mask (moved_to pc control) (moved_to pc shown)
unfolding moved_to
alike_moved pc masks mask control shown alike = record {
  output = alike.output;
  mode = alike.mode;
  same = ap (λ (c : Control). moved_to pc c) alike.same;
}

-- ---- outputs that become 0 have no mask

unfoldable pub cleaned : List Output → TurnLabels → TurnLabels
cleaned [] labels = labels
cleaned (o ∷ os) labels = cleaned os (put_label (output_place o) clean labels)

held_still : (o : Output) (value : ℕ) (held : Held) → hold (output_place o) value held ≡ held
held_still (OfRegister register) value held = refl
held_still (OfByte range address) value held = refl

cleared_label : (rules : Rules) (cutting : Cutting) → cutting.skipped ≡ true → (labels : TurnLabels) (o : Output) →
    label_moved rules.public cutting.skipped labels (output_place o) Copied (Constant 0) ≡ clean
cleared_label rules cutting skipped labels (OfRegister register) = refl
cleared_label rules cutting skipped labels (OfByte range address) =
    ap (λ t. if not t then label_of (public_mask rules.public) nowhere else clean) skipped

zeroed_masked : (rules : Rules) (cutting : Cutting) → cutting.skipped ≡ true → (number : ℕ) (setting : Setting) (other : List ℕ) (past : List Point)
    (crossed : ℕ) (masks : List ℕ) (mask : ℕ) (os : List Output) (turn : Turn) (labels : TurnLabels) (store : Store)
    (held : Held) →
    masked rules cutting number (knows past labels crossed masks mask) (walked setting other (zeroed os turn) store held)
    ≡ masked rules cutting number (knows past (cleaned os labels) crossed masks mask)
    (walked setting other turn (cleared setting.base os store) held)
unfolding zeroed cleared cleaned masked walked
zeroed_masked rules cutting skipped number setting other past crossed masks mask [] turn labels store held = refl
zeroed_masked rules cutting skipped number setting other past crossed masks mask (o ∷ os) turn labels store held =
    ap (λ label. masked rules cutting number (knows past (put_label (output_place o) label labels) crossed masks mask)
    (walked setting other (zeroed os turn) (put setting.base (output_place o) 0 store)
    (hold (output_place o) 0 held))) (cleared_label rules cutting skipped labels o)
    ∙ ap (λ h. masked rules cutting number (knows past (put_label (output_place o) clean labels) crossed masks mask)
    (walked setting other (zeroed os turn) (put setting.base (output_place o) 0 store) h)) (held_still o 0 held)
    ∙ zeroed_masked rules cutting skipped number setting other past crossed masks mask os turn
    (put_label (output_place o) clean labels) (put setting.base (output_place o) 0 store) held

-- a place is that of an output, or has the label that it had
put_case : (o : Output) (labels : TurnLabels) (q : Place) →
    (output_place o ≡ q) ⊎ (label_at (put_label (output_place o) clean labels) q ≡ label_at labels q)
put_case (OfRegister r) labels (Register q) = pick (nat_lt 0 q && q == r) refl
  where
    pick : (t : Bool) → (nat_lt 0 q && q == r) ≡ t →
        (Register r ≡ Register q) ⊎ ((if t then clean else labels.map.registers q) ≡ labels.map.registers q)
    pick true e = inl (ap (λ k. Register k) (sym (eqb-true q r (and_parts (nat_lt 0 q) (q == r) e).1)))
    pick false e = inr refl
put_case (OfRegister r) labels (Byte q) = inr refl
put_case (OfRegister r) labels First = inr refl
put_case (OfRegister r) labels Second = inr refl
put_case (OfByte n p) labels (Register q) = inr refl
put_case (OfByte n p) labels (Byte q) = pick (q == p) refl
  where
    pick : (t : Bool) → (q == p) ≡ t →
        (Byte p ≡ Byte q) ⊎ ((if t then clean else labels.map.bytes q) ≡ labels.map.bytes q)
    pick true e = inl (ap (λ k. Byte k) (sym (eqb-true q p e)))
    pick false e = inr refl
put_case (OfByte n p) labels First = inr refl
put_case (OfByte n p) labels Second = inr refl

cleaned_case : (os : List Output) (labels : TurnLabels) (q : Place) →
    IsAmong os q ⊎ (label_at (cleaned os labels) q ≡ label_at labels q)
unfolding cleaned IsAmong
cleaned_case [] labels q = inr refl
cleaned_case (o ∷ os) labels q = ⊎_elim
    (λ among. inl (inr among))
    (λ same. ⊎_elim (λ here. inl (inl here)) (λ still. inr (same ∙ still)) (put_case o labels q))
    (cleaned_case os (put_label (output_place o) clean labels) q)

none_limit : (o : Output) → 0 ≤ place_limit (output_place o)
none_limit (OfRegister register) = omega arith
none_limit (OfByte range address) = omega arith

cleaned_limits : (os : List Output) (labels : TurnLabels) → ((q : Place) → (label_at labels q).mask ≤ place_limit q) →
    (q : Place) → (label_at (cleaned os labels) q).mask ≤ place_limit q
unfolding cleaned
cleaned_limits [] labels limits q = limits q
cleaned_limits (o ∷ os) labels limits q =
    cleaned_limits os (put_label (output_place o) clean labels)
    (λ p. put_label_limits (output_place o) clean labels (none_limit o) p (limits p)) q

cleaned_kept : (os : List Output) (labels : TurnLabels) → (cleaned os labels).map.kept ≡ labels.map.kept
unfolding cleaned
cleaned_kept [] labels = refl
cleaned_kept (o ∷ os) labels =
    cleaned_kept os (put_label (output_place o) clean labels) ∙ put_label_kept (output_place o) clean labels

-- what a leave puts back are the labels of the entry
put_back_same : (keep : List ℕ) (before : LabelMap) (q : Place) →
    label_at (restore_labels keep (at_start (after Save before))) q ≡ label_at (at_start before) q
put_back_same keep before (Register q) = pick (is_listed keep q)
  where
    pick : (t : Bool) → (if t then before.registers q else before.registers q) ≡ before.registers q
    pick true = refl
    pick false = refl
put_back_same keep before (Byte q) = refl
put_back_same keep before First = refl
put_back_same keep before Second = refl

module _ (rules : Rules) (cutting : Cutting) (small : AreSmall cutting.masks) (setting : Setting)
    (seen secret other : List ℕ) (number : ℕ) (region : Region) where
  abbrev sees : Setting
  sees = seeing setting seen

  -- a region that was run is left
  pub leave_walks : (control shown : Control) (labels : LabelMap) (crossed : ℕ) (masks : List ℕ) (mask : ℕ)
      (real copy twin : Store) (past : List Point) → list_all is_register region.outs ≡ true →
      list_all is_register region.keep ≡ true → are_inside region.ranges real.kept setting.base ≡ true →
      SameStarts region.ranges real.kept copy.kept → SameStarts region.ranges real.kept twin.kept →
      keep_break region real.kept real.registers ≡ None →
      KeptBeside everything labels real copy → KeptBeside everything labels real twin →
      Beside everything setting.base (at_start labels) real none_held copy none_held →
      Beside everything setting.base (at_start labels) real none_held twin none_held →
      AlikeControl masks mask control shown →
      Outcome setting sees other
      (masked rules cutting number (knows past (at_start labels) crossed masks mask)
      (walked sees other (leave region copy.kept shown) copy none_held)) crossed
      (real_end (walked setting secret (leave region real.kept control) real none_held))
      (passed past (walked setting secret (leave region real.kept control) real none_held))
      (crossing cutting.masks past (walked setting secret (leave region real.kept control) real none_held))
      (replayed cutting.masks past (walked setting other (leave region twin.kept control) twin none_held))
      (kept_of copy labels twin)
  unfolding walked masked replayed crossing passed real_end
  leave_walks control shown labels crossed masks mask real copy twin past outs keeps inside starts twin_starts unbroken kept
      twin_kept beside also alike =
      let os = outputs_of region real.kept in
      let end = Ends (entered 0 control) in
      let shown_end = Ends (entered 0 shown) in
      let changed = restored region.keep copy in
      let changed_twin = restored region.keep twin in
      let after_back = restore_labels region.keep (at_start labels) in
      let same_os : (xs : List ℕ) → SameStarts region.ranges real.kept xs → outputs_of region xs ≡ os = λ xs same.
      ap (λ later. register_outputs region.outs ++ later)
      (sym (same_outputs real.kept xs 0 region.ranges same)) in
      let gives_as : (xs : List ℕ) → SameStarts region.ranges real.kept xs → (turn : Turn) →
      given region os turn ≡ gives region xs turn = λ xs same turn.
      sym (gives_given region xs turn ∙ ap (λ all_outputs. given region all_outputs turn) (same_os xs same)) in
      let back = restored_beside everything setting.base labels real copy region.keep (zero_unlisted region.keep keeps)
      (λ q listed. kept_same region real.kept real.registers q unbroken listed) kept beside in
      let twin_back = restored_beside everything setting.base labels real twin region.keep
      (zero_unlisted region.keep keeps)
      (λ q listed. kept_same region real.kept real.registers q unbroken listed) twin_kept also in
      let Motive : Turn → Turn → Turn → Type 0 = λ run replay walk. Outcome setting sees other
      (masked rules cutting number (knows past after_back crossed masks mask)
      (walked sees other walk changed none_held)) crossed (real_end (walked setting secret run real none_held))
      (passed past (walked setting secret run real none_held))
      (crossing cutting.masks past (walked setting secret run real none_held))
      (replayed cutting.masks past (walked setting other replay changed_twin none_held)) (kept_of copy labels twin) in
      let result : Motive (given region os end) (given region os end) (given region os shown_end) =
      step setting sees other _ _ crossed crossed _ _ _ _ _ (kept_of changed labels changed_twin)
      (kept_of copy labels twin) [] [] (λ rest. refl) (λ rest. refl)
      (λ n. ap (λ k. counted_bits (crossed + k)) (omega arith))
      (same_part (put_back region.keep copy).kept refl (put_back region.keep twin).kept)
      (given_walks rules cutting small setting seen secret other number region os (entered 0 control) (entered 0 shown)
      after_back crossed masks mask real none_held changed none_held changed_twin none_held past
      (outputs_are setting.base region real.kept outs inside)
      (waiting_of everything region.id setting.base os after_back real none_held changed none_held back) (λ run. back)
      (waiting_of everything region.id setting.base os after_back real none_held changed_twin none_held twin_back)
      (λ run. twin_back)
      (alike_entered 0 masks mask control shown alike)) in
      subst (λ walk. Motive (gives region real.kept end) (gives region twin.kept end) walk)
      (gives_as copy.kept starts shown_end)
      (subst (λ replay. Motive (gives region real.kept end) replay (given region os shown_end))
      (gives_as twin.kept twin_starts end)
      (subst (λ run. Motive run (given region os end) (given region os shown_end))
      (sym (gives_given region real.kept end)) result))

  -- the outputs of a skipped region wait, and have no mask
  module _ (before : LabelMap) (entry real : Store)
      (to : SkippedTo setting.base region before entry (after Save before) real)
      (outs : list_all is_register region.outs ≡ true) (keeps : list_all is_register region.keep ≡ true)
      (inside : are_inside region.ranges real.kept setting.base ≡ true)
      (unbroken : keep_break region real.kept real.registers ≡ None) where
    cleaned_waiting : (copy : Store) → Beside everything setting.base (at_start before) entry none_held copy none_held →
        Waiting everything region.id setting.base (outputs_of region real.kept)
        (cleaned (outputs_of region real.kept) (at_start before)) real none_held
        (cleared setting.base (outputs_of region real.kept) copy) none_held
    cleaned_waiting copy beside =
        let os = outputs_of region real.kept in
        let waits = skip_waiting everything setting.base region refl before (after Save before) entry real copy beside to
        outs keeps inside unbroken in record {
          places = λ q iq. ⊎_elim
              (λ among. inl (
                among,
                cleared_among setting.base os copy q (outputs_are setting.base region real.kept outs inside) iq among,
                refl,
              ))
              (λ same. subst (λ label. Waits everything region.id os q label (at_place setting.base real none_held q)
              (at_place setting.base (cleared setting.base os copy) none_held q))
              (put_back_same region.keep before q ∙ sym same) (waits.places q iq))
              (cleaned_case os (at_start before) q);
          registers = waits.registers;
          memory = waits.memory;
          real_limits = waits.real_limits;
          copy_limits = waits.copy_limits;
          label_limits = cleaned_limits os (at_start before) beside.label_limits;
        }

    -- a region that the replay and the walk skip is left: its outputs have every bit of their slots
    pub skip_walks : cutting.skipped ≡ true → (copy twin : Store) →
        Beside everything setting.base (at_start before) entry none_held copy none_held →
        Beside everything setting.base (at_start before) entry none_held twin none_held →
        SameStarts region.ranges real.kept copy.registers → SameStarts region.ranges real.kept twin.registers →
        (control entered_by shown : Control) → entered 0 control ≡ moved_to region.leave entered_by → (crossed : ℕ)
        (masks : List ℕ) (mask : ℕ) (past : List Point) → AlikeControl masks mask entered_by shown →
        Outcome setting sees other
        (masked rules cutting number (knows past (at_start before) crossed masks mask)
        (walked sees other (skip region copy.registers shown) copy none_held)) crossed
        (real_end (walked setting secret (leave region real.kept control) real none_held))
        (passed past (walked setting secret (leave region real.kept control) real none_held))
        (crossing cutting.masks past (walked setting secret (leave region real.kept control) real none_held))
        (replayed cutting.masks past (walked setting other (skip region twin.registers entered_by) twin none_held))
        (kept_of copy before twin)
    unfolding walked crossing passed real_end
    skip_walks whole copy twin beside also starts twin_starts control entered_by shown alike_ends crossed masks mask past
        alike =
        let os = outputs_of region real.kept in
        let end = Ends (entered 0 control) in
        let changed = cleared setting.base os copy in
        let changed_twin = cleared setting.base os twin in
        let same_os : (xs : List ℕ) → SameStarts region.ranges real.kept xs → os ≡ outputs_of region xs = λ xs same.
        ap (λ later. register_outputs region.outs ++ later)
        (same_outputs real.kept xs 0 region.ranges same) in
        let skipped : (xs : List ℕ) → SameStarts region.ranges real.kept xs → (by : Control) →
        zeroed os (given region os (Ends (moved_to region.leave by))) ≡ skip region xs by = λ xs same by.
        ap (λ all_outputs. zeroed all_outputs (given region all_outputs (Ends (moved_to region.leave by))))
        (same_os xs same)
        ∙ sym (skip_zeroed region xs by) in
        let replay_skipped : zeroed os (given region os end) ≡ skip region twin.registers entered_by =
        ap (λ c. zeroed os (given region os (Ends c))) alike_ends ∙ skipped twin.registers twin_starts entered_by in
        let kept = kept_of copy before twin in
        let Motive : Turn → Asker ReplayPlace → Asker Reached → Type 0 = λ run replay walk. Outcome setting sees other walk
        crossed (real_end (walked setting secret run real none_held))
        (passed past (walked setting secret run real none_held))
        (crossing cutting.masks past (walked setting secret run real none_held)) replay kept in
        let walk_of : Turn → Asker Reached = λ turn.
        masked rules cutting number (knows past (at_start before) crossed masks mask)
        (walked sees other turn copy none_held) in
        let replay_of : Turn → Asker ReplayPlace = λ turn.
        replayed cutting.masks past (walked setting other turn twin none_held) in
        let result = step setting sees other _ _ crossed crossed _ _ _ _ _
        (kept_of changed (cleaned os (at_start before)).map changed_twin) kept [] [] (λ rest. refl)
        (λ rest. refl) (λ n. ap (λ k. counted_bits (crossed + k)) (omega arith))
        (same_part (cleared_kept setting.base os copy) (cleaned_kept os (at_start before))
        (cleared_kept setting.base os twin))
        (given_walks rules cutting small setting seen secret other number region os (entered 0 control)
        (moved_to region.leave shown) (cleaned os (at_start before)) crossed masks mask real none_held changed none_held
        changed_twin none_held past (outputs_are setting.base region real.kept outs inside) (cleaned_waiting copy beside)
        (λ run. let both : true ≡ false = sym whole ∙ run in absurd (cc)) (cleaned_waiting twin also)
        (λ run. let both : true ≡ false = sym whole ∙ run in absurd (cc))
        (subst (λ c. AlikeControl masks mask c (moved_to region.leave shown)) (sym alike_ends)
        (alike_moved region.leave masks mask entered_by shown alike))) in
        subst (λ run. Motive run (replay_of (skip region twin.registers entered_by))
        (walk_of (skip region copy.registers shown))) (sym (gives_given region real.kept end))
        (subst (λ turn. Motive (given region os end) (replay_of (skip region twin.registers entered_by)) (walk_of turn))
        (skipped copy.registers starts shown)
        (subst (λ turn. Motive (given region os end) (replay_of turn)
        (walk_of (zeroed os (given region os (Ends (moved_to region.leave shown)))))) replay_skipped
        (subst (λ walk. Motive (given region os end) (replay_of (zeroed os (given region os end))) walk)
        (sym (zeroed_masked rules cutting whole number sees other past crossed masks mask os
        (given region os (Ends (moved_to region.leave shown))) (at_start before) copy none_held))
        (subst (λ replay. Motive (given region os end) replay
        (masked rules cutting number (knows past (cleaned os (at_start before)) crossed masks mask)
        (walked sees other (given region os (Ends (moved_to region.leave shown))) changed none_held)))
        (sym (zeroed_replayed cutting.masks past setting other os (given region os end) twin none_held)) result))))
