-- The leave of a region keeps that the real run and the replay agree outside the masks: of a region that the replay has
-- run, and of one that it skips at once.
use Rattle.std.proofs.Common.{◌≡◌, ℕ, ◌++◌, true, false, List, None, refl, sym, ap, subst, ◌∙◌}
use Rattle.std.specs.List.{list_all}
use Rattle.flow_base.specs.declared.points.Point.{Point}
use Rattle.crossing_bits.specs.Askers.{feed}
use Rattle.enclosure_regions.specs.declared.region_parts.Region.{Region}
use Rattle.enclosure_regions.specs.Breaks.{keep_break}
use Rattle.enclosure_regions.specs.Regions.{is_register}
use Rattle.rv32im_machine.specs.Folds.{real_end}
use Rattle.rv32im_machine.specs.State.{Setting, Control, Store, entered, moved_to, restored}
use Rattle.rv32im_machine.specs.Language.{Turn, Ends, Walk, Restored, walked, none_held}
use Rattle.region_machine.specs.Guests.{gives, leave, skip}
use Rattle.region_machine.specs.Runs.{passed}
use Rattle.region_machine.specs.Within.{are_inside}
use Rattle.replay_machine.specs.Runs.{replayed}
use Rattle.lockstep_replay.specs.Crossing.{crossing}
use Rattle.shadow_masks.specs.Writes.{LabelMap}
use Rattle.run_labels.specs.TurnLabels.{TurnLabels, at_start, restore_labels}
use Rattle.acceptance_law.proofs.Entering.{SameStarts}
use Rattle.acceptance_law.proofs.Leaving.{KeptBeside, kept_same, outputs_are, put_back, restored_beside, same_outputs}
use Rattle.acceptance_law.proofs.Leaving.{zero_unlisted}
use Rattle.acceptance_law.proofs.Outputs.{Output, given}
use Rattle.acceptance_law.proofs.RegionOutputsPass.{gives_given, outputs_of, register_outputs, waiting_of}
use Rattle.acceptance_law.proofs.Skipping.{zeroed, cleared, cleared_kept, skip_zeroed, zeroed_replayed}
use Rattle.acceptance_law.proofs.SkipsKeepRelation.{SkippedTo, skip_waiting}
use Rattle.acceptance_law.proofs.WritesKeepRelation.{Beside}
use Rattle.masked_turns.specs.Answers.{EachCleared}
use Rattle.masked_turns.specs.Clearing.{Cutting, cleared_in}
use Rattle.masked_turns.specs.Deciding.{left_in}
use Rattle.masked_turns.specs.Looking.{looked_in}
use Rattle.taint_check.proofs.OutputsAgree.{given_kept}
use Rattle.masked_turns.proofs.OutsideMasks.{AreSmall, everything}
use Rattle.taint_check.proofs.TurnsAgree.{IsClear, KeepsAgreed}

module _ (cutting : Cutting) (small : AreSmall cutting.masks) (setting : Setting) (secret other : List ℕ) (number : ℕ)
    (region : Region) where
  -- what is known of a leave is known of what follows its first node
  leave_clear : (labels : TurnLabels) (answers : List ℕ) (past : List Point) (keep : List ℕ) (walk back : Walk) →
      IsClear number cutting past labels answers (Restored keep walk back) →
      IsClear number cutting past (restore_labels keep labels) answers walk
  unfolding EachCleared looked_in left_in
  leave_clear labels answers past keep walk back clear =
      record { sound = clear.sound; looks = clear.looks; left = clear.left }

  -- the leave's walk with its first node, where the replay puts registers back
  back_kept : (labels : TurnLabels) (answers : List ℕ) (keep others : List ℕ) (walk back copied put : Walk)
      (copy changed : Store) (past : List Point) → changed.kept ≡ copy.kept →
      KeepsAgreed cutting setting other (restore_labels keep labels) answers walk put changed past →
      KeepsAgreed cutting setting other labels answers (Restored keep walk back) (Restored others copied put) copy past
  unfolding replayed crossing passed real_end cleared_in
  back_kept labels answers keep others walk back copied put copy changed past same kept = record {
    store = kept.store;
    uses = kept.uses;
    beside = kept.beside;
    kept = kept.kept ∙ same;
  }

  -- the same, where the replay has no such node
  left_kept : (labels : TurnLabels) (answers : List ℕ) (keep : List ℕ) (walk back copied : Walk) (copy : Store)
      (past : List Point) → KeepsAgreed cutting setting other (restore_labels keep labels) answers walk copied copy past →
      KeepsAgreed cutting setting other labels answers (Restored keep walk back) copied copy past
  unfolding crossing passed real_end cleared_in
  left_kept labels answers keep walk back copied copy past kept =
      record { store = kept.store; uses = kept.uses; beside = kept.beside; kept = kept.kept }

  zeroed_kept : (labels : TurnLabels) (answers : List ℕ) (walk : Walk) (os : List Output) (turn : Turn) (copy : Store)
      (past : List Point) →
      KeepsAgreed cutting setting other labels answers walk
      (walked setting other turn (cleared setting.base os copy) none_held) (cleared setting.base os copy) past →
      KeepsAgreed cutting setting other labels answers walk (walked setting other (zeroed os turn) copy none_held) copy past
  zeroed_kept labels answers walk os turn copy past kept = record {
    store = kept.store;
    uses = ap (λ asker. feed asker (crossing cutting.masks past walk))
        (zeroed_replayed cutting.masks past setting other os turn copy none_held) ∙ kept.uses;
    beside = kept.beside;
    kept = kept.kept ∙ cleared_kept setting.base os copy;
  }

  -- a region that the replay has run is left
  pub leave_kept : (control : Control) (labels : LabelMap) (answers : List ℕ) (real copy : Store)
      (past : List Point) → list_all is_register region.outs ≡ true → list_all is_register region.keep ≡ true →
      are_inside region.ranges real.kept setting.base ≡ true → SameStarts region.ranges real.kept copy.kept →
      keep_break region real.kept real.registers ≡ None → KeptBeside everything labels real copy →
      Beside everything setting.base (at_start labels) real none_held copy none_held →
      IsClear number cutting past (at_start labels) answers
      (walked setting secret (leave region real.kept control) real none_held) →
      KeepsAgreed cutting setting other (at_start labels) answers
      (walked setting secret (leave region real.kept control) real none_held)
      (walked setting other (leave region copy.kept control) copy none_held) copy past
  unfolding walked
  leave_kept control labels answers real copy past outs keeps inside starts unbroken kept beside clear =
      let os = outputs_of region real.kept in
      let end = Ends (entered 0 control) in
      let real_gives : gives region real.kept end ≡ given region os end = gives_given region real.kept end in
      let same_os : outputs_of region copy.kept ≡ os =
      ap (λ later. register_outputs region.outs ++ later)
      (sym (same_outputs real.kept copy.kept 0 region.ranges starts)) in
      let copy_gives : gives region copy.kept end ≡ given region os end =
      gives_given region copy.kept end ∙ ap (λ all_outputs. given region all_outputs end) same_os in
      let back = restored_beside everything setting.base labels real copy region.keep (zero_unlisted region.keep keeps)
      (λ q listed. kept_same region real.kept real.registers q unbroken listed) kept beside in
      let known = leave_clear (at_start labels) answers past region.keep
      (walked setting secret (gives region real.kept end) real none_held)
      (walked setting secret (gives region real.kept end) (restored region.keep real) none_held) clear in
      let given_known = subst (λ t. IsClear number cutting past (restore_labels region.keep (at_start labels)) answers
      (walked setting secret t real none_held)) real_gives known in
      let result = given_kept cutting small setting secret other number region os (entered 0 control)
      (restore_labels region.keep (at_start labels)) answers real none_held (restored region.keep copy) none_held past
      (outputs_are setting.base region real.kept outs inside)
      (waiting_of everything region.id setting.base os (restore_labels region.keep (at_start labels)) real none_held
      (restored region.keep copy) none_held back) (λ run. back) given_known in
      back_kept (at_start labels) answers region.keep region.keep
      (walked setting secret (gives region real.kept end) real none_held)
      (walked setting secret (gives region real.kept end) (restored region.keep real) none_held)
      (walked setting other (gives region copy.kept end) copy none_held)
      (walked setting other (gives region copy.kept end) (restored region.keep copy) none_held) copy
      (restored region.keep copy) past (put_back region.keep copy).kept
      (subst (λ t. KeepsAgreed cutting setting other (restore_labels region.keep (at_start labels)) answers
      (walked setting secret (gives region real.kept end) real none_held)
      (walked setting other t (restored region.keep copy) none_held) (restored region.keep copy) past) (sym copy_gives)
      (subst (λ t. KeepsAgreed cutting setting other (restore_labels region.keep (at_start labels)) answers
      (walked setting secret t real none_held)
      (walked setting other (given region os end) (restored region.keep copy) none_held) (restored region.keep copy)
      past) (sym real_gives) result))

  -- a region that the replay skips is left: its outputs have every bit of their slots
  pub skip_kept : cutting.skipped ≡ true → (before labels : LabelMap) (entry real copy : Store) →
      Beside everything setting.base (at_start before) entry none_held copy none_held →
      SkippedTo setting.base region before entry labels real → list_all is_register region.outs ≡ true →
      list_all is_register region.keep ≡ true → are_inside region.ranges real.kept setting.base ≡ true →
      keep_break region real.kept real.registers ≡ None → SameStarts region.ranges real.kept copy.registers →
      (control entered_by : Control) → entered 0 control ≡ moved_to region.leave entered_by → (answers : List ℕ)
      (past : List Point) →
      IsClear number cutting past (at_start labels) answers
      (walked setting secret (leave region real.kept control) real none_held) →
      KeepsAgreed cutting setting other (at_start labels) answers
      (walked setting secret (leave region real.kept control) real none_held)
      (walked setting other (skip region copy.registers entered_by) copy none_held) copy past
  unfolding walked
  skip_kept whole before labels entry real copy beside to outs keeps inside unbroken starts control entered_by alike
      answers past clear =
      let os = outputs_of region real.kept in
      let end = Ends (entered 0 control) in
      let real_gives : gives region real.kept end ≡ given region os end = gives_given region real.kept end in
      let same_os : os ≡ outputs_of region copy.registers =
      ap (λ later. register_outputs region.outs ++ later)
      (same_outputs real.kept copy.registers 0 region.ranges starts) in
      let skipped : zeroed os (given region os end) ≡ skip region copy.registers entered_by =
      ap (λ c. zeroed os (given region os (Ends c))) alike
      ∙ ap (λ all_outputs. zeroed all_outputs (given region all_outputs (Ends (moved_to region.leave entered_by))))
      same_os
      ∙ sym (skip_zeroed region copy.registers entered_by) in
      let known = leave_clear (at_start labels) answers past region.keep
      (walked setting secret (gives region real.kept end) real none_held)
      (walked setting secret (gives region real.kept end) (restored region.keep real) none_held) clear in
      let given_known = subst (λ t. IsClear number cutting past (restore_labels region.keep (at_start labels)) answers
      (walked setting secret t real none_held)) real_gives known in
      let result = given_kept cutting small setting secret other number region os (entered 0 control)
      (restore_labels region.keep (at_start labels)) answers real none_held (cleared setting.base os copy) none_held past
      (outputs_are setting.base region real.kept outs inside)
      (skip_waiting everything setting.base region refl before labels entry real copy beside to outs keeps inside unbroken)
      (λ run. let both : true ≡ false = sym whole ∙ run in absurd (cc)) given_known in
      left_kept (at_start labels) answers region.keep
      (walked setting secret (gives region real.kept end) real none_held)
      (walked setting secret (gives region real.kept end) (restored region.keep real) none_held)
      (walked setting other (skip region copy.registers entered_by) copy none_held) copy past
      (subst (λ t. KeepsAgreed cutting setting other (restore_labels region.keep (at_start labels)) answers
      (walked setting secret t real none_held)
      (walked setting other (skip region copy.registers entered_by) copy none_held) copy past) (sym real_gives)
      (subst (λ t. KeepsAgreed cutting setting other (restore_labels region.keep (at_start labels)) answers
      (walked setting secret (given region os end) real none_held) (walked setting other t copy none_held) copy past)
      skipped
      (zeroed_kept (restore_labels region.keep (at_start labels)) answers
      (walked setting secret (given region os end) real none_held) os (given region os end) copy past result)))
