-- Inside a skipped region the real run goes on while the replay stands at its entry; at the leave the replay skips it.
use Rattle.std.proofs.Common.{◌≡◌, ℕ, ◌^◌, ◌<◌, ◌≤◌, true, false, List}
use Rattle.std.proofs.Common.{Some, None, refl, sym, ap, subst, ◌∙◌}
use Rattle.std.specs.Prelude.{if◌then◌else◌, slice_index}
use Rattle.flow_base.specs.declared.points.Point.{Point}
use Rattle.crossing_bits.specs.Askers.{feed}
use Rattle.enclosure_regions.specs.declared.region_parts.Region.{Region}
use Rattle.enclosure_regions.specs.Breaks.{keep_break, range_break}
use Rattle.rv32im_machine.specs.declared.language.Place.TheVariants.{Register}
use Rattle.rv32im_machine.specs.declared.stepping.Stepped.TheVariants.{Ran}
use Rattle.rv32im_machine.specs.Folds.{real_end}
use Rattle.rv32im_machine.specs.Rows.{turn_of}
use Rattle.rv32im_machine.specs.State.{Setting, Control, Store, State, saved, entered}
use Rattle.rv32im_machine.specs.Language.{Ends, Saves, none_held, walked}
use Rattle.region_machine.specs.Breaking.{walk_break}
use Rattle.region_machine.specs.Enclosures.{Enclosures, Enters, kind_of, region_numbered}
use Rattle.region_machine.specs.Guests.{entry, leave, skip as skip_turn}
use Rattle.region_machine.specs.Runs.{has_exited}
use Rattle.region_machine.specs.Within.{are_inside}
use Rattle.region_machine.proofs.RangesStayInside.{inside_at_entry}
use Rattle.replay_machine.specs.ReplayTurns.{replay_kind_walk, kind_outside_range, outside_of}
use Rattle.replay_machine.specs.Runs.{Masks, replayed, replay_inside}
use Rattle.lockstep_replay.specs.Crossing.{crossing}
use Rattle.shadow_masks.specs.Writes.{LabelMap, after, Save}
use Rattle.run_labels.specs.TurnLabels.{at_start}
use Rattle.acceptance_law.specs.Inputs.{AreBytes, IsProperGuest}
use Rattle.acceptance_law.specs.ProperLaws.{ProperTurnsLaw}
use Rattle.acceptance_law.proofs.Entering.{SameStarts, outside_same, entry_end}
use Rattle.acceptance_law.proofs.QuietInsideRegions.{step_quiet}
use Rattle.acceptance_law.proofs.RegionTurns.{entered_break, entered_region, ranges_unbroken}
use Rattle.acceptance_law.proofs.SkippedTurns.{Skips, entered_mode, entered_to, same_control}
use Rattle.acceptance_law.proofs.SkippedTurns.{same_inside_later, same_inside_refl}
use Rattle.acceptance_law.proofs.SkipsKeepRelation.{SkippedTo}
use Rattle.acceptance_law.proofs.StepsKeepStanding.{state_of, placed, HasRules}
use Rattle.acceptance_law.proofs.Unchanged.{declared}
use Rattle.masked_turns.specs.Clearing.{cleared_in}
use Rattle.masked_turns.proofs.GuestStates.{guest_within}
use Rattle.masked_turns.proofs.OutsideMasks.{AreSmall, everything}
use Rattle.masked_turns.proofs.StepEnds.{step_ends}
use Rattle.taint_check.proofs.LeavesAgree.{skip_kept}
use Rattle.taint_check.proofs.StandsAgree.{At, HasStood, entry_cleared, is_proper, left_stands, same_starts}
use Rattle.taint_check.proofs.TurnsAgree.{IsClear}
use Rattle.flow_base.specs.Listed.{is_listed}

module _ (skip : List ℕ) (regions : List Region) (masks : Masks) (setting : Setting) (secret other : List ℕ)
    (bytes : AreBytes secret) (others : AreBytes other) (public_bytes : AreBytes setting.public_input)
    (small_start : setting.start_break < 2 ^ 32) (small : AreSmall masks) (proper : ProperTurnsLaw) where
  -- the replay stands at the entry of the region that the real run is in, where the control was this
  abbrev pub Within : Control → Control → LabelMap → Store → Store → List Point → Type 0
  Within control entered_by labels real copy past =
      Skips everything skip regions setting.base control entered_by labels real copy past past

  abbrev pub Standing : Control → LabelMap → Store → Store → List Point → Type 0
  Standing control labels real copy past =
      At skip regions masks setting secret other bytes others public_bytes small_start small proper control labels real
      copy past

  -- ---- the entry

  pub skip_enters : (control : Control) (labels : LabelMap) (answers : List ℕ) (real copy : Store) (past : List Point)
      (region : Region) → control.mode ≡ Ran → kind_of regions control ≡ Enters region →
      is_listed skip region.id ≡ true → region_numbered regions region.id ≡ Some region → control.region ≡ 0 →
      range_break region real.registers setting.base ≡ None → Standing control labels real copy past →
      IsClear region.id (record { masks = masks; skipped = false }) past (at_start labels) answers
      (walked setting secret (entry region control) real none_held) →
      Within (real_end (walked setting secret (entry region control) real none_held)).control control
      (cleared_in (record { masks = masks; skipped = false }) past (at_start labels) answers
      (walked setting secret (entry region control) real none_held))
      (real_end (walked setting secret (entry region control) real none_held)).store copy past
  skip_enters control labels answers real copy past region ran kind skipped numbered zeroth unbroken at clear =
      let walk = walked setting secret (entry region control) real none_held in
      let starts = same_starts setting secret region.id (record { masks = masks; skipped = false }) past
      (at_start labels) answers real none_held copy none_held at.beside region.ranges
      (Saves (Ends (entered region.id control))) clear.looks in
      let none = ranges_unbroken region real.registers setting.base unbroken in
      let end = entry_end setting secret real none_held region control in
      let tags = entry_cleared setting secret real none_held region control (record { masks = masks; skipped = false })
      past (at_start labels) answers in
      let new = entered region.id control in
      let to : SkippedTo setting.base region labels real (after Save labels) (saved real) =
      entered_to setting.base region labels real at.beside.real_limits at.beside.label_limits in
      let stands : Within new control (after Save labels) (saved real) copy past = record {
        region = region;
        before = labels;
        entry = real;
        beside = at.beside;
        counts = λ point never. refl;
        skipped = skipped;
        numbered = subst (λ r. region_numbered regions r ≡ Some region) (sym (entered_region region.id control))
            numbered;
        to = to;
        starts = starts;
        inside = inside_at_entry region real.registers setting.base none;
        none = sym (outside_same region real.registers copy.registers setting.base starts) ∙ none;
        quiet = same_inside_refl new;
        ran = entered_mode region.id control ∙ ran;
        entry_ran = ran;
        kind = kind;
        nowhere = zeroth;
        small_break = subst (λ b. b < 2 ^ 32) (sym (entered_break region.id control)) at.small_break;
      } in
      subst (λ (s : State). Within s.control control
      (cleared_in (record { masks = masks; skipped = false }) past (at_start labels) answers walk) s.store copy past)
      (sym end)
      (subst (λ m. Within new control m (saved real) copy past) (sym tags) stands)

  -- ---- a turn inside, which changes no mask

  inside_guest : (control entered_by : Control) (labels : LabelMap) (real copy : Store) (past : List Point) →
      Within control entered_by labels real copy past → IsProperGuest (state_of setting secret control real)
  inside_guest control entered_by labels real copy past at =
      guest_within setting secret control real bytes public_bytes small_start at.small_break at.to.limits
      (λ r. subst (λ xs. slice_index xs r ≤ 4294967295) (sym at.to.kept) (at.beside.real_limits (Register r)))

  pub skip_steps : (control entered_by : Control) (labels : LabelMap) (real copy : Store) (past : List Point)
      (at : Within control entered_by labels real copy past) →
      walk_break at.region real.kept control.pc (walked setting secret (turn_of setting control) real none_held) ≡ None →
      (real_end (walked setting secret (turn_of setting control) real none_held)).control.mode ≡ Ran →
      Within (real_end (walked setting secret (turn_of setting control) real none_held)).control entered_by labels
      (real_end (walked setting secret (turn_of setting control) real none_held)).store copy past
  skip_steps control entered_by labels real copy past at unbroken ran =
      let turn = turn_of setting control in
      let region = at.region in
      let is = is_proper skip regions masks setting secret other bytes others public_bytes small_start small proper control
      real (inside_guest control entered_by labels real copy past at) in
      let alone = step_ends setting secret bytes control.region turn real none_held is at.to.limits in
      let on : has_exited control.mode ≡ false = ap (λ m. has_exited m) at.ran in
      let quiet = step_quiet region real.kept control.pc (state_of setting secret control real) on unbroken in
      record {
        region = region;
        before = at.before;
        entry = at.entry;
        beside = at.beside;
        counts = λ point never. refl;
        skipped = at.skipped;
        numbered = subst (λ r. region_numbered regions r ≡ Some region) (sym alone.ends.same_region) at.numbered;
        to = record {
          kept = alone.ends.same_kept ∙ at.to.kept;
          label_kept = at.to.label_kept;
          same = λ q iq dq.
              let early = at.to.same q iq dq in
              let declared_now : declared region real.kept q ≡ false =
              subst (λ xs. declared region xs q ≡ false) (sym at.to.kept) dq in
              (alone.same region real.kept control.pc unbroken q iq declared_now ∙ early.0, early.1);
          registers = alone.registers ∙ at.to.registers;
          memory = alone.memory ∙ at.to.memory;
          limits = alone.limits;
          label_limits = at.to.label_limits;
        };
        starts = at.starts;
        inside = at.inside;
        none = at.none;
        quiet = same_inside_later (entered region.id entered_by) control _ at.quiet quiet;
        ran = ran;
        entry_ran = at.entry_ran;
        kind = at.kind;
        nowhere = at.nowhere;
        small_break = alone.ends.small_break;
      }

  -- ---- the leave

  pub skip_leaves : (control entered_by : Control) (labels : LabelMap) (answers : List ℕ) (real copy : Store)
      (past : List Point) (at : Within control entered_by labels real copy past) → control.pc ≡ at.region.leave →
      HasRules at.region → is_listed skip 0 ≡ false → keep_break at.region real.kept real.registers ≡ None →
      IsClear 0 (record { masks = masks; skipped = true }) past (at_start labels) answers
      (walked setting secret (leave at.region real.kept control) real none_held) →
      HasStood skip regions masks setting secret other bytes others public_bytes small_start small proper entered_by
      (cleared_in (record { masks = masks; skipped = true }) past (at_start labels) answers
      (walked setting secret (leave at.region real.kept control) real none_held))
      (walked setting secret (leave at.region real.kept control) real none_held) copy past
  skip_leaves control entered_by labels answers real copy past at pc rules outside unbroken clear =
      let enclosures : Enclosures = record { regions = regions; skip = skip } in
      let region = at.region in
      let walk = walked setting secret (leave region real.kept control) real none_held in
      let alike = same_control control entered_by region.leave region.id at.quiet at.ran at.entry_ran at.nowhere pc in
      let inside = subst (λ xs. are_inside region.ranges xs setting.base ≡ true) (sym at.to.kept) at.inside in
      let starts = subst (λ xs. SameStarts region.ranges xs copy.registers) (sym at.to.kept) at.starts in
      let kept = skip_kept (record { masks = masks; skipped = true }) small setting secret other 0 region refl at.before
      labels at.entry real copy at.beside at.to rules.outs rules.keeps inside unbroken starts control entered_by alike
      answers past clear in record {
        store = kept.store;
        uses =
            ap (λ k. feed (replay_inside (kind_outside_range k
            (state_of setting other entered_by copy)) enclosures masks
            (placed setting other entered_by copy past)) (crossing masks past walk)) at.kind
            ∙ ap (λ o. feed (replay_inside (outside_of region o) enclosures masks
            (placed setting other entered_by copy past)) (crossing masks past walk)) at.none
            ∙ ap (λ k. feed (replayed masks past (replay_kind_walk enclosures k
            (state_of setting other entered_by copy))) (crossing masks past walk)) at.kind
            ∙ ap (λ t. feed (replayed masks past (if t
            then walked setting other (skip_turn region copy.registers entered_by) copy none_held
            else walked setting other (entry region entered_by) copy none_held)) (crossing masks past walk)) at.skipped
            ∙ kept.uses;
        stands = left_stands skip regions masks setting secret other bytes others public_bytes small_start small proper
            true control labels answers real copy past region
            (walked setting other (skip_turn region copy.registers entered_by) copy none_held) outside at.small_break
            (λ r. subst (λ xs. slice_index xs r ≤ 4294967295) (sym at.to.kept)
            (at.beside.real_limits (Register r))) kept;
      }
