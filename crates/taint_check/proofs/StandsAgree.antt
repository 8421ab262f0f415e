-- Each turn outside of skipped regions keeps the replay, which is fed the crossing bits, beside the real run.
use Rattle.std.proofs.Common.{◌≡◌, ℕ, ◌+◌, ◌%◌, ◌^◌, ◌<◌, ◌≤◌, Bool, true, false, List, [], ◌∷◌}
use Rattle.std.proofs.Common.{Option, Some, None, refl, sym, ap, ap₂, subst, ◌∙◌}
use Rattle.std.specs.Prelude.{if◌then◌else◌, slice_index}
use Rattle.flow_base.specs.declared.points.Point.{Point}
use Rattle.crossing_bits.specs.Askers.{feed, Fed'}
use Rattle.enclosure_regions.specs.declared.region_parts.Range.{Range}
use Rattle.enclosure_regions.specs.declared.region_parts.Region.{Region}
use Rattle.enclosure_regions.specs.Breaks.{keep_break, outside_range, range_break}
use Rattle.enclosure_regions.specs.Turns.{base_value}
use Rattle.rv32im_machine.specs.declared.language.Seen.{Seen}
use Rattle.rv32im_machine.specs.declared.language.Seen.TheVariants.{Base}
use Rattle.rv32im_machine.specs.Folds.{real_end}
use Rattle.rv32im_machine.specs.Rows.{turn_of}
use Rattle.rv32im_machine.specs.State.{Setting, Control, Store, State, entered, saved}
use Rattle.rv32im_machine.specs.Language.{Turn, Ends, Saves, Walk, Looked, Held, none_held, walked}
use Rattle.region_machine.specs.Enclosures.{Enclosures, Enters, Leaves, Steps, kind_of, region_numbered}
use Rattle.region_machine.specs.Guests.{entry, leave, looks, looks_at, skip as skip_turn}
use Rattle.region_machine.specs.Runs.{passed}
use Rattle.replay_machine.specs.ReplayTurns.{replay_kind_walk, kind_outside_range, outside_of}
use Rattle.replay_machine.specs.Runs.{Masks, replayed, replay_turn, replay_inside}
use Rattle.lockstep_replay.specs.Crossing.{crossing}
use Rattle.shadow_masks.specs.Writes.{LabelMap, after, Save}
use Rattle.run_labels.specs.TurnLabels.{TurnLabels, at_start}
use Rattle.acceptance_law.specs.Inputs.{AreBytes, IsProperGuest, IsProper}
use Rattle.acceptance_law.specs.ProperLaws.{ProperTurnsLaw}
use Rattle.acceptance_law.specs.Sides.{NamedSide}
use Rattle.acceptance_law.proofs.Entering.{SameStarts, outside_same, entry_end, entry_passed, entry_crossing, entry_replayed}
use Rattle.acceptance_law.proofs.Entering.{looks_same}
use Rattle.acceptance_law.proofs.RegionTurns.{entered_break, entered_region, leave_end, ranges_unbroken}
use Rattle.acceptance_law.proofs.RegionTurns.{stands_entered, stands_left}
use Rattle.acceptance_law.proofs.StepsKeepStanding.{state_of, placed, Stands, HasRules, kept_moved, proper_turn}
use Rattle.acceptance_law.proofs.WritesKeepRelation.{Beside}
use Rattle.masked_turns.specs.Clearing.{Cutting, cleared_in}
use Rattle.masked_turns.specs.Looking.{looked_in}
use Rattle.masked_turns.proofs.LooksAgree.{look_same, look_none}
use Rattle.masked_turns.proofs.GuestStates.{guest_within}
use Rattle.masked_turns.proofs.OutsideMasks.{AreSmall, everything}
use Rattle.masked_turns.proofs.StepEnds.{step_ends, cleared_kept}
use Rattle.taint_check.proofs.LeavesAgree.{leave_kept}
use Rattle.taint_check.proofs.TurnsAgree.{IsClear, KeepsAgreed, turn_kept}
use Rattle.flow_base.specs.Listed.{is_listed}

-- ---- the entry

-- without a refusal the base registers are equal
pub same_starts : (setting : Setting) (secret : List ℕ) (number : ℕ) (cutting : Cutting) (past : List Point)
    (labels : TurnLabels) (answers : List ℕ) (real : Store) (held : Held) (copy : Store) (taken : Held) →
    Beside everything setting.base labels real held copy taken → (ranges : List Range) (turn : Turn) →
    looked_in number cutting past labels answers (walked setting secret (looks ranges turn) real held) ≡ None →
    SameStarts ranges real.registers copy.registers
unfolding looks walked looked_in
same_starts setting secret number cutting past labels answers real held copy taken beside [] turn e = tt
same_starts setting secret number cutting past labels answers real held copy taken beside (range ∷ ranges) turn e =
    let parts = one range.base (looks ranges turn) e in (
      ap (λ b. (b + range.offset) % 2 ^ 32) parts.0,
      same_starts setting secret number cutting past labels answers real held copy taken beside ranges turn parts.1,
    )
  where
    one : (base : Option ℕ) (rest : Turn) →
        looked_in number cutting past labels answers (walked setting secret (looks_at base rest) real held) ≡ None →
        (base_value real.registers base ≡ base_value copy.registers base)
        × (looked_in number cutting past labels answers (walked setting secret rest real held) ≡ None)
    one None rest none = (refl, none)
    one (Some register) rest none =
        let both = look_none _ _ none in
        (look_same everything setting.base number labels real held copy taken beside (Base register) tt both.0, both.1)

-- an entry keeps the masks of all registers
pub entry_cleared : (setting : Setting) (secret : List ℕ) (store : Store) (held : Held) (region : Region)
    (control : Control) (cutting : Cutting) (past : List Point) (labels : TurnLabels) (answers : List ℕ) →
    cleared_in cutting past labels answers (walked setting secret (entry region control) store held)
    ≡ after Save labels.map
unfolding cleared_in walked
entry_cleared setting secret store held region control cutting past labels answers =
    looks_same setting secret store held (λ w. cleared_in cutting past labels answers w) blind region.ranges
    (Saves (Ends (entered region.id control))) ∙ ending
  where
    blind : (seen : Seen) (value : ℕ) (walk : Walk) →
        cleared_in cutting past labels answers (Looked seen value walk) ≡ cleared_in cutting past labels answers walk
    blind seen value walk = refl

    ending : cleared_in cutting past labels answers
        (walked setting secret (Saves (Ends (entered region.id control))) store held) ≡ after Save labels.map
    ending = refl

-- the relays do not matter for what turns are like
abbrev a_side : List ℕ → NamedSide
a_side skip = record { first = λ point. true; second = λ point. true; relay = λ region. is_listed skip region }

module _ (skip : List ℕ) (regions : List Region) (masks : Masks) (setting : Setting) (secret other : List ℕ)
    (bytes : AreBytes secret) (others : AreBytes other) (public_bytes : AreBytes setting.public_input)
    (small_start : setting.start_break < 2 ^ 32) (small : AreSmall masks) (proper : ProperTurnsLaw) where
  -- the replay stands beside the real run, which has these masks
  abbrev pub At : Control → LabelMap → Store → Store → List Point → Type 0
  At control labels real copy past = Stands everything skip regions setting.base control labels real copy past past

  -- after a turn, in which the replay has used the crossing bits up
  pub record HasStood (control : Control) (later : LabelMap) (walk : Walk) (copy : Store) (past : List Point) :
      Type 0 where
    pub store : Store
    pub uses : feed (replay_turn (record { regions = regions; skip = skip }) masks
        (placed setting other control copy past)) (crossing masks past walk)
        ≡ Fed' (placed setting other (real_end walk).control store (passed past walk)) []
    pub stands : At (real_end walk).control later (real_end walk).store store (passed past walk)

  abbrev pub cutting_for : Bool → Cutting
  cutting_for skipped = record { masks = masks; skipped = skipped }

  pub guest_of : (control : Control) (labels : LabelMap) (real copy : Store) (past : List Point) →
      At control labels real copy past → IsProperGuest (state_of setting secret control real)
  guest_of control labels real copy past at =
      guest_within setting secret control real bytes public_bytes small_start at.small_break at.beside.real_limits
      at.kept_words

  pub is_proper : (control : Control) (real : Store) → IsProperGuest (state_of setting secret control real) →
      IsProper setting.base control.region (turn_of setting control)
  is_proper control real guest =
      proper_turn (a_side skip) skip regions masks setting secret other bytes others public_bytes small_start
      (λ number region found. refl) proper control real guest

  -- ---- a step

  pub step_stands : (control : Control) (labels : LabelMap) (answers : List ℕ) (real copy : Store) (past : List Point)
      (found : Option Region) → kind_of regions control ≡ Steps found → At control labels real copy past →
      IsClear 0 (cutting_for false) past (at_start labels) answers
      (walked setting secret (turn_of setting control) real none_held) →
      HasStood control (cleared_in (cutting_for false) past (at_start labels) answers
      (walked setting secret (turn_of setting control) real none_held))
      (walked setting secret (turn_of setting control) real none_held) copy past
  step_stands control labels answers real copy past found kind at clear =
      let turn = turn_of setting control in
      let walk = walked setting secret turn real none_held in
      let is = is_proper control real (guest_of control labels real copy past at) in
      let kept = turn_kept (cutting_for false) small setting secret other bytes others 0 control.region turn
      (at_start labels) answers real none_held copy none_held past is at.beside clear in
      let alone = step_ends setting secret bytes control.region turn real none_held is at.beside.real_limits in
      let kept_labels = cleared_kept setting secret bytes control.region (cutting_for false) turn past (at_start labels)
      answers real none_held is at.beside.real_limits in
      let same = alone.ends.same_region in record {
        store = kept.store;
        uses = ap (λ k. feed (replay_inside (kind_outside_range k (state_of setting other control copy))
            (record { regions = regions; skip = skip }) masks (placed setting other control copy past))
            (crossing masks past walk)) kind
            ∙ ap (λ k. feed (replayed masks past (replay_kind_walk (record { regions = regions; skip = skip }) k
            (state_of setting other control copy))) (crossing masks past walk)) kind
            ∙ kept.uses;
        stands = record {
          beside = kept.beside;
          counts = λ point never. refl;
          runs = subst (λ r. is_listed skip r ≡ false) (sym same) at.runs;
          nowhere = λ none. same ∙ at.nowhere (subst (λ r. region_numbered regions r ≡ None) same none);
          inside = λ region is_in. kept_moved everything setting.base region labels _ real _ copy _ kept_labels
              alone.ends.same_kept kept.kept
              (at.inside region (subst (λ r. region_numbered regions r ≡ Some region) same is_in));
          small_break = alone.ends.small_break;
          kept_words = λ r. subst (λ xs. slice_index xs r ≤ 4294967295) (sym alone.ends.same_kept) (at.kept_words r);
        };
      }

  -- ---- the entry of a region that is not skipped

  pub entry_stands : (control : Control) (labels : LabelMap) (answers : List ℕ) (real copy : Store) (past : List Point)
      (region : Region) → kind_of regions control ≡ Enters region → is_listed skip region.id ≡ false →
      region_numbered regions region.id ≡ Some region → range_break region real.registers setting.base ≡ None →
      At control labels real copy past →
      IsClear region.id (cutting_for false) past (at_start labels) answers
      (walked setting secret (entry region control) real none_held) →
      HasStood control (cleared_in (cutting_for false) past (at_start labels) answers
      (walked setting secret (entry region control) real none_held))
      (walked setting secret (entry region control) real none_held) copy past
  entry_stands control labels answers real copy past region kind unskipped numbered unbroken at clear =
      let walk = walked setting secret (entry region control) real none_held in
      let enclosures : Enclosures = record { regions = regions; skip = skip } in
      let starts = same_starts setting secret region.id (cutting_for false) past (at_start labels) answers real none_held
      copy none_held at.beside region.ranges (Saves (Ends (entered region.id control))) clear.looks in
      let none = ranges_unbroken region real.registers setting.base unbroken in
      let none_copy : outside_range region copy.registers setting.base ≡ None =
      sym (outside_same region real.registers copy.registers setting.base starts) ∙ none in
      let end = entry_end setting secret real none_held region control in
      let tags = entry_cleared setting secret real none_held region control (cutting_for false) past (at_start labels)
      answers in
      let passed_here = entry_passed setting secret real none_held region control in
      let new = entered region.id control in
      let stands = stands_entered everything skip regions setting.base control labels real copy past past region unskipped
      numbered starts none at in record {
        store = saved copy;
        uses =
            ap (λ k. feed (replay_inside (kind_outside_range k (state_of setting other control copy)) enclosures masks
            (placed setting other control copy past)) (crossing masks past walk)) kind
            ∙ ap (λ o. feed (replay_inside (outside_of region o) enclosures masks
            (placed setting other control copy past)) (crossing masks past walk)) none_copy
            ∙ ap (λ k. feed (replayed masks past (replay_kind_walk enclosures k (state_of setting other control copy)))
            (crossing masks past walk)) kind
            ∙ ap (λ t. feed (replayed masks past (if t
            then walked setting other (skip_turn region copy.registers control) copy none_held
            else walked setting other (entry region control) copy none_held)) (crossing masks past walk)) unskipped
            ∙ ap (λ a. feed a (crossing masks past walk))
            (entry_replayed setting other copy none_held region control masks past)
            ∙ ap₂ (λ bits p. Fed' (placed setting other new (saved copy) p) bits)
            (entry_crossing setting secret real none_held region control masks past) (sym (passed_here past))
            ∙ ap (λ (s : State). Fed' (placed setting other s.control (saved copy) (passed past walk)) []) (sym end);
        stands =
            subst (λ (s : State). At s.control (cleared_in (cutting_for false) past (at_start labels) answers walk) s.store
            (saved copy) (passed past walk)) (sym end)
            (subst (λ m. At new m (saved real) (saved copy) (passed past walk)) (sym tags)
            (subst (λ p. At new (after Save labels) (saved real) (saved copy) p) (sym (passed_here past)) stands));
      }

  -- ---- the leave, of a region that was run or of one that was skipped

  pub left_stands : (skipped : Bool) (control : Control) (labels : LabelMap) (answers : List ℕ) (real copy : Store)
      (past : List Point) (region : Region) (copied : Walk) → is_listed skip 0 ≡ false →
      control.current_break < 2 ^ 32 → ((register : ℕ) → slice_index real.kept register ≤ 4294967295) →
      (kept : KeepsAgreed (cutting_for skipped) setting other (at_start labels) answers
      (walked setting secret (leave region real.kept control) real none_held) copied copy past) →
      At (real_end (walked setting secret (leave region real.kept control) real none_held)).control
      (cleared_in (cutting_for skipped) past (at_start labels) answers
      (walked setting secret (leave region real.kept control) real none_held))
      (real_end (walked setting secret (leave region real.kept control) real none_held)).store kept.store
      (passed past (walked setting secret (leave region real.kept control) real none_held))
  left_stands skipped control labels answers real copy past region copied outside small_break words kept =
      let end = leave_end setting secret region real.kept control real in
      let region_is = ap (λ (c : Control). c.region) end.control_is ∙ entered_region 0 control in
      let break_is = ap (λ (c : Control). c.current_break) end.control_is ∙ entered_break 0 control in
      stands_left everything skip regions setting.base _ _ _ kept.store _ _ kept.beside (λ point never. refl) outside
      region_is
      (subst (λ b. b < 2 ^ 32) (sym break_is) small_break)
      (λ r. subst (λ xs. slice_index xs r ≤ 4294967295) (sym end.kept_is) (words r))

  pub leave_stands : (skipped : Bool) (control : Control) (labels : LabelMap) (answers : List ℕ) (real copy : Store)
      (past : List Point) (region : Region) → kind_of regions control ≡ Leaves region →
      region_numbered regions control.region ≡ Some region → HasRules region → is_listed skip 0 ≡ false →
      keep_break region real.kept real.registers ≡ None → At control labels real copy past →
      IsClear 0 (cutting_for skipped) past (at_start labels) answers
      (walked setting secret (leave region real.kept control) real none_held) →
      HasStood control (cleared_in (cutting_for skipped) past (at_start labels) answers
      (walked setting secret (leave region real.kept control) real none_held))
      (walked setting secret (leave region real.kept control) real none_held) copy past
  leave_stands skipped control labels answers real copy past region kind numbered rules outside unbroken at clear =
      let enclosures : Enclosures = record { regions = regions; skip = skip } in
      let walk = walked setting secret (leave region real.kept control) real none_held in
      let known = at.inside region numbered in
      let kept = leave_kept (cutting_for skipped) small setting secret other 0 region control labels answers real copy past
      rules.outs rules.keeps known.inside known.starts unbroken known.kept at.beside clear in record {
        store = kept.store;
        uses =
            ap (λ k. feed (replay_inside (kind_outside_range k (state_of setting other control copy)) enclosures masks
            (placed setting other control copy past)) (crossing masks past walk)) kind
            ∙ ap (λ k. feed (replayed masks past (replay_kind_walk enclosures k (state_of setting other control copy)))
            (crossing masks past walk)) kind
            ∙ kept.uses;
        stands = left_stands skipped control labels answers real copy past region
            (walked setting other (leave region copy.kept control) copy none_held) outside at.small_break at.kept_words
            kept;
      }
