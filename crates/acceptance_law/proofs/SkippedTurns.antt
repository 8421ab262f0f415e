-- Inside a skipped region the real run goes on while the replay stands at its entry; at the leave the replay skips it.
use Rattle.std.proofs.Common.{◌≡◌, ℕ, ◌+◌, ◌^◌, ◌<◌, ◌≤◌, Bool, true, false, List}
use Rattle.std.proofs.Common.{Some, None, refl, sym, ap, subst, ◌∙◌, arith}
use Rattle.std.specs.Prelude.{◌-◌, ◌==◌, if◌then◌else◌, slice_index}
use Rattle.flow_base.specs.declared.points.Point.{Point}
use Rattle.crossing_bits.specs.Askers.{feed}
use Rattle.enclosure_regions.specs.declared.region_parts.Region.{Region}
use Rattle.enclosure_regions.specs.Breaks.{keep_break, outside_range, range_break}
use Rattle.rv32im_machine.specs.declared.language.Place.{Place}
use Rattle.rv32im_machine.specs.declared.language.Place.TheVariants.{Register, Byte, First, Second}
use Rattle.rv32im_machine.specs.declared.stepping.Stepped.TheVariants.{Ran}
use Rattle.rv32im_machine.specs.State.{Setting, Control, Store, State, saved, entered}
use Rattle.rv32im_machine.specs.Language.{Ends, Saves, none_held, walked, at_place}
use Rattle.rv32im_machine.specs.Folds.{real_end}
use Rattle.rv32im_machine.specs.Rows.{turn_of}
use Rattle.region_machine.specs.Enclosures.{Enclosures, Enters, Leaves, Steps, kind_of, region_numbered}
use Rattle.region_machine.specs.Guests.{entry, leave, skip as skip_turn}
use Rattle.region_machine.specs.Runs.{passed}
use Rattle.region_machine.specs.Within.{are_inside}
use Rattle.region_machine.proofs.RangesStayInside.{inside_at_entry}
use Rattle.replay_machine.specs.ReplayTurns.{replay_kind_walk, kind_outside_range, outside_of}
use Rattle.replay_machine.specs.Runs.{Masks, replayed, replay_inside}
use Rattle.lockstep_replay.specs.Crossing.{crossing}
use Rattle.shadow_masks.specs.Writes.{LabelMap, after, Save}
use Rattle.run_labels.specs.TurnLabels.{label_at, at_start}
use Rattle.run_labels.specs.Traces.{labels_in, EachAnswer}
use Rattle.acceptance_law.specs.Sides.{NamedSide}
use Rattle.acceptance_law.specs.Inputs.{AreBytes, IsProperGuest, place_limit}
use Rattle.acceptance_law.specs.ProperLaws.{ProperTurnsLaw}
use Rattle.acceptance_law.proofs.WritesKeepRelation.{Beside}
use Rattle.acceptance_law.proofs.Turns.{SameCounts}
use Rattle.acceptance_law.proofs.TurnsKeepRelation.{CoveredTurn}
use Rattle.acceptance_law.proofs.Unchanged.{real_ends}
use Rattle.acceptance_law.proofs.Entering.{SameStarts, same_starts, outside_same, entry_end, entry_passed, entry_labels}
use Rattle.acceptance_law.proofs.StepsKeepStanding.{state_of, placed, Stands, Stood, HasRules, SkipsRelays}
use Rattle.rv32im_machine.specs.State.{moved_to}
use Rattle.region_machine.specs.Breaking.{walk_break}
use Rattle.region_machine.specs.Enclosures.{kind_in, kind_within}
use Rattle.region_machine.specs.Runs.{has_exited}
use Rattle.run_labels.specs.Answers.{IsSoundAnswer}
use Rattle.acceptance_law.proofs.RegionTurns.{entered_break, entered_region, left_stands, ranges_unbroken}
use Rattle.acceptance_law.proofs.StepsKeepStanding.{proper_turn}
use Rattle.acceptance_law.proofs.SkipsKeepRelation.{SkippedTo, skip_kept}
use Rattle.acceptance_law.proofs.Unchanged.{declared, SamePlace}
use Rattle.acceptance_law.proofs.QuietInsideRegions.{SameInside, step_quiet}
use Rattle.acceptance_law.proofs.SlotsInsideRegions.{step_slots}
use Rattle.std.proofs.lemmas.Bool.{eqb-true}
use Rattle.flow_base.specs.Listed.{is_listed}

-- inside a skipped region: the replay stands at its entry, where the control was this
pub record Skips (side : NamedSide) (skip : List ℕ) (regions : List Region) (base : ℕ) (control entered_by : Control)
    (labels : LabelMap) (real copy : Store) (past all : List Point) : Type 0 where
  pub region : Region
  pub before : LabelMap
  pub entry : Store
  pub beside : Beside side base (at_start before) entry none_held copy none_held
  pub counts : SameCounts skip past all
  pub skipped : is_listed skip region.id ≡ true
  pub numbered : region_numbered regions control.region ≡ Some region
  pub to : SkippedTo base region before entry labels real
  pub starts : SameStarts region.ranges entry.registers copy.registers
  pub inside : are_inside region.ranges entry.registers base ≡ true
  pub none : outside_range region copy.registers base ≡ None
  pub quiet : SameInside (entered region.id entered_by) control
  pub ran : control.mode ≡ Ran
  pub entry_ran : entered_by.mode ≡ Ran
  pub kind : kind_of regions entered_by ≡ Enters region
  pub nowhere : entered_by.region ≡ 0
  pub small_break : control.current_break < 2 ^ 32

-- ---- controls

pub same_control : (control entered_by : Control) (leave id : ℕ) → SameInside (entered id entered_by) control →
    control.mode ≡ Ran → entered_by.mode ≡ Ran → entered_by.region ≡ 0 → control.pc ≡ leave →
    entered 0 control ≡ moved_to leave entered_by
unfolding entered moved_to
same_control control entered_by leave id quiet ran entry_ran nowhere pc =
    let a = quiet.public_at in let b = quiet.secret_at in let c = quiet.current_break in let d = quiet.output in
    let e : control.mode ≡ entered_by.mode = ran ∙ sym entry_ran in
    let f : 0 ≡ entered_by.region = sym nowhere in
    cc

pub same_inside_later : (first second third : Control) → SameInside first second → SameInside second third →
    SameInside first third
same_inside_later first second third h k = record {
  public_at = k.public_at ∙ h.public_at;
  secret_at = k.secret_at ∙ h.secret_at;
  current_break = k.current_break ∙ h.current_break;
  output = k.output ∙ h.output;
  region = k.region ∙ h.region;
}

pub same_inside_refl : (control : Control) → SameInside control control
same_inside_refl control =
    record { public_at = refl; secret_at = refl; current_break = refl; output = refl; region = refl }

pub entered_mode : (region : ℕ) (control : Control) → (entered region control).mode ≡ control.mode
unfolding entered
entered_mode region control = refl

-- a guest inside a region leaves it at its leave address
left_at : (regions : List Region) (control : Control) (region found : Region) → control.mode ≡ Ran →
    region_numbered regions control.region ≡ Some region → kind_of regions control ≡ Leaves found →
    (control.pc ≡ region.leave) × (found ≡ region)
left_at regions control region found ran numbered kind =
    pick (region.leave == control.pc) refl
    (sym (ap (λ k. kind_within regions k control.pc) numbered)
    ∙ sym (ap (λ m. kind_in m regions control) ran) ∙ kind)
  where
    pick : (t : Bool) → (region.leave == control.pc) ≡ t →
        (if t then Leaves region else Steps (Some region)) ≡ Leaves found → (control.pc ≡ region.leave) ×
        (found ≡ region)
    pick true e is = (sym (eqb-true region.leave control.pc e), (let same : region ≡ found = cc in sym same))
    pick false e is = absurd (cc)

pub entered_to : (base : ℕ) (region : Region) (labels : LabelMap) (real : Store) →
    ((q : Place) → at_place base real none_held q ≤ place_limit q) →
    ((q : Place) → (label_at (at_start labels) q).mask ≤ place_limit q) →
    SkippedTo base region labels real (after Save labels) (saved real)
unfolding saved
entered_to base region labels real limits tags = record {
  kept = refl;
  label_kept = refl;
  same = λ q iq dq. same q;
  registers = refl;
  memory = refl;
  limits = saved_limits;
  label_limits = saved_tags;
}
  where
    same : (q : Place) →
        SamePlace base q (at_start labels) real none_held (at_start (after Save labels))
        (record real { kept = real.registers }) none_held
    same (Register q) = (refl, refl)
    same (Byte q) = (refl, refl)
    same First = (refl, refl)
    same Second = (refl, refl)

    saved_limits : (q : Place) → at_place base (record real { kept = real.registers }) none_held q ≤ place_limit q
    saved_limits (Register q) = limits (Register q)
    saved_limits (Byte q) = limits (Byte q)
    saved_limits First = limits First
    saved_limits Second = limits Second

    saved_tags : (q : Place) → (label_at (at_start (after Save labels)) q).mask ≤ place_limit q
    saved_tags (Register q) = tags (Register q)
    saved_tags (Byte q) = tags (Byte q)
    saved_tags First = tags First
    saved_tags Second = tags Second

module _ (side : NamedSide) (skip : List ℕ) (regions : List Region) (masks : Masks) (setting : Setting)
    (secret other : List ℕ) (bytes : AreBytes secret) (others : AreBytes other)
    (public_bytes : AreBytes setting.public_input) (small_start : setting.start_break < 2 ^ 32)
    (skips : SkipsRelays side skip regions) (proper : ProperTurnsLaw) where
  -- ---- the entry

  pub skip_enters : (control : Control) (labels : LabelMap) (answers : List ℕ) (real copy : Store)
      (past all : List Point) (region : Region) → control.mode ≡ Ran → kind_of regions control ≡ Enters region →
      is_listed skip region.id ≡ true → region_numbered regions region.id ≡ Some region → control.region ≡ 0 →
      range_break region real.registers setting.base ≡ None →
      Stands side skip regions setting.base control labels real copy past all →
      CoveredTurn side skip masks region.id (at_start labels) answers all
      (walked setting secret (entry region control) real none_held) →
      Skips side skip regions setting.base
      (real_end (walked setting secret (entry region control) real none_held)).control control
      (labels_in (at_start labels) answers (walked setting secret (entry region control) real none_held))
      (real_end (walked setting secret (entry region control) real none_held)).store copy past
      (passed all (walked setting secret (entry region control) real none_held))
  skip_enters control labels answers real copy past all region ran kind skipped numbered zeroth unbroken at covered =
      let walk = walked setting secret (entry region control) real none_held in
      let starts = same_starts side setting secret region.id (at_start labels) answers real none_held copy none_held
      at.beside region.ranges (Saves (Ends (entered region.id control))) covered.looks in
      let none = ranges_unbroken region real.registers setting.base unbroken in
      let end = entry_end setting secret real none_held region control in
      let tags = entry_labels setting secret real none_held region control (at_start labels) answers in
      let new = entered region.id control in
      let to : SkippedTo setting.base region labels real (after Save labels) (saved real) =
      entered_to setting.base region labels real at.beside.real_limits at.beside.label_limits in
      let stands : Skips side skip regions setting.base new control (after Save labels) (saved real) copy past all =
      record {
        region = region;
        before = labels;
        entry = real;
        beside = at.beside;
        counts = at.counts;
        skipped = skipped;
        numbered = subst (λ r. region_numbered regions r ≡ Some region) (sym (entered_region region.id control))
            numbered;
        to = to;
        starts = starts;
        inside = inside_at_entry region real.registers setting.base none;
        none = sym (outside_same region real.registers copy.registers setting.base starts) ∙ none;
        quiet = same_inside_refl new;
        ran = entered_mode region.id control ∙ ran;
        entry_ran = ran;
        kind = kind;
        nowhere = zeroth;
        small_break = subst (λ b. b < 2 ^ 32) (sym (entered_break region.id control)) at.small_break;
      } in
      subst (λ (s : State). Skips side skip regions setting.base s.control control
      (labels_in (at_start labels) answers walk) s.store copy past (passed all walk)) (sym end)
      (subst (λ m. Skips side skip regions setting.base new control m (saved real) copy past (passed all walk))
      (sym tags)
      (subst (λ p. Skips side skip regions setting.base new control (after Save labels) (saved real) copy past p)
      (sym (entry_passed setting secret real none_held region control all)) stands))

  -- ---- a turn inside

  inside_guest : (control entered_by : Control) (labels : LabelMap) (real copy : Store) (past all : List Point) →
      Skips side skip regions setting.base control entered_by labels real copy past all →
      IsProperGuest (state_of setting secret control real)
  inside_guest control entered_by labels real copy past all at = record {
    store = record {
      registers = λ r. let limit = at.to.limits (Register r) in omega (arith, limit);
      kept = λ r. kept r;
      memory = λ i. byte i;
    };
    secret = bytes;
    public_input = public_bytes;
    start_break = small_start;
    current_break = at.small_break;
  }
    where
      kept : (r : ℕ) → slice_index real.kept r < 2 ^ 32
      kept r =
          let limit : slice_index real.kept r ≤ 4294967295 =
          subst (λ xs. slice_index xs r ≤ 4294967295) (sym at.to.kept) (at.beside.real_limits (Register r)) in
          omega (arith, limit)

      byte : (i : ℕ) → slice_index real.memory i < 256
      byte i =
          let limit : slice_index real.memory (setting.base + i - setting.base) ≤ 255 =
          at.to.limits (Byte (setting.base + i)) in
          let same : setting.base + i - setting.base ≡ i = omega arith in
          let here : slice_index real.memory i ≤ 255 = subst (λ k. slice_index real.memory k ≤ 255) same limit in
          omega (arith, here)

  pub skip_steps : (control entered_by : Control) (labels : LabelMap) (answers : List ℕ) (real copy : Store)
      (past all : List Point) (at : Skips side skip regions setting.base control entered_by labels real copy past all) →
      walk_break at.region real.kept control.pc (walked setting secret
      (turn_of setting control) real none_held) ≡ None →
      (real_end (walked setting secret (turn_of setting control) real none_held)).control.mode ≡ Ran →
      EachAnswer IsSoundAnswer (at_start labels) answers
      (walked setting secret (turn_of setting control) real none_held) →
      Skips side skip regions setting.base
      (real_end (walked setting secret (turn_of setting control) real none_held)).control entered_by
      (labels_in (at_start labels) answers (walked setting secret (turn_of setting control) real none_held))
      (real_end (walked setting secret (turn_of setting control) real none_held)).store copy past
      (passed all (walked setting secret (turn_of setting control) real none_held))
  skip_steps control entered_by labels answers real copy past all at unbroken ran sound =
      let turn = turn_of setting control in
      let region = at.region in
      let is = proper_turn side skip regions masks setting secret other bytes others public_bytes small_start skips
      proper
      control real (inside_guest control entered_by labels real copy past all at) in
      let alone = real_ends setting secret bytes control.region turn (at_start labels) answers real none_held is
      at.to.limits at.to.label_limits sound in
      let on : has_exited control.mode ≡ false = ap (λ m. has_exited m) at.ran in
      let quiet = step_quiet region real.kept control.pc (state_of setting secret control real) on unbroken in
      let slots = step_slots region real.kept control.pc (state_of setting secret control real) unbroken in
      let here : control.region ≡ region.id = at.quiet.region ∙ entered_region region.id entered_by in
      let stands : is_listed skip control.region ≡ true = subst (λ r. is_listed skip r ≡ true) (sym here) at.skipped in
      record {
        region = region;
        before = at.before;
        entry = at.entry;
        beside = at.beside;
        counts = λ p never. at.counts p never ∙ sym (alone.inner skip stands slots all p never);
        skipped = at.skipped;
        numbered = subst (λ r. region_numbered regions r ≡ Some region) (sym alone.ends.same_region) at.numbered;
        to = record {
          kept = alone.ends.same_kept ∙ at.to.kept;
          label_kept = alone.kept ∙ at.to.label_kept;
          same = λ q iq dq.
              let early = at.to.same q iq dq in
              let declared_now : declared region real.kept q ≡ false =
              subst (λ xs. declared region xs q ≡ false) (sym at.to.kept) dq in
              let late = alone.same region real.kept control.pc unbroken q iq declared_now in
              (late.0 ∙ early.0, late.1 ∙ early.1);
          registers = alone.registers ∙ at.to.registers;
          memory = alone.memory ∙ at.to.memory;
          limits = alone.limits;
          label_limits = alone.label_limits;
        };
        starts = at.starts;
        inside = at.inside;
        none = at.none;
        quiet = same_inside_later (entered region.id entered_by) control _ at.quiet quiet;
        ran = ran;
        entry_ran = at.entry_ran;
        kind = at.kind;
        nowhere = at.nowhere;
        small_break = alone.ends.small_break;
      }

  -- ---- the leave

  pub skip_leaves : (control entered_by : Control) (labels : LabelMap) (answers : List ℕ) (real copy : Store)
      (past all : List Point) (at : Skips side skip regions setting.base control entered_by labels real copy past all) →
      control.pc ≡ at.region.leave → HasRules at.region → is_listed skip 0 ≡ false →
      keep_break at.region real.kept real.registers ≡ None →
      CoveredTurn side skip masks 0 (at_start labels) answers all
      (walked setting secret (leave at.region real.kept control) real none_held) →
      Stood side skip regions masks setting other entered_by labels answers
      (walked setting secret (leave at.region real.kept control) real none_held) copy past all
  skip_leaves control entered_by labels answers real copy past all at pc rules outside unbroken covered =
      let enclosures : Enclosures = record { regions = regions; skip = skip } in
      let region = at.region in
      let walk = walked setting secret (leave region real.kept control) real none_held in
      let alike = same_control control entered_by region.leave region.id at.quiet at.ran at.entry_ran at.nowhere pc in
      let here : control.region ≡ region.id = at.quiet.region ∙ entered_region region.id entered_by in
      let relay : side.relay region.id ≡ true =
      subst (λ r. side.relay r ≡ true) here (sym (skips control.region region at.numbered)
      ∙ subst (λ r. is_listed skip r ≡ true) (sym here) at.skipped) in
      let inside = subst (λ xs. are_inside region.ranges xs setting.base ≡ true) (sym at.to.kept) at.inside in
      let starts = subst (λ xs. SameStarts region.ranges xs copy.registers) (sym at.to.kept) at.starts in
      let kept = skip_kept side skip masks setting secret other 0 region relay at.before labels at.entry real copy
      at.beside at.to rules.outs rules.keeps inside unbroken starts control entered_by alike answers past all at.counts
      covered in record {
        store = kept.store;
        uses =
            ap (λ k. feed (replay_inside (kind_outside_range k
            (state_of setting other entered_by copy)) enclosures masks
            (placed setting other entered_by copy past)) (crossing masks past walk)) at.kind
            ∙ ap (λ o. feed (replay_inside (outside_of region o) enclosures masks
            (placed setting other entered_by copy past)) (crossing masks past walk)) at.none
            ∙ ap (λ k. feed (replayed masks past (replay_kind_walk enclosures k
            (state_of setting other entered_by copy))) (crossing masks past walk)) at.kind
            ∙ ap (λ t. feed (replayed masks past (if t
            then walked setting other (skip_turn region copy.registers entered_by) copy none_held
            else walked setting other (entry region entered_by) copy none_held)) (crossing masks past walk)) at.skipped
            ∙ kept.uses;
        stands = left_stands side skip regions masks setting secret other control labels answers real copy past all
            region
            (walked setting other (skip_turn region copy.registers entered_by) copy none_held) outside at.small_break
            (λ r. subst (λ xs. slice_index xs r ≤ 4294967295) (sym at.to.kept)
            (at.beside.real_limits (Register r))) kept;
      }
