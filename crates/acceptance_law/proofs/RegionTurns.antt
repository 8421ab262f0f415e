-- The entry and the leave of a region that the replay runs keep the replay beside the real run.
use Rattle.std.proofs.Common.{◌≡◌, ℕ, ◌^◌, ◌<◌, ◌≤◌, true, false, List, [], ◌∷◌}
use Rattle.std.proofs.Common.{Some, None, refl, sym, ap, ap₂, subst, ◌∙◌}
use Rattle.std.specs.Prelude.{if◌then◌else◌, slice_index}
use Rattle.flow_base.specs.declared.points.Point.{Point}
use Rattle.crossing_bits.specs.Askers.{feed, Fed'}
use Rattle.enclosure_regions.specs.declared.break_kinds.Break.TheVariants.{RangeOutside}
use Rattle.enclosure_regions.specs.declared.region_parts.Region.{Region}
use Rattle.enclosure_regions.specs.Breaks.{keep_break, outside_range, range_break}
use Rattle.rv32im_machine.specs.declared.language.Place.{Place}
use Rattle.rv32im_machine.specs.declared.language.Place.TheVariants.{Register, Byte, First, Second}
use Rattle.rv32im_machine.specs.State.{Setting, Control, Store, State, saved, entered}
use Rattle.rv32im_machine.specs.Language.{Ends, Saves, Walk, Held, none_held, walked, at_place, put, hold}
use Rattle.rv32im_machine.specs.Folds.{real_end}
use Rattle.region_machine.specs.Enclosures.{Enclosures, Enters, Leaves, kind_of, region_numbered}
use Rattle.region_machine.specs.Guests.{entry, leave, skip as skip_turn}
use Rattle.region_machine.specs.Runs.{passed}
use Rattle.region_machine.specs.Within.{are_inside}
use Rattle.region_machine.proofs.RangesStayInside.{inside_at_entry}
use Rattle.replay_machine.specs.ReplayTurns.{replay_kind_walk, kind_outside_range, outside_of}
use Rattle.replay_machine.specs.Runs.{Masks, replayed, replay_inside}
use Rattle.lockstep_replay.specs.Crossing.{crossing}
use Rattle.shadow_masks.specs.Writes.{LabelMap, after, Save}
use Rattle.run_labels.specs.TurnLabels.{label_at, at_start}
use Rattle.run_labels.specs.Traces.{labels_in}
use Rattle.acceptance_law.specs.Sides.{NamedSide}
use Rattle.acceptance_law.specs.Inputs.{IsProperPlace, place_limit}
use Rattle.acceptance_law.proofs.WritesKeepRelation.{Close, Beside, put_kept}
use Rattle.acceptance_law.proofs.Turns.{SameCounts}
use Rattle.acceptance_law.proofs.TurnsKeepRelation.{CoveredTurn, KeptTurn}
use Rattle.acceptance_law.proofs.Outputs.{Output, output_place, given}
use Rattle.acceptance_law.proofs.RegionOutputsPass.{outputs_of, gives_given}
use Rattle.acceptance_law.proofs.Entering.{SameStarts, same_starts, outside_same, entry_end, entry_passed}
use Rattle.acceptance_law.proofs.Entering.{entry_crossing, entry_replayed, entry_labels}
use Rattle.acceptance_law.proofs.Leaving.{leave_kept, none_mapped}
use Rattle.acceptance_law.proofs.StepsKeepStanding.{state_of, placed, InsideBeside, Stands, Stood, HasRules}
use Rattle.flow_base.specs.Listed.{is_listed}

-- ---- where the outputs of a region end

-- the control is that of the end, and the kept registers stay
pub record GivenEnd (control : Control) (kept : List ℕ) (state : State) : Type 0 where
  pub control_is : state.control ≡ control
  pub kept_is : state.store.kept ≡ kept

given_end : (setting : Setting) (secret : List ℕ) (region : Region) (os : List Output) (control : Control)
    (store : Store)
    (held : Held) → GivenEnd control store.kept (real_end (walked setting secret
    (given region os (Ends control)) store held))
unfolding given walked real_end
given_end setting secret region [] control store held = record { control_is = refl; kept_is = refl }
given_end setting secret region (o ∷ os) control store held =
    let place = output_place o in
    let value = at_place setting.base store held place in
    subst (λ kept. GivenEnd control kept (real_end (walked setting secret (given region os (Ends control))
    (put setting.base place value store) (hold place value held)))) (put_kept setting.base place value store)
    (given_end setting secret region os control (put setting.base place value store) (hold place value held))

pub leave_end : (setting : Setting) (secret : List ℕ) (region : Region) (registers : List ℕ) (control : Control)
    (store : Store) → GivenEnd (entered 0 control) store.kept
    (real_end (walked setting secret (leave region registers control) store none_held))
unfolding walked real_end
leave_end setting secret region registers control store =
    subst (λ t. GivenEnd (entered 0 control) store.kept (real_end (walked setting secret t store none_held)))
    (sym (gives_given region registers (Ends (entered 0 control))))
    (given_end setting secret region (outputs_of region registers) (entered 0 control) store none_held)

pub entered_region : (region : ℕ) (control : Control) → (entered region control).region ≡ region
unfolding entered
entered_region region control = refl

pub entered_break : (region : ℕ) (control : Control) → (entered region control).current_break ≡ control.current_break
unfolding entered
entered_break region control = refl

pub saved_kept : (store : Store) → (saved store).kept ≡ store.registers
unfolding saved
saved_kept store = refl

pub some_same : {A : Type 0} (x y : A) → Some x ≡ Some y → x ≡ y
some_same x y e = cc

pub saved_beside : (side : NamedSide) (base : ℕ) (labels : LabelMap) (real copy : Store) →
    Beside side base (at_start labels) real none_held copy none_held →
    Beside side base (at_start (after Save labels)) (saved real) none_held (saved copy) none_held
unfolding saved
saved_beside side base labels real copy beside = record {
  places = places;
  registers = beside.registers;
  memory = beside.memory;
  real_limits = real_limits;
  copy_limits = copy_limits;
  label_limits = label_limits;
}
  where
    places : (q : Place) → IsProperPlace base q →
        Close side (label_at (at_start (after Save labels)) q)
        (at_place base (record real { kept = real.registers }) none_held q)
        (at_place base (record copy { kept = copy.registers }) none_held q)
    places (Register q) is = beside.places (Register q) is
    places (Byte q) is = beside.places (Byte q) is
    places First is = beside.places First is
    places Second is = beside.places Second is

    real_limits : (q : Place) → at_place base (record real { kept = real.registers }) none_held q ≤ place_limit q
    real_limits (Register q) = beside.real_limits (Register q)
    real_limits (Byte q) = beside.real_limits (Byte q)
    real_limits First = beside.real_limits First
    real_limits Second = beside.real_limits Second

    copy_limits : (q : Place) → at_place base (record copy { kept = copy.registers }) none_held q ≤ place_limit q
    copy_limits (Register q) = beside.copy_limits (Register q)
    copy_limits (Byte q) = beside.copy_limits (Byte q)
    copy_limits First = beside.copy_limits First
    copy_limits Second = beside.copy_limits Second

    label_limits : (q : Place) → (label_at (at_start (after Save labels)) q).mask ≤ place_limit q
    label_limits (Register q) = beside.label_limits (Register q)
    label_limits (Byte q) = beside.label_limits (Byte q)
    label_limits First = beside.label_limits First
    label_limits Second = beside.label_limits Second

pub saved_inside : (side : NamedSide) (base : ℕ) (region : Region) (labels : LabelMap) (real copy : Store) →
    Beside side base (at_start labels) real none_held copy none_held →
    SameStarts region.ranges real.registers copy.registers → are_inside region.ranges real.registers base ≡ true →
    InsideBeside side base region (after Save labels) (saved real) (saved copy)
unfolding saved
saved_inside side base region labels real copy beside starts inside = record {
  kept = record {
    close = λ r. beside.places (Register r) tt;
    real_limit = λ r. beside.real_limits (Register r);
    copy_limit = λ r. beside.copy_limits (Register r);
    label_limit = λ r. beside.label_limits (Register r);
  };
  starts = starts;
  inside = inside;
}

-- an entry that breaks nothing finds its ranges inside guest memory
pub ranges_unbroken : (region : Region) (registers : List ℕ) (base : ℕ) → range_break region registers base ≡ None →
    outside_range region registers base ≡ None
ranges_unbroken region registers base e =
    none_mapped (λ range. RangeOutside region.id range) (outside_range region registers base) e

-- ---- the replay that stands beside the real run does so after an entry and after a leave

module _ (side : NamedSide) (skip : List ℕ) (regions : List Region) (base : ℕ) where
  pub stands_entered : (control : Control) (labels : LabelMap) (real copy : Store) (past all : List Point)
      (region : Region) → is_listed skip region.id ≡ false → region_numbered regions region.id ≡ Some region →
      SameStarts region.ranges real.registers copy.registers → outside_range region real.registers base ≡ None →
      Stands side skip regions base control labels real copy past all →
      Stands side skip regions base (entered region.id control) (after Save labels) (saved real) (saved copy) past all
  stands_entered control labels real copy past all region unskipped numbered starts none at = record {
    beside = saved_beside side base labels real copy at.beside;
    counts = at.counts;
    runs = subst (λ r. is_listed skip r ≡ false) (sym (entered_region region.id control)) unskipped;
    nowhere = λ lost.
        let found : region_numbered regions region.id ≡ None =
        subst (λ r. region_numbered regions r ≡ None) (entered_region region.id control) lost in
        absurd (cc);
    inside = λ found is_in.
        let also : region_numbered regions region.id ≡ Some found =
        subst (λ r. region_numbered regions r ≡ Some found) (entered_region region.id control) is_in in
        let same : region ≡ found = some_same region found (sym numbered ∙ also) in
        subst (λ r. InsideBeside side base r (after Save labels) (saved real) (saved copy)) same
        (saved_inside side base region labels real copy at.beside starts
        (inside_at_entry region real.registers base none));
    small_break = subst (λ b. b < 2 ^ 32) (sym (entered_break region.id control)) at.small_break;
    kept_words = λ r. subst (λ xs. slice_index xs r ≤ 4294967295) (sym (saved_kept real))
        (at.beside.real_limits (Register r));
  }

  pub stands_left : (control : Control) (labels : LabelMap) (real copy : Store) (past all : List Point) →
      Beside side base (at_start labels) real none_held copy none_held → SameCounts skip past all →
      is_listed skip 0 ≡ false → control.region ≡ 0 → control.current_break < 2 ^ 32 →
      ((register : ℕ) → slice_index real.kept register ≤ 4294967295) →
      Stands side skip regions base control labels real copy past all
  stands_left control labels real copy past all beside counts outside region_is small_break kept_words = record {
    beside = beside;
    counts = counts;
    runs = subst (λ r. is_listed skip r ≡ false) (sym region_is) outside;
    nowhere = λ none. region_is;
    inside = λ found is_in.
        let here : None ≡ Some found = subst (λ r. region_numbered regions r ≡ Some found) region_is is_in in
        absurd (cc);
    small_break = small_break;
    kept_words = kept_words;
  }

module _ (side : NamedSide) (skip : List ℕ) (regions : List Region) (masks : Masks) (setting : Setting)
    (secret other : List ℕ) where
  -- ---- the entry of a region that is not skipped

  pub entry_stands : (control : Control) (labels : LabelMap) (answers : List ℕ) (real copy : Store)
      (past all : List Point) (region : Region) → kind_of regions control ≡ Enters region →
      is_listed skip region.id ≡ false → region_numbered regions region.id ≡ Some region →
      range_break region real.registers setting.base ≡ None →
      Stands side skip regions setting.base control labels real copy past all →
      CoveredTurn side skip masks region.id (at_start labels) answers all
      (walked setting secret (entry region control) real none_held) →
      Stood side skip regions masks setting other control labels answers
      (walked setting secret (entry region control) real none_held) copy past all
  entry_stands control labels answers real copy past all region kind unskipped numbered unbroken at covered =
      let walk = walked setting secret (entry region control) real none_held in
      let enclosures : Enclosures = record { regions = regions; skip = skip } in
      let starts = same_starts side setting secret region.id (at_start labels) answers real none_held copy none_held
      at.beside region.ranges (Saves (Ends (entered region.id control))) covered.looks in
      let none = ranges_unbroken region real.registers setting.base unbroken in
      let none_copy : outside_range region copy.registers setting.base ≡ None =
      sym (outside_same region real.registers copy.registers setting.base starts) ∙ none in
      let end = entry_end setting secret real none_held region control in
      let tags = entry_labels setting secret real none_held region control (at_start labels) answers in
      let passed_here = entry_passed setting secret real none_held region control in
      let new = entered region.id control in
      let stands = stands_entered side skip regions setting.base control labels real copy past all region unskipped
      numbered starts none at in record {
        store = saved copy;
        uses =
            ap (λ k. feed (replay_inside (kind_outside_range k (state_of setting other control copy)) enclosures masks
            (placed setting other control copy past)) (crossing masks past walk)) kind
            ∙ ap (λ o. feed (replay_inside (outside_of region o) enclosures masks
            (placed setting other control copy past)) (crossing masks past walk)) none_copy
            ∙ ap (λ k. feed (replayed masks past (replay_kind_walk enclosures k (state_of setting other control copy)))
            (crossing masks past walk)) kind
            ∙ ap (λ t. feed (replayed masks past (if t
            then walked setting other (skip_turn region copy.registers control) copy none_held
            else walked setting other (entry region control) copy none_held)) (crossing masks past walk)) unskipped
            ∙ ap (λ a. feed a (crossing masks past walk))
            (entry_replayed setting other copy none_held region control masks past)
            ∙ ap₂ (λ bits p. Fed' (placed setting other new (saved copy) p) bits)
            (entry_crossing setting secret real none_held region control masks past) (sym (passed_here past))
            ∙ ap (λ (s : State). Fed' (placed setting other s.control (saved copy) (passed past walk)) []) (sym end);
        stands =
            subst (λ (s : State). Stands side skip regions setting.base s.control
            (labels_in (at_start labels) answers walk) s.store (saved copy) (passed past walk) (passed all walk))
            (sym end)
            (subst (λ m. Stands side skip regions setting.base new m (saved real) (saved copy) (passed past walk)
            (passed all walk)) (sym tags)
            (subst (λ p. Stands side skip regions setting.base new (after Save labels) (saved real) (saved copy) p
            (passed all walk)) (sym (passed_here past))
            (subst (λ p. Stands side skip regions setting.base new (after Save labels) (saved real) (saved copy) past p)
            (sym (passed_here all)) stands)));
      }

  -- ---- the leave, of a region that was run or of one that was skipped

  pub left_stands : (control : Control) (labels : LabelMap) (answers : List ℕ) (real copy : Store)
      (past all : List Point) (region : Region) (copied : Walk) → is_listed skip 0 ≡ false →
      control.current_break < 2 ^ 32 → ((register : ℕ) → slice_index real.kept register ≤ 4294967295) →
      (kept : KeptTurn side skip masks setting other (at_start labels) answers
      (walked setting secret (leave region real.kept control) real none_held) copied copy past all) →
      Stands side skip regions setting.base
      (real_end (walked setting secret (leave region real.kept control) real none_held)).control
      (labels_in (at_start labels) answers (walked setting secret (leave region real.kept control) real none_held))
      (real_end (walked setting secret (leave region real.kept control) real none_held)).store kept.store
      (passed past (walked setting secret (leave region real.kept control) real none_held))
      (passed all (walked setting secret (leave region real.kept control) real none_held))
  left_stands control labels answers real copy past all region copied outside small words kept =
      let end = leave_end setting secret region real.kept control real in
      let region_is = ap (λ (c : Control). c.region) end.control_is ∙ entered_region 0 control in
      let break_is = ap (λ (c : Control). c.current_break) end.control_is ∙ entered_break 0 control in
      stands_left side skip regions setting.base _ _ _ kept.store _ _ kept.beside kept.counts outside region_is
      (subst (λ b. b < 2 ^ 32) (sym break_is) small)
      (λ r. subst (λ xs. slice_index xs r ≤ 4294967295) (sym end.kept_is) (words r))

  pub leave_stands : (control : Control) (labels : LabelMap) (answers : List ℕ) (real copy : Store)
      (past all : List Point) (region : Region) → kind_of regions control ≡ Leaves region →
      region_numbered regions control.region ≡ Some region → HasRules region → is_listed skip 0 ≡ false →
      keep_break region real.kept real.registers ≡ None →
      Stands side skip regions setting.base control labels real copy past all →
      CoveredTurn side skip masks 0 (at_start labels) answers all
      (walked setting secret (leave region real.kept control) real none_held) →
      Stood side skip regions masks setting other control labels answers
      (walked setting secret (leave region real.kept control) real none_held) copy past all
  leave_stands control labels answers real copy past all region kind numbered rules outside unbroken at covered =
      let enclosures : Enclosures = record { regions = regions; skip = skip } in
      let walk = walked setting secret (leave region real.kept control) real none_held in
      let known = at.inside region numbered in
      let kept = leave_kept side skip masks setting secret other 0 region control labels answers real copy past all
      rules.outs rules.keeps known.inside known.starts unbroken known.kept at.beside at.counts covered in record {
        store = kept.store;
        uses =
            ap (λ k. feed (replay_inside (kind_outside_range k (state_of setting other control copy)) enclosures masks
            (placed setting other control copy past)) (crossing masks past walk)) kind
            ∙ ap (λ k. feed (replayed masks past (replay_kind_walk enclosures k (state_of setting other control copy)))
            (crossing masks past walk)) kind
            ∙ kept.uses;
        stands = left_stands control labels answers real copy past all region
            (walked setting other (leave region copy.kept control) copy none_held) outside at.small_break at.kept_words
            kept;
      }
