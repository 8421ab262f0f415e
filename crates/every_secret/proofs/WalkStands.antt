-- Between two turns: how the replay and the walk stand beside the real run outside of skipped regions, and that the turn of
-- an instruction keeps it so.
use Rattle.std.proofs.Common.{◌≡◌, ℕ, ◌+◌, ◌%◌, ◌^◌, ◌<◌, ◌≤◌, ◌⊎◌, inl, inr, true, false, List, [], ◌∷◌, ◌++◌, Bool, length}
use Rattle.std.proofs.Common.{Option, Some, None, refl, sym, ap, ap₂, subst, ◌∙◌, arith}
use Rattle.std.specs.Prelude.{◌==◌, if◌then◌else◌, slice_index}
use Rattle.std.proofs.lemmas.Bool.{eqb-true}
use Rattle.flow_base.specs.declared.points.Point.{Point}
use Rattle.crossing_bits.specs.Askers.{Asker, Over, feed, Fed'}
use Rattle.enclosure_regions.specs.declared.region_parts.Region.{Region}
use Rattle.enclosure_regions.specs.declared.region_parts.Range.{Range}
use Rattle.enclosure_regions.specs.Breaks.{keep_break, outside_range, range_break}
use Rattle.enclosure_regions.specs.Turns.{base_value}
use Rattle.rv32im_machine.specs.declared.language.Place.TheVariants.{Register}
use Rattle.rv32im_machine.specs.declared.stepping.Stepped.TheVariants.{Ran}
use Rattle.rv32im_machine.specs.Folds.{real_end}
use Rattle.rv32im_machine.specs.Rows.{running}
use Rattle.rv32im_machine.specs.State.{Control, Setting, State, Store, entered, saved}
use Rattle.rv32im_machine.specs.Language.{Turn, Saves, Ends, Walk}
use Rattle.rv32im_machine.specs.Language.{walked, none_held}
use Rattle.region_machine.specs.Enclosures.{Enters, Leaves, Steps, kind_of, region_numbered}
use Rattle.region_machine.specs.Guests.{entry, leave, looks, looks_at, skip as skip_turn}
use Rattle.region_machine.specs.Runs.{passed}
use Rattle.replay_machine.specs.ReplayTurns.{entry_walk, kind_outside_range, outside_of, replay_kind_walk}
use Rattle.replay_machine.specs.Runs.{replay_inside, replay_turn, replayed}
use Rattle.lockstep_replay.specs.Crossing.{crossing}
use Rattle.lockstep_replay.specs.Tasks.{Task}
use Rattle.lockstep_replay.specs.Verdicts.{counted_bits}
use Rattle.shadow_masks.specs.Writes.{LabelMap, Save, after}
use Rattle.run_labels.specs.TurnLabels.{at_start}
use Rattle.acceptance_law.specs.Inputs.{AreBytes, IsProperGuest, IsProper}
use Rattle.acceptance_law.specs.ProperLaws.{ProperTurnsLaw}
use Rattle.acceptance_law.proofs.StepsKeepStanding.{HasRules, InsideBeside, Stands, kept_moved, placed, state_of}
use Rattle.acceptance_law.proofs.Entering.{SameStarts, entry_crossing, entry_end, entry_passed, entry_replayed, outside_same}
use Rattle.acceptance_law.proofs.RegionTurns.{entered_break, entered_region, leave_end, ranges_unbroken}
use Rattle.acceptance_law.proofs.RegionTurns.{stands_entered, stands_left}
use Rattle.masked_turns.specs.declared.uses.SecretLook.TheVariants.{BaseRegister}
use Rattle.masked_turns.specs.Clearing.{Cutting}
use Rattle.acceptance_law.proofs.Unchanged.{EndsProper}
use Rattle.acceptance_law.proofs.WritesKeepRelation.{Beside, close_equal}
use Rattle.masked_turns.proofs.GuestStates.{guest_within}
use Rattle.masked_turns.proofs.OutsideMasks.{AreSmall, everything}
use Rattle.masked_turns.proofs.StepEnds.{step_ends}
use Rattle.every_secret.specs.AnyPublic.{AreSeenAs}
use Rattle.every_secret.specs.Masked.{Goes, MaskedPlace, Reached, masked, unless_met, unclear_by_look}
use Rattle.every_secret.specs.Rules.{AreSoundRules, Rules}
use Rattle.every_secret.specs.Turns.{cutting_of, kind_turn, masked_turn, secret_base, secret_or, turn_from, turn_inside}
use Rattle.every_secret.specs.Listed.{AgreeEach}
use Rattle.every_secret.proofs.Alike.{running_alike, seeing, with_output}
use Rattle.every_secret.proofs.WalkKeeps.{AlikeControl, IsMet, KeptPart, Outcome, kept_of, knows}
use Rattle.every_secret.proofs.WalkKeeps.{turn_walks}
use Rattle.every_secret.proofs.WalkLeaves.{alike_entered, leave_walks}
use Rattle.flow_base.specs.Listed.{is_listed}

-- ---- between two turns

-- where a walk stands, whose control is this
abbrev pub walking_at : Setting → List ℕ → Control → Store → List Point → LabelMap → ℕ → List ℕ → ℕ → MaskedPlace
walking_at setting other shown copy past labels crossed masks mask = record {
  state = state_of setting other shown copy;
  past = past;
  labels = labels;
  crossed = crossed;
  byte_masks = masks;
  status_mask = mask;
}

-- ---- the entry

base_clear : (register : ℕ) (labels : LabelMap) (later : Option ℕ) → secret_or (Some register) labels later ≡ None →
    ((labels.registers register).mask ≡ 0) × (later ≡ None)
base_clear register labels later e = pick ((labels.registers register).mask == 0) refl e
  where
    pick : (t : Bool) → ((labels.registers register).mask == 0) ≡ t → (if t then later else Some register) ≡ None →
        ((labels.registers register).mask ≡ 0) × (later ≡ None)
    pick true is none = (eqb-true (labels.registers register).mask 0 is, none)
    pick false is none = absurd (cc)

-- where no base register may differ the ranges start at the same addresses
pub clear_starts : (base : ℕ) (labels : LabelMap) (real copy : Store) →
    Beside everything base (at_start labels) real none_held copy none_held → (ranges : List Range) →
    secret_base ranges labels ≡ None → SameStarts ranges real.registers copy.registers
unfolding secret_base
clear_starts base labels real copy beside [] none = tt
clear_starts base labels real copy beside (range ∷ ranges) none =
    let parts = one range.base none in (
      ap (λ b. (b + range.offset) % 2 ^ 32) parts.0,
      clear_starts base labels real copy beside ranges parts.1,
    )
  where
    one : (from : Option ℕ) → secret_or from labels (secret_base ranges labels) ≡ None →
        (base_value real.registers from ≡ base_value copy.registers from) × (secret_base ranges labels ≡ None)
    one None clear = (refl, clear)
    one (Some register) clear =
        let both = base_clear register labels (secret_base ranges labels) clear in
        (close_equal everything (labels.registers register) _ _ both.0 (beside.places (Register register) tt), both.1)

-- and the walk meets nothing in its looks
looks_masked : (rules : Rules) (cutting : Cutting) (number : ℕ) (setting : Setting) (other : List ℕ) (past : List Point)
    (labels : LabelMap) (crossed : ℕ) (masks : List ℕ) (mask : ℕ) (turn : Turn) (copy : Store) (ranges : List Range) →
    secret_base ranges labels ≡ None →
    masked rules cutting number (knows past (at_start labels) crossed masks mask)
    (walked setting other (looks ranges turn) copy none_held)
    ≡ masked rules cutting number (knows past (at_start labels) crossed masks mask)
    (walked setting other turn copy none_held)
unfolding looks walked masked secret_base
looks_masked rules cutting number setting other past labels crossed masks mask turn copy [] none = refl
looks_masked rules cutting number setting other past labels crossed masks mask turn copy (range ∷ ranges) none =
    one range.base none (λ clear.
    looks_masked rules cutting number setting other past labels crossed masks mask turn copy ranges clear)
  where
    one : (from : Option ℕ) → secret_or from labels (secret_base ranges labels) ≡ None →
        (secret_base ranges labels ≡ None → (masked rules cutting number (knows past (at_start labels) crossed masks mask)
        (walked setting other (looks ranges turn) copy none_held)) ≡ (masked rules cutting number (knows past (at_start labels) crossed masks mask)
        (walked setting other turn copy none_held))) →
        (masked rules cutting number (knows past (at_start labels) crossed masks mask)
        (walked setting other (looks_at from (looks ranges turn)) copy none_held)) ≡ (masked rules cutting number (knows past (at_start labels) crossed masks mask)
        (walked setting other turn copy none_held))
    one None clear later = later clear
    one (Some register) clear later =
        let both = base_clear register labels (secret_base ranges labels) clear in
        ap (λ m. unless_met (unclear_by_look (if m == 0 then None else Some (BaseRegister number register)))
        (masked rules cutting number (knows past (at_start labels) crossed masks mask)
        (walked setting other (looks ranges turn) copy none_held))) both.0
        ∙ later both.1

entry_masked : (rules : Rules) (cutting : Cutting) (number : ℕ) (setting : Setting) (other : List ℕ) (past : List Point)
    (labels : LabelMap) (crossed : ℕ) (masks : List ℕ) (mask : ℕ) (region : Region) (shown : Control) (copy : Store) →
    secret_base region.ranges labels ≡ None →
    masked rules cutting number (knows past (at_start labels) crossed masks mask)
    (walked setting other (entry region shown) copy none_held)
    ≡ Over (Goes (walking_at setting other (entered region.id shown) (saved copy) past (after Save labels) crossed masks
    mask))
unfolding walked masked
entry_masked rules cutting number setting other past labels crossed masks mask region shown copy none =
    looks_masked rules cutting number setting other past labels crossed masks mask
    (Saves (Ends (entered region.id shown))) copy region.ranges none

module _ (rules : Rules) (sound : AreSoundRules rules) (task : Task) (setting : Setting) (seen secret other : List ℕ)
    (bytes : AreBytes secret) (others : AreBytes other) (public : AreSeenAs rules.public seen setting.public_input)
    (small_start : setting.start_break < 2 ^ 32) (small : AreSmall task.masks) (proper : ProperTurnsLaw) where
  -- what the walk sees
  abbrev pub sees : Setting
  sees = seeing setting seen

  -- the walk stands beside the real run, or so does the replay; these masks are the walk's
  abbrev pub At : Control → LabelMap → Store → Store → List Point → Type 0
  At control labels real copy past =
      Stands everything task.enclosures.skip task.enclosures.regions setting.base control labels real copy past past

  -- after a turn, in which the walk has met nothing, and before which the replay had this store
  pub record HasWalked (control : Control) (here : MaskedPlace) (walk : Walk) (twin : Store) (past : List Point) :
      Type 0 where
    pub chosen : List Bool
    pub place : MaskedPlace
    pub new_twin : Store
    pub goes : (more : List Bool) → feed (masked_turn rules task here) (chosen ++ more) ≡ Fed' (Goes place) more
    pub uses : feed (replay_turn task.enclosures task.masks (placed setting other control twin past))
        (crossing task.masks past walk)
        ≡ Fed' (placed setting other (real_end walk).control new_twin (passed past walk)) []
    pub past_after : place.past ≡ passed past walk
    pub count : counted_bits place.crossed ≡ counted_bits (here.crossed + length (crossing task.masks past walk))
    pub setting_after : place.state.setting ≡ sees
    pub secret_after : place.state.secret ≡ other
    pub control_after : AlikeControl place.byte_masks place.status_mask (real_end walk).control place.state.control
    pub stands : At (real_end walk).control place.labels (real_end walk).store place.state.store (passed past walk)
    pub also : At (real_end walk).control place.labels (real_end walk).store new_twin (passed past walk)

  abbrev pub Turned : Control → MaskedPlace → Walk → Store → List Point → Type 0
  Turned control here walk twin past =
      IsMet (masked_turn rules task here) ⊎ HasWalked control here walk twin past

  guest_of : (control : Control) (labels : LabelMap) (real copy : Store) (past : List Point) →
      At control labels real copy past → IsProperGuest (state_of setting secret control real)
  guest_of control labels real copy past at =
      guest_within setting secret control real bytes public.bytes small_start at.small_break at.beside.real_limits
      at.kept_words

  -- ---- a step

  pub step_walks : (control : Control) (output written : List ℕ) (labels : LabelMap) (real copy twin : Store)
      (past : List Point) (crossed : ℕ) (masks : List ℕ) (mask : ℕ) (found : Option Region) →
      AgreeEach masks output written →
      kind_of task.enclosures.regions (with_output control output Ran) ≡ Steps found →
      At (with_output control output Ran) labels real copy past →
      At (with_output control output Ran) labels real twin past →
      Turned (with_output control output Ran)
      (walking_at sees other (with_output control written Ran) copy past labels crossed masks mask)
      (walked setting secret (running setting (with_output control output Ran)) real none_held) twin past
  step_walks control output written labels real copy twin past crossed masks mask found agree kind at also =
      turned (turn_walks rules sound (cutting_of task (Steps found)) small setting seen secret other bytes others 0
      control.region refl (running_alike rules.public mask masks output written agree setting seen public control)
      (at_start labels) crossed real none_held copy none_held twin none_held past is at.beside also.beside)
    where
      here : Control
      here = with_output control output Ran

      turn : Turn
      turn = running setting here

      walk : Walk
      walk = walked setting secret turn real none_held

      is : IsProper setting.base control.region turn
      is = proper (state_of setting secret here real) (guest_of here labels real copy past at)

      place : MaskedPlace
      place = walking_at sees other (with_output control written Ran) copy past labels crossed masks mask

      asks : masked_turn rules task place
          ≡ masked rules (cutting_of task (Steps found)) 0 (knows past (at_start labels) crossed masks mask)
          (walked sees other (running sees (with_output control written Ran)) copy none_held)
      asks = ap (λ k. kind_turn rules task k place) kind

      alone : EndsProper setting secret control.region real.kept (real_end walk)
      alone = (step_ends setting secret bytes control.region turn real none_held is at.beside.real_limits).ends

      turned : Outcome setting sees other
          (masked rules (cutting_of task (Steps found)) 0 (knows past (at_start labels) crossed masks mask)
          (walked sees other (running sees (with_output control written Ran)) copy none_held)) crossed
          (real_end walk) (passed past walk) (crossing task.masks past walk)
          (replayed task.masks past (walked setting other turn twin none_held)) (kept_of copy labels twin) →
          Turned here place walk twin past
      turned (inl met) = inl (subst (λ asker. IsMet asker) (sym asks) met)
      turned (inr along) =
          let same = alone.same_region in
          let stays : (store changed : Store) → changed.kept ≡ store.kept →
          Beside everything setting.base (at_start along.place.labels) (real_end walk).store none_held changed none_held →
          At here labels real store past →
          At (real_end walk).control along.place.labels (real_end walk).store changed (passed past walk) =
          λ store changed kept beside old. record {
            beside = beside;
            counts = λ point never. refl;
            runs = subst (λ r. is_listed task.enclosures.skip r ≡ false) (sym same) old.runs;
            nowhere = λ none. same
                ∙ old.nowhere (subst (λ r. region_numbered task.enclosures.regions r ≡ None) same none);
            inside = λ region is_in. kept_moved everything setting.base region labels _ real _ store _
                (ap (λ (part : KeptPart). part.labels) along.kept) alone.same_kept kept
                (old.inside region (subst (λ r. region_numbered task.enclosures.regions r ≡ Some region) same is_in));
            small_break = alone.small_break;
            kept_words = λ r. subst (λ xs. slice_index xs r ≤ 4294967295) (sym alone.same_kept) (old.kept_words r);
          } in
          inr (record {
            chosen = along.chosen;
            place = along.place;
            new_twin = along.twin;
            goes = λ more. ap (λ asker. feed asker (along.chosen ++ more)) asks ∙ along.goes more;
            uses = ap (λ k. feed (replay_inside (kind_outside_range k (state_of setting other here twin)) task.enclosures
                task.masks (placed setting other here twin past)) (crossing task.masks past walk)) kind
                ∙ ap (λ k. feed (replayed task.masks past (replay_kind_walk task.enclosures k
                (state_of setting other here twin))) (crossing task.masks past walk)) kind
                ∙ along.uses;
            past_after = along.past_after;
            count = along.count;
            setting_after = along.setting_after;
            secret_after = along.secret_after;
            control_after = along.control;
            stands = stays copy along.place.state.store (ap (λ (part : KeptPart). part.values) along.kept) along.beside at;
            also = stays twin along.twin (ap (λ (part : KeptPart). part.twins) along.kept) along.also also;
          })

  -- ---- the entry of a region that is not skipped

  pub entry_walks : (control : Control) (output written : List ℕ) (labels : LabelMap) (real copy twin : Store)
      (past : List Point) (crossed : ℕ) (masks : List ℕ) (mask : ℕ) (region : Region) → AgreeEach masks output written →
      kind_of task.enclosures.regions (with_output control output Ran) ≡ Enters region →
      is_listed task.enclosures.skip region.id ≡ false →
      region_numbered task.enclosures.regions region.id ≡ Some region →
      range_break region real.registers setting.base ≡ None → At (with_output control output Ran) labels real copy past →
      At (with_output control output Ran) labels real twin past →
      Turned (with_output control output Ran)
      (walking_at sees other (with_output control written Ran) copy past labels crossed masks mask)
      (walked setting secret (entry region (with_output control output Ran)) real none_held) twin past
  entry_walks control output written labels real copy twin past crossed masks mask region agree kind unskipped numbered
      unbroken at also = pick (secret_base region.ranges labels) refl
    where
      here : Control
      here = with_output control output Ran

      shown : Control
      shown = with_output control written Ran

      walk : Walk
      walk = walked setting secret (entry region here) real none_held

      place : MaskedPlace
      place = walking_at sees other shown copy past labels crossed masks mask

      cutting : Cutting
      cutting = cutting_of task (Enters region)

      inside_walk : Asker Reached
      inside_walk =
          masked rules cutting region.id (knows past (at_start labels) crossed masks mask)
          (entry_walk task.enclosures region (state_of sees other shown copy))

      asks : (found : Option ℕ) → secret_base region.ranges labels ≡ found →
          masked_turn rules task place
          ≡ turn_from found region.id
          (turn_inside (outside_of region (outside_range region copy.registers setting.base)) inside_walk)
      asks found e =
          ap (λ k. kind_turn rules task k place) kind
          ∙ ap (λ b. turn_from b region.id
          (turn_inside (outside_of region (outside_range region copy.registers setting.base)) inside_walk)) e

      none : outside_range region real.registers setting.base ≡ None
      none = ranges_unbroken region real.registers setting.base unbroken

      new : Control
      new = entered region.id here

      goes_in : secret_base region.ranges labels ≡ None → HasWalked here place walk twin past
      goes_in clear =
          let starts = clear_starts setting.base labels real copy at.beside region.ranges clear in
          let twin_starts = clear_starts setting.base labels real twin also.beside region.ranges clear in
          let none_copy : outside_range region copy.registers setting.base ≡ None =
          sym (outside_same region real.registers copy.registers setting.base starts) ∙ none in
          let none_twin : outside_range region twin.registers setting.base ≡ None =
          sym (outside_same region real.registers twin.registers setting.base twin_starts) ∙ none in
          let end = entry_end setting secret real none_held region here in
          let no_bits = entry_crossing setting secret real none_held region here task.masks past in
          let passed_here = entry_passed setting secret real none_held region here past in
          let goes_beside : (store : Store) → SameStarts region.ranges real.registers store.registers →
          At here labels real store past →
          At (real_end walk).control (after Save labels) (real_end walk).store (saved store) (passed past walk) =
          λ store same old.
          subst (λ (s : State). At s.control (after Save labels) s.store (saved store) (passed past walk)) (sym end)
          (subst (λ p. At new (after Save labels) (saved real) (saved store) p) (sym passed_here)
          (stands_entered everything task.enclosures.skip task.enclosures.regions setting.base here labels real store past
          past region unskipped numbered same none old)) in record {
            chosen = [];
            place = walking_at sees other (entered region.id shown) (saved copy) past (after Save labels) crossed masks
                mask;
            new_twin = saved twin;
            goes = λ more. ap (λ asker. feed asker more)
                (asks None clear
                ∙ ap (λ o. turn_inside (outside_of region o) inside_walk) none_copy
                ∙ ap (λ t. masked rules cutting region.id (knows past (at_start labels) crossed masks mask) (if t
                then walked sees other (skip_turn region copy.registers shown) copy none_held
                else walked sees other (entry region shown) copy none_held)) unskipped
                ∙ entry_masked rules cutting region.id sees other past labels crossed masks mask region shown copy
                clear);
            uses =
                ap (λ k. feed (replay_inside (kind_outside_range k (state_of setting other here twin)) task.enclosures
                task.masks (placed setting other here twin past)) (crossing task.masks past walk)) kind
                ∙ ap (λ o. feed (replay_inside (outside_of region o) task.enclosures task.masks
                (placed setting other here twin past)) (crossing task.masks past walk)) none_twin
                ∙ ap (λ k. feed (replayed task.masks past (replay_kind_walk task.enclosures k
                (state_of setting other here twin))) (crossing task.masks past walk)) kind
                ∙ ap (λ t. feed (replayed task.masks past (if t
                then walked setting other (skip_turn region twin.registers here) twin none_held
                else walked setting other (entry region here) twin none_held)) (crossing task.masks past walk)) unskipped
                ∙ ap (λ a. feed a (crossing task.masks past walk))
                (entry_replayed setting other twin none_held region here task.masks past)
                ∙ ap₂ (λ bits p. Fed' (placed setting other new (saved twin) p) bits) no_bits (sym passed_here)
                ∙ ap (λ (s : State). Fed' (placed setting other s.control (saved twin) (passed past walk)) []) (sym end);
            past_after = sym passed_here;
            count = ap (λ n. counted_bits n) (omega arith)
                ∙ ap (λ (bits : List Bool). counted_bits (crossed + length bits)) (sym no_bits);
            setting_after = refl;
            secret_after = refl;
            control_after = subst (λ (s : State). AlikeControl masks mask s.control (entered region.id shown)) (sym end)
                (alike_entered region.id masks mask here shown (record { output = agree; mode = tt; same = refl }));
            stands = goes_beside copy starts at;
            also = goes_beside twin twin_starts also;
          }

      pick : (found : Option ℕ) → secret_base region.ranges labels ≡ found → Turned here place walk twin past
      pick None e = inr (goes_in e)
      pick (Some register) e =
          inl (record { chosen = []; why = _; meets = λ more. ap (λ asker. feed asker more) (asks (Some register) e) })

  -- ---- the leave of a region that was run

  pub leave_turn : (control : Control) (output written : List ℕ) (labels : LabelMap) (real copy twin : Store)
      (past : List Point) (crossed : ℕ) (masks : List ℕ) (mask : ℕ) (region : Region) → AgreeEach masks output written →
      kind_of task.enclosures.regions (with_output control output Ran) ≡ Leaves region →
      region_numbered task.enclosures.regions control.region ≡ Some region → HasRules region →
      is_listed task.enclosures.skip 0 ≡ false → keep_break region real.kept real.registers ≡ None →
      At (with_output control output Ran) labels real copy past →
      At (with_output control output Ran) labels real twin past →
      Turned (with_output control output Ran)
      (walking_at sees other (with_output control written Ran) copy past labels crossed masks mask)
      (walked setting secret (leave region real.kept (with_output control output Ran)) real none_held) twin past
  leave_turn control output written labels real copy twin past crossed masks mask region agree kind numbered are_rules
      outside unbroken at also =
      turned (leave_walks rules (cutting_of task (Leaves region)) small setting seen secret other 0 region here shown labels
      crossed masks mask real copy twin past are_rules.outs are_rules.keeps known.inside known.starts also_known.starts
      unbroken known.kept also_known.kept at.beside also.beside (record { output = agree; mode = tt; same = refl }))
    where
      here : Control
      here = with_output control output Ran

      shown : Control
      shown = with_output control written Ran

      walk : Walk
      walk = walked setting secret (leave region real.kept here) real none_held

      place : MaskedPlace
      place = walking_at sees other shown copy past labels crossed masks mask

      known : InsideBeside everything setting.base region labels real copy
      known = at.inside region numbered

      also_known : InsideBeside everything setting.base region labels real twin
      also_known = also.inside region numbered

      asks : masked_turn rules task place
          ≡ masked rules (cutting_of task (Leaves region)) 0 (knows past (at_start labels) crossed masks mask)
          (walked sees other (leave region copy.kept shown) copy none_held)
      asks = ap (λ k. kind_turn rules task k place) kind

      turned : Outcome setting sees other
          (masked rules (cutting_of task (Leaves region)) 0 (knows past (at_start labels) crossed masks mask)
          (walked sees other (leave region copy.kept shown) copy none_held)) crossed
          (real_end walk) (passed past walk) (crossing task.masks past walk)
          (replayed task.masks past (walked setting other (leave region twin.kept here) twin none_held))
          (kept_of copy labels twin) →
          Turned here place walk twin past
      turned (inl met) = inl (subst (λ asker. IsMet asker) (sym asks) met)
      turned (inr along) =
          let end = leave_end setting secret region real.kept here real in
          let region_is = ap (λ (c : Control). c.region) end.control_is ∙ entered_region 0 here in
          let break_is = ap (λ (c : Control). c.current_break) end.control_is ∙ entered_break 0 here in
          let stays : (changed : Store) →
          Beside everything setting.base (at_start along.place.labels) (real_end walk).store none_held changed none_held →
          At (real_end walk).control along.place.labels (real_end walk).store changed (passed past walk) = λ changed beside.
          stands_left everything task.enclosures.skip task.enclosures.regions setting.base _ _ _ changed _ _ beside
          (λ point never. refl) outside region_is
          (subst (λ b. b < 2 ^ 32) (sym break_is) at.small_break)
          (λ r. subst (λ xs. slice_index xs r ≤ 4294967295) (sym end.kept_is) (at.kept_words r)) in inr (record {
            chosen = along.chosen;
            place = along.place;
            new_twin = along.twin;
            goes = λ more. ap (λ asker. feed asker (along.chosen ++ more)) asks ∙ along.goes more;
            uses = ap (λ k. feed (replay_inside (kind_outside_range k (state_of setting other here twin)) task.enclosures
                task.masks (placed setting other here twin past)) (crossing task.masks past walk)) kind
                ∙ ap (λ k. feed (replayed task.masks past (replay_kind_walk task.enclosures k
                (state_of setting other here twin))) (crossing task.masks past walk)) kind
                ∙ along.uses;
            past_after = along.past_after;
            count = along.count;
            setting_after = along.setting_after;
            secret_after = along.secret_after;
            control_after = along.control;
            stands = stays along.place.state.store along.beside;
            also = stays along.twin along.also;
          })
