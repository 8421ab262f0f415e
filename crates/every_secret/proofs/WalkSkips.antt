-- A region that is skipped: while the real run is inside it the replay and the walk stand at its entry, and at its leave both
-- make the skip.
use Rattle.std.proofs.Common.{◌≡◌, ℕ, ◌^◌, ◌<◌, ◌≤◌, ◌⊎◌, inl, inr, true, false, List, [], ◌++◌}
use Rattle.std.proofs.Common.{Option, Some, None, refl, sym, ap, subst, ◌∙◌}
use Rattle.std.specs.Prelude.{if◌then◌else◌, slice_index}
use Rattle.flow_base.specs.declared.points.Point.{Point}
use Rattle.crossing_bits.specs.Askers.{Asker, feed}
use Rattle.enclosure_regions.specs.declared.region_parts.Region.{Region}
use Rattle.enclosure_regions.specs.Breaks.{keep_break, outside_range, range_break}
use Rattle.rv32im_machine.specs.declared.language.Place.TheVariants.{Register}
use Rattle.rv32im_machine.specs.declared.stepping.Stepped.TheVariants.{Ran}
use Rattle.rv32im_machine.specs.Folds.{real_end}
use Rattle.rv32im_machine.specs.Rows.{turn_in, turn_of}
use Rattle.rv32im_machine.specs.State.{Control, Setting, State, Store, entered, saved}
use Rattle.rv32im_machine.specs.Language.{Walk, none_held, walked}
use Rattle.region_machine.specs.Enclosures.{Enters, kind_of, region_numbered}
use Rattle.region_machine.specs.Guests.{entry, leave, skip as skip_turn}
use Rattle.region_machine.specs.Breaking.{walk_break}
use Rattle.region_machine.specs.Runs.{has_exited, passed}
use Rattle.region_machine.specs.Within.{are_inside}
use Rattle.region_machine.proofs.RangesStayInside.{inside_at_entry}
use Rattle.replay_machine.specs.ReplayTurns.{entry_walk, kind_outside_range, outside_of, replay_kind_walk}
use Rattle.replay_machine.specs.Runs.{replay_inside, replayed}
use Rattle.lockstep_replay.specs.Crossing.{crossing}
use Rattle.lockstep_replay.specs.Tasks.{Task}
use Rattle.shadow_masks.specs.Writes.{LabelMap, Save, after}
use Rattle.run_labels.specs.TurnLabels.{at_start}
use Rattle.acceptance_law.specs.Inputs.{AreBytes, IsProperGuest, IsProper}
use Rattle.acceptance_law.specs.ProperLaws.{ProperTurnsLaw}
use Rattle.acceptance_law.proofs.Entering.{SameStarts, entry_end, outside_same}
use Rattle.acceptance_law.proofs.RegionTurns.{entered_break, entered_region, leave_end, ranges_unbroken, stands_left}
use Rattle.acceptance_law.proofs.SkippedTurns.{entered_mode, entered_to, same_control}
use Rattle.acceptance_law.proofs.SkippedTurns.{same_inside_later, same_inside_refl}
use Rattle.acceptance_law.proofs.QuietInsideRegions.{SameInside, step_quiet}
use Rattle.acceptance_law.proofs.Unchanged.{declared}
use Rattle.acceptance_law.proofs.SkipsKeepRelation.{SkippedTo}
use Rattle.acceptance_law.proofs.StepsKeepStanding.{HasRules, placed, state_of}
use Rattle.acceptance_law.proofs.WritesKeepRelation.{Beside}
use Rattle.masked_turns.proofs.GuestStates.{guest_within}
use Rattle.masked_turns.proofs.OutsideMasks.{AreSmall, everything}
use Rattle.masked_turns.proofs.StepEnds.{step_ends}
use Rattle.every_secret.specs.Masked.{MaskedPlace, Reached, masked}
use Rattle.every_secret.specs.Rules.{AreSoundRules, Rules}
use Rattle.every_secret.specs.Turns.{cutting_of, kind_turn, masked_turn, secret_base, turn_from, turn_inside}
use Rattle.every_secret.specs.AnyPublic.{AreSeenAs}
use Rattle.every_secret.specs.Listed.{AgreeEach}
use Rattle.every_secret.proofs.Alike.{seeing, with_output}
use Rattle.every_secret.proofs.WalkKeeps.{IsMet, Outcome, kept_of, knows}
use Rattle.every_secret.proofs.WalkLeaves.{skip_walks}
use Rattle.every_secret.proofs.WalkStands.{At, Turned, clear_starts, walking_at}
use Rattle.flow_base.specs.Listed.{is_listed}

-- the real run is inside a skipped region that was entered with this control, these masks and these values
pub record Skipping (skip : List ℕ) (regions : List Region) (base : ℕ) (control entered_by : Control) (before : LabelMap)
    (real copy twin : Store) : Type 0 where
  pub region : Region
  pub entry_store : Store
  pub beside : Beside everything base (at_start before) entry_store none_held copy none_held
  pub also : Beside everything base (at_start before) entry_store none_held twin none_held
  pub skipped : is_listed skip region.id ≡ true
  pub numbered : region_numbered regions control.region ≡ Some region
  pub to : SkippedTo base region before entry_store (after Save before) real
  pub clear : secret_base region.ranges before ≡ None
  pub inside : are_inside region.ranges entry_store.registers base ≡ true
  pub none : outside_range region copy.registers base ≡ None
  pub twin_none : outside_range region twin.registers base ≡ None
  pub quiet : SameInside (entered region.id entered_by) control
  pub ran : control.mode ≡ Ran
  pub kind : kind_of regions entered_by ≡ Enters region
  pub nowhere : entered_by.region ≡ 0
  pub small_break : control.current_break < 2 ^ 32

module _ (rules : Rules) (sound : AreSoundRules rules) (task : Task) (setting : Setting) (seen secret other : List ℕ)
    (bytes : AreBytes secret) (others : AreBytes other) (public : AreSeenAs rules.public seen setting.public_input)
    (small_start : setting.start_break < 2 ^ 32) (small : AreSmall task.masks) (proper : ProperTurnsLaw) where
  abbrev sees : Setting
  sees = seeing setting seen

  abbrev Standing : Control → LabelMap → Store → Store → List Point → Type 0
  Standing control labels real copy past =
      At rules sound task setting seen secret other bytes others public small_start small proper control labels real copy
      past

  abbrev Made : Control → MaskedPlace → Walk → Store → List Point → Type 0
  Made control here walk copy past =
      Turned rules sound task setting seen secret other bytes others public small_start small proper control here walk copy
      past

  abbrev Within : Control → Control → LabelMap → Store → Store → Store → Type 0
  Within control entered_by before real copy twin =
      Skipping task.enclosures.skip task.enclosures.regions setting.base control entered_by before real copy twin

  -- what the walk asks at the entry of a skipped region
  abbrev skip_asker : Region → LabelMap → ℕ → List ℕ → ℕ → Control → Store → List Point → Asker Reached
  skip_asker region before crossed masks mask shown copy past =
      masked rules (cutting_of task (Enters region)) region.id (knows past (at_start before) crossed masks mask)
      (entry_walk task.enclosures region (state_of sees other shown copy))

  -- ---- a turn inside, which the walk does not make

  inside_guest : (now entered_by : Control) (before : LabelMap) (real copy twin : Store) →
      Within now entered_by before real copy twin → IsProperGuest (state_of setting secret now real)
  inside_guest now entered_by before real copy twin at =
      guest_within setting secret now real bytes public.bytes small_start at.small_break at.to.limits
      (λ r. subst (λ xs. slice_index xs r ≤ 4294967295) (sym at.to.kept) (at.beside.real_limits (Register r)))

  pub skip_goes : (now entered_by : Control) (before : LabelMap) (real copy twin : Store)
      (at : Within now entered_by before real copy twin) →
      walk_break at.region real.kept now.pc (walked setting secret (turn_of setting now) real none_held) ≡ None →
      (real_end (walked setting secret (turn_of setting now) real none_held)).control.mode ≡ Ran →
      Within (real_end (walked setting secret (turn_of setting now) real none_held)).control entered_by before
      (real_end (walked setting secret (turn_of setting now) real none_held)).store copy twin
  skip_goes now entered_by before real copy twin at unbroken ran =
      let turn = turn_of setting now in
      let region = at.region in
      let is : IsProper setting.base now.region turn =
      subst (λ m. IsProper setting.base now.region (turn_in m setting now)) (sym at.ran)
      (proper (state_of setting secret now real) (inside_guest now entered_by before real copy twin at)) in
      let alone = step_ends setting secret bytes now.region turn real none_held is at.to.limits in
      let on : has_exited now.mode ≡ false = ap (λ m. has_exited m) at.ran in
      let quiet = step_quiet region real.kept now.pc (state_of setting secret now real) on unbroken in
      record {
        region = region;
        entry_store = at.entry_store;
        beside = at.beside;
        also = at.also;
        skipped = at.skipped;
        numbered = subst (λ r. region_numbered task.enclosures.regions r ≡ Some region) (sym alone.ends.same_region)
            at.numbered;
        to = record {
          kept = alone.ends.same_kept ∙ at.to.kept;
          label_kept = at.to.label_kept;
          same = λ q iq dq.
              let early = at.to.same q iq dq in
              let declared_now : declared region real.kept q ≡ false =
              subst (λ xs. declared region xs q ≡ false) (sym at.to.kept) dq in
              (alone.same region real.kept now.pc unbroken q iq declared_now ∙ early.0, early.1);
          registers = alone.registers ∙ at.to.registers;
          memory = alone.memory ∙ at.to.memory;
          limits = alone.limits;
          label_limits = at.to.label_limits;
        };
        clear = at.clear;
        inside = at.inside;
        none = at.none;
        twin_none = at.twin_none;
        quiet = same_inside_later (entered region.id entered_by) now _ at.quiet quiet;
        ran = ran;
        kind = at.kind;
        nowhere = at.nowhere;
        small_break = alone.ends.small_break;
      }

  module _ (control : Control) (output written : List ℕ) (before : LabelMap) (copy twin : Store) (past : List Point)
      (crossed : ℕ) (masks : List ℕ) (mask : ℕ) where
    abbrev here : Control
    here = with_output control output Ran

    abbrev shown : Control
    shown = with_output control written Ran

    abbrev place : MaskedPlace
    place = walking_at sees other shown copy past before crossed masks mask

    asks : (region : Region) → kind_of task.enclosures.regions here ≡ Enters region → (found : Option ℕ) →
        secret_base region.ranges before ≡ found →
        masked_turn rules task place
        ≡ turn_from found region.id (turn_inside (outside_of region (outside_range region copy.registers setting.base))
        (skip_asker region before crossed masks mask shown copy past))
    asks region kind found e =
        ap (λ k. kind_turn rules task k place) kind
        ∙ ap (λ b. turn_from b region.id
        (turn_inside (outside_of region (outside_range region copy.registers setting.base))
        (skip_asker region before crossed masks mask shown copy past))) e

    -- ---- the entry

    pub skip_begins : (real : Store) (region : Region) → kind_of task.enclosures.regions here ≡ Enters region →
        is_listed task.enclosures.skip region.id ≡ true →
        region_numbered task.enclosures.regions region.id ≡ Some region → control.region ≡ 0 →
        range_break region real.registers setting.base ≡ None → Standing here before real copy past →
        Standing here before real twin past →
        IsMet (masked_turn rules task place)
        ⊎ Within (real_end (walked setting secret (entry region here) real none_held)).control here before
        (real_end (walked setting secret (entry region here) real none_held)).store copy twin
    skip_begins real region kind skipped numbered zeroth unbroken at also =
        pick (secret_base region.ranges before) refl
      where
        begun : secret_base region.ranges before ≡ None →
            Within (entered region.id here) here before (saved real) copy twin
        begun clear = record {
          region = region;
          entry_store = real;
          beside = at.beside;
          also = also.beside;
          skipped = skipped;
          numbered = subst (λ r. region_numbered task.enclosures.regions r ≡ Some region)
              (sym (entered_region region.id here)) numbered;
          to = entered_to setting.base region before real at.beside.real_limits at.beside.label_limits;
          clear = clear;
          inside = inside_at_entry region real.registers setting.base
              (ranges_unbroken region real.registers setting.base unbroken);
          none = sym (outside_same region real.registers copy.registers setting.base
              (clear_starts setting.base before real copy at.beside region.ranges clear))
              ∙ ranges_unbroken region real.registers setting.base unbroken;
          twin_none = sym (outside_same region real.registers twin.registers setting.base
              (clear_starts setting.base before real twin also.beside region.ranges clear))
              ∙ ranges_unbroken region real.registers setting.base unbroken;
          quiet = same_inside_refl (entered region.id here);
          ran = entered_mode region.id here;
          kind = kind;
          nowhere = zeroth;
          small_break = subst (λ b. b < 2 ^ 32) (sym (entered_break region.id here)) at.small_break;
        }

        pick : (found : Option ℕ) → secret_base region.ranges before ≡ found →
            IsMet (masked_turn rules task place)
            ⊎ Within (real_end (walked setting secret (entry region here) real none_held)).control here before
            (real_end (walked setting secret (entry region here) real none_held)).store copy twin
        pick None e =
            inr (subst (λ (s : State). Within s.control here before s.store copy twin)
            (sym (entry_end setting secret real none_held region here)) (begun e))
        pick (Some register) e =
            inl (record {
              chosen = [];
              why = _;
              meets = λ more. ap (λ asker. feed asker more) (asks region kind (Some register) e);
            })

    -- ---- the leave

    pub skip_ends : (now : Control) (real : Store) (at : Within now here before real copy twin) →
        AgreeEach masks output written → now.pc ≡ at.region.leave → HasRules at.region →
        is_listed task.enclosures.skip 0 ≡ false → keep_break at.region real.kept real.registers ≡ None →
        Made here place (walked setting secret (leave at.region real.kept now) real none_held) twin past
    skip_ends now real at agree pc are_rules outside unbroken =
        made (skip_walks rules (cutting_of task (Enters region)) small setting seen secret other region.id region before
        at.entry_store real at.to are_rules.outs are_rules.keeps inside unbroken at.skipped copy twin at.beside at.also
        (starts copy at.beside) (starts twin at.also) now here shown
        (same_control now here region.leave region.id at.quiet at.ran refl at.nowhere pc) crossed masks mask past
        (record { output = agree; mode = tt; same = refl }))
      where
        region : Region
        region = at.region

        walk : Walk
        walk = walked setting secret (leave region real.kept now) real none_held

        starts : (store : Store) →
            Beside everything setting.base (at_start before) at.entry_store none_held store none_held →
            SameStarts region.ranges real.kept store.registers
        starts store beside =
            subst (λ xs. SameStarts region.ranges xs store.registers) (sym at.to.kept)
            (clear_starts setting.base before at.entry_store store beside region.ranges at.clear)

        inside : are_inside region.ranges real.kept setting.base ≡ true
        inside = subst (λ xs. are_inside region.ranges xs setting.base ≡ true) (sym at.to.kept) at.inside

        skipping : Asker Reached
        skipping =
            masked rules (cutting_of task (Enters region)) region.id (knows past (at_start before) crossed masks mask)
            (walked sees other (skip_turn region copy.registers shown) copy none_held)

        skip_asks : masked_turn rules task place ≡ skipping
        skip_asks =
            asks region at.kind None at.clear
            ∙ ap (λ o. turn_inside (outside_of region o) (skip_asker region before crossed masks mask shown copy past))
            at.none
            ∙ ap (λ t. masked rules (cutting_of task (Enters region)) region.id
            (knows past (at_start before) crossed masks mask) (if t
            then walked sees other (skip_turn region copy.registers shown) copy none_held
            else walked sees other (entry region shown) copy none_held)) at.skipped

        made : Outcome setting sees other skipping crossed (real_end walk) (passed past walk)
            (crossing task.masks past walk)
            (replayed task.masks past (walked setting other (skip_turn region twin.registers here) twin none_held))
            (kept_of copy before twin) →
            Made here place walk twin past
        made (inl met) = inl (subst (λ asker. IsMet asker) (sym skip_asks) met)
        made (inr along) =
            let end = leave_end setting secret region real.kept now real in
            let region_is = ap (λ (c : Control). c.region) end.control_is ∙ entered_region 0 now in
            let break_is = ap (λ (c : Control). c.current_break) end.control_is ∙ entered_break 0 now in
            let stays : (changed : Store) →
            Beside everything setting.base (at_start along.place.labels) (real_end walk).store none_held changed none_held →
            Standing (real_end walk).control along.place.labels (real_end walk).store changed (passed past walk) =
            λ changed beside.
            stands_left everything task.enclosures.skip task.enclosures.regions setting.base _ _ _ changed _ _ beside
            (λ point never. refl) outside region_is
            (subst (λ b. b < 2 ^ 32) (sym break_is) at.small_break)
            (λ r. subst (λ xs. slice_index xs r ≤ 4294967295) (sym (end.kept_is ∙ at.to.kept))
            (at.beside.real_limits (Register r))) in inr (record {
              chosen = along.chosen;
              place = along.place;
              new_twin = along.twin;
              goes = λ more. ap (λ asker. feed asker (along.chosen ++ more)) skip_asks ∙ along.goes more;
              uses =
                  ap (λ k. feed (replay_inside (kind_outside_range k (state_of setting other here twin)) task.enclosures
                  task.masks (placed setting other here twin past)) (crossing task.masks past walk)) at.kind
                  ∙ ap (λ o. feed (replay_inside (outside_of region o) task.enclosures task.masks
                  (placed setting other here twin past)) (crossing task.masks past walk)) at.twin_none
                  ∙ ap (λ k. feed (replayed task.masks past (replay_kind_walk task.enclosures k
                  (state_of setting other here twin))) (crossing task.masks past walk)) at.kind
                  ∙ ap (λ t. feed (replayed task.masks past (if t
                  then walked setting other (skip_turn region twin.registers here) twin none_held
                  else walked setting other (entry region here) twin none_held)) (crossing task.masks past walk))
                  at.skipped
                  ∙ along.uses;
              past_after = along.past_after;
              count = along.count;
              setting_after = along.setting_after;
              secret_after = along.secret_after;
              control_after = along.control;
              stands = stays along.place.state.store along.beside;
              also = stays along.twin along.also;
            })
