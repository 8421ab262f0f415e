-- The run of a secret that breaks no region chooses a path of the masked replay, or is lost: turn by turn, and to the last
-- turn that it may make.
use Rattle.std.proofs.Common.{◌≡◌, ℕ, zero, suc, ◌^◌, ◌<◌, ◌≤◌, ◌⊎◌, inl, inr, Bool, true, false, List, []}
use Rattle.std.proofs.Common.{◌++◌, length, Some, None, refl, sym, ap, subst, ◌∙◌, arith}
use Rattle.std.specs.Prelude.{◌==◌, if◌then◌else◌}
use Rattle.std.proofs.lemmas.Bool.{eqb-true}
use Rattle.flow_base.specs.declared.points.Point.{Point}
use Rattle.crossing_bits.specs.Askers.{Fed', feed}
use Rattle.enclosure_regions.specs.declared.region_parts.Region.{Region}
use Rattle.enclosure_regions.specs.Regions.{are_regions}
use Rattle.rv32im_machine.specs.declared.stepping.Stepped.{Stepped}
use Rattle.rv32im_machine.specs.declared.stepping.Stepped.TheVariants.{Ran, Exited, Stopped}
use Rattle.rv32im_machine.specs.Folds.{real_end}
use Rattle.rv32im_machine.specs.Start.{zeros}
use Rattle.rv32im_machine.specs.Language.{Walk}
use Rattle.rv32im_machine.specs.State.{Control, Setting, State, Store}
use Rattle.region_machine.specs.Breaking.{kind_break}
use Rattle.region_machine.specs.Guests.{kind_walk}
use Rattle.region_machine.specs.Enclosures.{Kind, Enters, Leaves, Steps, is_enclosed_kind, kind_of}
use Rattle.region_machine.specs.Runs.{Place, common_turns, has_exited, Real}
use Rattle.region_machine.proofs.NoExitInside.{enclosed_runs_on}
use Rattle.region_machine.proofs.RangesStayInside.{entered_found, numbered}
use Rattle.replay_machine.specs.Runs.{Replay, replay_fresh}
use Rattle.lockstep_replay.specs.Crossing.{cross_after}
use Rattle.lockstep_replay.specs.Tasks.{Limits, Task, real_of, real_start, replay_start, task_of}
use Rattle.shadow_masks.specs.Writes.{default_map}
use Rattle.acceptance_law.specs.Inputs.{AreBytes}
use Rattle.acceptance_law.specs.ProperLaws.{ProperTurnsLaw}
use Rattle.acceptance_law.proofs.CoveredRunAccepted.{length_zeros, zero_bytes}
use Rattle.acceptance_law.proofs.ProperRows.{proper_law}
use Rattle.acceptance_law.proofs.ProperStarts.{guest_start_law}
use Rattle.acceptance_law.proofs.StepsKeepStanding.{state_of}
use Rattle.acceptance_law.proofs.TurnKinds.{enters_outside, inside_turn, leaves_inside, numbered_id, numbered_rules, steps_inside}
use Rattle.masked_turns.proofs.CutNumbers.{small_masks, valid_skip}
use Rattle.acceptance_law.proofs.RunsBegin.{begins_beside}
use Rattle.masked_turns.proofs.OutsideMasks.{AreSmall, everything}
use Rattle.every_secret.specs.declared.path_ends.PathEnd.TheVariants.{Stops}
use Rattle.every_secret.specs.declared.stops.PathStop.TheVariants.{Turns}
use Rattle.every_secret.specs.AllSecrets.{IsSecret}
use Rattle.every_secret.specs.AnyPublic.{AreSeenAs, with_public}
use Rattle.every_secret.specs.Laws.{RunLaw}
use Rattle.every_secret.specs.Listed.{NoneLeft}
use Rattle.every_secret.specs.Masked.{MaskedPlace}
use Rattle.every_secret.specs.Replays.{masked_start, walked_on}
use Rattle.every_secret.specs.Turns.{masked_turn}
use Rattle.every_secret.specs.Rules.{AreSoundRules, Rules}
use Rattle.every_secret.proofs.Alike.{seeing, with_output}
use Rattle.every_secret.proofs.RealTurns.{all_common, enclosed_is, enclosed_next, lists_some, running_never, standing_at}
use Rattle.every_secret.proofs.RealTurns.{stopped_never, unbroken_as, walk_as}
use Rattle.every_secret.proofs.WalkKeeps.{IsMet}
use Rattle.every_secret.proofs.WalkRuns.{Inside, Mode, Outside, Settled, after_common, along_stays, met_ends}
use Rattle.every_secret.proofs.WalkSkips.{Skipping, skip_begins, skip_ends, skip_goes}
use Rattle.every_secret.proofs.WalkStands.{Turned, entry_walks, leave_turn, step_walks, walking_at}
use Rattle.flow_base.specs.Listed.{is_listed}

module _ (rules : Rules) (sound : AreSoundRules rules) (task : Task) (limits : Limits) (setting : Setting)
    (seen secret other : List ℕ) (bytes : AreBytes secret) (others : AreBytes other)
    (public : AreSeenAs rules.public seen setting.public_input) (small_start : setting.start_break < 2 ^ 32)
    (small : AreSmall task.masks) (proper : ProperTurnsLaw) (is_secret : IsSecret task secret)
    (low : limits.budget < 4294967295) (whole : (real_of task secret limits.turns).broken ≡ None)
    (listed : are_regions task.enclosures.regions ≡ true) (nowhere : is_listed task.enclosures.skip 0 ≡ false) where
  abbrev regions : List Region
  regions = task.enclosures.regions

  abbrev walk_task : Task
  walk_task = with_public task seen

  abbrev Done : Type 0
  Done =
      Settled rules sound task limits setting seen secret other bytes others public small_start small proper is_secret low
      whole

  abbrev IsOutside : ℕ → Type 0
  IsOutside turns =
      Outside rules sound task limits setting seen secret other bytes others public small_start small proper is_secret low
      whole turns

  abbrev IsInside : ℕ → Type 0
  IsInside turns =
      Inside rules sound task limits setting seen secret other bytes others public small_start small proper is_secret low
      whole turns

  abbrev pub ModeAt : ℕ → Type 0
  ModeAt turns =
      Mode rules sound task limits setting seen secret other bytes others public small_start small proper is_secret low
      whole turns

  abbrev WalkedAs : Control → MaskedPlace → Walk → Store → List Point → Type 0
  WalkedAs by place walk copy past =
      Turned rules sound task setting seen secret other bytes others public small_start small proper by place walk copy
      past

  module _ (turns : ℕ) (before : turns < limits.turns) where
    -- ---- from outside

    module _ (run : IsOutside turns) where
      abbrev here : Control
      here = with_output run.control run.output Ran

      abbrev place : MaskedPlace
      place =
          walking_at (seeing setting seen) other (with_output run.control run.written Ran) run.copy run.past run.labels run.crossed
          run.masks run.mask

      abbrev walk : Kind → Walk
      walk kind = walk_as task setting secret here run.real run.past turns run.at kind

      unbroken : (kind : Kind) → kind_of regions here ≡ kind →
          kind_break kind (state_of setting secret here run.real) ≡ None
      unbroken kind e =
          unbroken_as task setting secret here run.real run.past turns run.at kind e limits.turns before whole

      common : (kind : Kind) → kind_of regions here ≡ kind → is_enclosed_kind task.enclosures kind ≡ false →
          WalkedAs here place (walk kind) run.twin run.past → ModeAt (suc turns)
      common kind e exposed =
          after_common rules sound task limits setting seen secret other bytes others public small_start small proper
          is_secret low whole turns before here run.real run.past here run.twin place run.at kind e exposed run.along

      goes_in : (region : Region) → kind_of regions here ≡ Enters region → is_listed task.enclosures.skip region.id ≡ true →
          IsMet (masked_turn rules walk_task place)
          ⊎ Skipping task.enclosures.skip regions setting.base (real_end (walk (Enters region))).control here run.labels
          (real_end (walk (Enters region))).store run.copy run.twin → ModeAt (suc turns)
      goes_in region e skipped (inl met) =
          inl (met_ends rules sound task limits setting seen secret other bytes others public small_start small proper
          is_secret low whole turns before here run.twin run.past place run.along met)
      goes_in region e skipped (inr within) =
          inr (inr (record {
            control = run.control;
            output = run.output;
            written = run.written;
            now = (real_end (walk (Enters region))).control;
            real = (real_end (walk (Enters region))).store;
            copy = run.copy;
            twin = run.twin;
            past = run.past;
            before = run.labels;
            crossed = run.crossed;
            masks = run.masks;
            mask = run.mask;
            at = enclosed_next task setting secret here run.real run.past turns run.at (Enters region) e limits.turns before
                whole skipped;
            agree = run.agree;
            within = within;
            along = along_stays rules sound task limits setting seen secret other bytes others public small_start small
                proper is_secret low whole turns here run.twin run.past place
                (enclosed_is task setting secret here run.real run.past turns run.at (Enters region) e ∙ skipped)
                run.along;
          }))

      enters : (region : Region) → kind_of regions here ≡ Enters region → (t : Bool) →
          is_listed task.enclosures.skip region.id ≡ t → ModeAt (suc turns)
      enters region e false unskipped =
          let found = numbered regions (λ another. another.enter == here.pc) region listed
          (entered_found here.mode regions here region e) in
          common (Enters region) e unskipped
          (entry_walks rules sound task setting seen secret other bytes others public small_start small proper run.control
          run.output run.written run.labels run.real run.copy run.twin run.past run.crossed run.masks run.mask region run.agree e
          unskipped found (unbroken (Enters region) e) run.stands run.also)
      enters region e true skipped =
          let found = numbered regions (λ another. another.enter == here.pc) region listed
          (entered_found here.mode regions here region e) in
          let out = enters_outside here.mode regions here region e in
          goes_in region e skipped
          (skip_begins rules sound task setting seen secret other bytes others public small_start small proper
          run.control run.output run.written run.labels run.copy run.twin run.past run.crossed run.masks run.mask run.real region e
          skipped found (run.stands.nowhere out.1) (unbroken (Enters region) e) run.stands run.also)

      outside_turn : (kind : Kind) → kind_of regions here ≡ kind → ModeAt (suc turns)
      outside_turn (Enters region) e = enters region e (is_listed task.enclosures.skip region.id) refl
      outside_turn (Leaves region) e =
          let found = leaves_inside here.mode regions here region e in
          common (Leaves region) e refl
          (leave_turn rules sound task setting seen secret other bytes others public small_start small proper run.control
          run.output run.written run.labels run.real run.copy run.twin run.past run.crossed run.masks run.mask region run.agree e
          found (numbered_rules regions here.region region listed found) nowhere (unbroken (Leaves region) e) run.stands run.also)
      outside_turn (Steps None) e =
          common (Steps None) e refl
          (step_walks rules sound task setting seen secret other bytes others public small_start small proper run.control
          run.output run.written run.labels run.real run.copy run.twin run.past run.crossed run.masks run.mask None run.agree e
          run.stands run.also)
      outside_turn (Steps (Some region)) e =
          let found = steps_inside here.mode regions here region e in
          let unskipped : is_listed task.enclosures.skip region.id ≡ false =
          subst (λ r. is_listed task.enclosures.skip r ≡ false) (sym (numbered_id regions here.region region found))
          run.stands.runs in
          common (Steps (Some region)) e unskipped
          (step_walks rules sound task setting seen secret other bytes others public small_start small proper run.control
          run.output run.written run.labels run.real run.copy run.twin run.past run.crossed run.masks run.mask (Some region)
          run.agree e run.stands run.also)

    -- ---- from inside a skipped region

    module _ (run : IsInside turns) where
      abbrev region : Region
      region = run.within.region

      abbrev by : Control
      by = with_output run.control run.output Ran

      abbrev stands_at : MaskedPlace
      stands_at =
          walking_at (seeing setting seen) other (with_output run.control run.written Ran) run.copy run.past run.before run.crossed
          run.masks run.mask

      abbrev inner : Kind → Walk
      inner kind = walk_as task setting secret run.now run.real run.past turns run.at kind

      whole_as : (kind : Kind) → kind_of regions run.now ≡ kind →
          kind_break kind (state_of setting secret run.now run.real) ≡ None
      whole_as kind e =
          unbroken_as task setting secret run.now run.real run.past turns run.at kind e limits.turns before whole

      leaves : run.now.pc ≡ region.leave → kind_of regions run.now ≡ Leaves region → ModeAt (suc turns)
      leaves pc e =
          after_common rules sound task limits setting seen secret other bytes others public small_start small proper
          is_secret low whole turns before run.now run.real run.past by run.twin stands_at run.at (Leaves region) e refl
          run.along
          (skip_ends rules sound task setting seen secret other bytes others public small_start small proper run.control
          run.output run.written run.before run.copy run.twin run.past run.crossed run.masks run.mask run.now run.real run.within
          run.agree pc (numbered_rules regions run.now.region region listed run.within.numbered) nowhere
          (whole_as (Leaves region) e))

      module _ (e : kind_of regions run.now ≡ Steps (Some region)) where
        abbrev end : State
        end = real_end (inner (Steps (Some region)))

        next_at : real_of task secret (suc turns) ≡ standing_at setting secret end.control end.store run.past
        next_at =
            enclosed_next task setting secret run.now run.real run.past turns run.at (Steps (Some region)) e limits.turns
            before whole run.within.skipped

        runs_on : has_exited end.control.mode ≡ false
        runs_on =
            subst (λ k. has_exited (real_end (kind_walk k (state_of setting secret run.now run.real))).control.mode ≡ false)
            e
            (enclosed_runs_on task.enclosures (state_of setting secret run.now run.real)
            (ap (λ k. is_enclosed_kind task.enclosures k) e ∙ run.within.skipped)
            (ap (λ k. kind_break k (state_of setting secret run.now run.real)) e ∙ whole_as (Steps (Some region)) e))

        steps : (mode : Stepped) → end.control.mode ≡ mode → ModeAt (suc turns)
        steps Ran ran =
            inr (inr (record {
              control = run.control;
              output = run.output;
              written = run.written;
              now = end.control;
              real = end.store;
              copy = run.copy;
              twin = run.twin;
              past = run.past;
              before = run.before;
              crossed = run.crossed;
              masks = run.masks;
              mask = run.mask;
              at = next_at;
              agree = run.agree;
              within =
                  skip_goes rules sound task setting seen secret other bytes others public small_start small proper run.now
                  by run.before run.real run.copy run.twin run.within (whole_as (Steps (Some region)) e) ran;
              along = along_stays rules sound task limits setting seen secret other bytes others public small_start small
                  proper is_secret low whole turns by run.twin run.past stands_at
                  (enclosed_is task setting secret run.now run.real run.past turns run.at (Steps (Some region)) e
                  ∙ run.within.skipped) run.along;
            }))
        steps (Stopped fault) stopped =
            inl (inr (record {
              lists = lists_some regions run.now.region region run.within.numbered;
              never = λ output.
                  stopped_never task secret (suc turns) limits.turns before fault
                  (ap (λ (p : Place). p.state.control.mode) next_at ∙ stopped) output;
            }))
        steps (Exited status) exited =
            let both : true ≡ false = sym (ap (λ m. has_exited m) exited) ∙ runs_on in absurd (cc)

      inside_turn_as : (t : Bool) → (region.leave == run.now.pc) ≡ t → ModeAt (suc turns)
      inside_turn_as true is =
          leaves (sym (eqb-true region.leave run.now.pc is))
          (inside_turn run.now.mode regions run.now region run.within.ran run.within.numbered
          ∙ ap (λ t. if t then Leaves region else Steps (Some region)) is)
      inside_turn_as false is =
          let e = inside_turn run.now.mode regions run.now region run.within.ran run.within.numbered
          ∙ ap (λ t. if t then Leaves region else Steps (Some region)) is in
          steps e (real_end (inner (Steps (Some region)))).control.mode refl

    next : ModeAt turns → ModeAt (suc turns)
    next (inl done) = inl done
    next (inr (inl run)) = outside_turn run (kind_of regions (with_output run.control run.output Ran)) refl
    next (inr (inr run)) = inside_turn_as run (run.within.region.leave == run.now.pc) refl

  -- ---- all turns

  abbrev EndsAt : MaskedPlace → ℕ → Type 0
  EndsAt place left = feed (walked_on rules walk_task limits left place) [] ≡ Fed' (Stops (Turns limits.turns)) []

  no_turns : (at : MaskedPlace) → EndsAt at zero
  unfolding walked_on
  no_turns at = refl

  -- after the last turn: it still runs, and the walk has no turn left, or the run has lost turns to a region
  still_outside : (run : IsOutside limits.turns) → (left : ℕ) → run.along.left ≡ left → Done
  still_outside run zero none =
      let place = walking_at (seeing setting seen) other (with_output run.control run.written Ran) run.copy run.past run.labels
      run.crossed run.masks run.mask in
      inl (record {
        bits = run.along.bits ++ [];
        ends = Stops (Turns limits.turns);
        uses = run.along.fed []
            ∙ ap (λ n. feed (walked_on rules walk_task limits n place) []) none
            ∙ no_turns place;
        alike = λ output gives.
            running_never task secret limits.turns (ap (λ (p : Place). p.state.control.mode) run.at) output gives.exits;
      })
  still_outside run (suc more) some =
      inr (record {
        lists = λ empty.
            let all = all_common task secret empty limits.turns in
            let are = run.along.turns_are in
            omega (arith, all, are, some);
        never = λ output.
            running_never task secret limits.turns (ap (λ (p : Place). p.state.control.mode) run.at) output;
      })

  still_inside : IsInside limits.turns → Done
  still_inside run =
      inr (record {
        lists = lists_some regions run.now.region run.within.region run.within.numbered;
        never = λ output.
            running_never task secret limits.turns
            (ap (λ (p : Place). p.state.control.mode) run.at ∙ run.within.ran) output;
      })

  mode_at : ModeAt zero → (turns : ℕ) → turns ≤ limits.turns → ModeAt turns
  mode_at begun zero within = begun
  mode_at begun (suc turns) within = next turns within (mode_at begun turns (omega (arith, within)))

  settled_at : ModeAt limits.turns → Done
  settled_at (inl done) = done
  settled_at (inr (inl run)) = still_outside run run.along.left refl
  settled_at (inr (inr run)) = still_inside run

  pub settled : ModeAt zero → Done
  settled begun = settled_at (mode_at begun limits.turns (omega arith))

-- ---- the law

pub run_law : RunLaw
unfolding Real Replay common_turns cross_after
run_law rules program seen public_input regions secret cut limits sound public inputs valid low is_secret whole =
    let task = task_of program public_input regions cut in
    let state = (real_start task secret).state in
    let setting = state.setting in
    let other = zeros cut.secret_len in
    let is = guest_start_law program public_input secret inputs.program_valid inputs.program_bytes inputs.public_bytes
    inputs.secret_bytes in
    let long : length secret ≡ length other = is_secret.has_length ∙ sym (length_zeros cut.secret_len) in
    let starts : replay_fresh (state_of setting other state.control state.store) ≡ replay_start task =
    ap (λ n. replay_fresh (state_of (record setting { secret_length = n }) other state.control state.store)) long in
    let seen_starts : replay_fresh (state_of (seeing setting seen) other state.control state.store)
    ≡ replay_start (with_public task seen) =
    ap (λ n. replay_fresh (state_of (record setting { public_input = seen; secret_length = n }) other state.control
    state.store)) long in
    let nowhere = valid_skip cut valid in
    let begins = begins_beside everything cut.skip regions state is refl nowhere in
    settled rules sound task limits setting seen secret other inputs.secret_bytes (zero_bytes cut.secret_len) public
    is.start_break (small_masks cut.points) proper_law is_secret low whole inputs.regions_valid nowhere
    (inr (inl (record {
      control = state.control;
      output = [];
      written = [];
      real = state.store;
      copy = state.store;
      twin = state.store;
      past = [];
      labels = default_map;
      crossed = 0;
      masks = [];
      mask = 0;
      at = refl;
      agree = NoneLeft;
      stands = begins;
      also = begins;
      along = record {
        bits = [];
        left = limits.turns;
        fed = λ more. ap (λ p. feed (walked_on rules (with_public task seen) limits limits.turns (masked_start p)) more)
            (sym seen_starts);
        turns_are = omega arith;
        comes = ap (λ p. Fed' p []) (sym starts);
        crossed = refl;
        follows = λ turn below exposed. absurd (omega (arith, below));
      };
    })))
