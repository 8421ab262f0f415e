-- The real run of a secret and the walk of the path that it chooses, after so many turns of the run: what one more turn
-- makes of them.
use Rattle.std.proofs.Common.{◌≡◌, ℕ, zero, suc, ◌+◌, ◌^◌, ◌<◌, ◌≤◌, ◌⊎◌, inl, inr, ⊎_elim, Bool, true, false, List, []}
use Rattle.std.proofs.Common.{◌++◌, length, None, refl, sym, ap, subst, ◌∙◌, arith, append_assoc, append-nil}
use Rattle.std.specs.Prelude.{nat_lt}
use Rattle.std.proofs.lemmas.Bool.{cases_lt, ltb-false}
use Rattle.std.proofs.lemmas.List.{length-append}
use Rattle.flow_base.specs.Words.{Agree}
use Rattle.flow_base.specs.declared.outputs.Output.{Output}
use Rattle.flow_base.specs.declared.points.Point.{Point}
use Rattle.crossing_bits.specs.Askers.{Asker, Fed', Over, feed}
use Rattle.crossing_bits.proofs.Feeding.{feed_then}
use Rattle.rv32im_machine.specs.declared.stepping.Fault.{Fault}
use Rattle.rv32im_machine.specs.declared.stepping.Stepped.{Stepped}
use Rattle.rv32im_machine.specs.declared.stepping.Stepped.TheVariants.{Ran, Exited, Stopped}
use Rattle.rv32im_machine.specs.Folds.{real_end}
use Rattle.rv32im_machine.specs.Language.{Walk}
use Rattle.rv32im_machine.specs.State.{Control, Setting, State, Store}
use Rattle.region_machine.specs.Enclosures.{Kind, is_enclosed_kind, kind_of}
use Rattle.region_machine.specs.Runs.{Place, passed}
use Rattle.replay_machine.specs.Runs.{ReplayPlace, replay_turn}
use Rattle.lockstep_replay.specs.Acceptance.{Accept, Follows, HasExited, SameMark}
use Rattle.lockstep_replay.specs.Crossing.{crossing}
use Rattle.lockstep_replay.specs.Tasks.{Cross, Limits, Task, common_of, enclosed_of, real_of, real_start, replay_start}
use Rattle.lockstep_replay.specs.Verdicts.{counted_bits}
use Rattle.lockstep_replay.proofs.Bounds.{accepted_where, greater_limits_law}
use Rattle.lockstep_replay.proofs.RunsGrow.{IsAt, at_enclosed, common_enclosed, common_exposed, common_most, cross_enclosed}
use Rattle.lockstep_replay.proofs.RunsGrow.{cross_next, fed_next}
use Rattle.shadow_masks.specs.Writes.{LabelMap}
use Rattle.run_labels.specs.Runs.{stopped_fault}
use Rattle.acceptance_law.specs.Inputs.{AreBytes}
use Rattle.acceptance_law.specs.ProperLaws.{ProperTurnsLaw}
use Rattle.acceptance_law.proofs.CoveredRunAccepted.{end_alike, same_fed}
use Rattle.acceptance_law.proofs.StepsKeepStanding.{placed, state_of}
use Rattle.masked_turns.proofs.OutsideMasks.{AreSmall}
use Rattle.every_secret.specs.declared.path_ends.PathEnd.{PathEnd}
use Rattle.every_secret.specs.declared.path_ends.PathEnd.TheVariants.{Exits, Stops, Unclear}
use Rattle.every_secret.specs.declared.stops.PathStop.TheVariants.{Guest}
use Rattle.every_secret.specs.declared.whys.UnclearWhy.TheVariants.{Budget}
use Rattle.every_secret.specs.AllSecrets.{IsSecret}
use Rattle.every_secret.specs.AnyPublic.{AreSeenAs, with_public}
use Rattle.every_secret.specs.Laws.{Chooses, EndsPath, GivesAs, IsLost}
use Rattle.every_secret.specs.Listed.{AgreeEach}
use Rattle.every_secret.specs.Masked.{Goes, MaskedPlace, Meets, Reached}
use Rattle.every_secret.specs.Replays.{MaskedReplay, ended_or, pattern_of, unless_ended, unless_over, walked_on}
use Rattle.every_secret.specs.Rules.{AreSoundRules, Rules}
use Rattle.every_secret.specs.Turns.{masked_turn}
use Rattle.every_secret.proofs.Alike.{AgreeMode, seeing, with_output}
use Rattle.every_secret.proofs.RealTurns.{common_next, crosses_is, enclosed_is, standing_at, stopped_never, walk_as}
use Rattle.every_secret.proofs.WalkKeeps.{IsMet}
use Rattle.every_secret.proofs.WalkSkips.{Skipping}
use Rattle.every_secret.proofs.WalkStands.{At, HasWalked, Turned, walking_at}

-- ---- modes that agree

agree_ran : (mask : ℕ) (real : Stepped) → AgreeMode mask real Ran → real ≡ Ran
agree_ran mask Ran agree = refl
agree_ran mask (Exited status) agree = absurd agree
agree_ran mask (Stopped fault) agree = absurd agree

agree_stopped : (mask : ℕ) (real : Stepped) (fault : Fault) → AgreeMode mask real (Stopped fault) → real ≡ Stopped fault
agree_stopped mask Ran fault agree = absurd agree
agree_stopped mask (Exited status) fault agree = absurd agree
agree_stopped mask (Stopped other) fault agree = ap (λ f. Stopped f) agree

agree_exited : (mask : ℕ) (real : Stepped) (status : ℕ) → AgreeMode mask real (Exited status) →
    (other : ℕ) × (real ≡ Exited other) × Agree mask other status
agree_exited mask Ran status agree = absurd agree
agree_exited mask (Exited other) status agree = (other, refl, agree)
agree_exited mask (Stopped fault) status agree = absurd agree

going_on : (mode : Stepped) (other : Stepped) → mode ≡ other → stopped_fault other ≡ None → stopped_fault mode ≡ None
going_on mode other same on = ap (λ m. stopped_fault m) same ∙ on

some_left : (count : ℕ) → 0 < count → (less : ℕ) × (count ≡ suc less)
some_left zero some = absurd (omega (arith, some))
some_left (suc less) some = (less, refl)

module _ (rules : Rules) (sound : AreSoundRules rules) (task : Task) (limits : Limits) (setting : Setting)
    (seen secret other : List ℕ) (bytes : AreBytes secret) (others : AreBytes other)
    (public : AreSeenAs rules.public seen setting.public_input) (small_start : setting.start_break < 2 ^ 32)
    (small : AreSmall task.masks) (proper : ProperTurnsLaw) (is_secret : IsSecret task secret)
    (low : limits.budget < 4294967295) (whole : (real_of task secret limits.turns).broken ≡ None) where
  -- what the walk sees, and the task that is walked
  abbrev pub sees : Setting
  sees = seeing setting seen

  abbrev pub walk_task : Task
  walk_task = with_public task seen

  -- the run needs no further look: it chooses a path, or is lost
  abbrev pub Settled : Type 0
  Settled = Chooses rules walk_task task limits secret ⊎ IsLost task limits secret

  abbrev pub StandsAt : Control → LabelMap → Store → Store → List Point → Type 0
  StandsAt control labels real copy past =
      At rules sound task setting seen secret other bytes others public small_start small proper control labels real copy
      past

  abbrev pub Walked : Control → MaskedPlace → Walk → Store → List Point → Type 0
  Walked by place walk copy past =
      HasWalked rules sound task setting seen secret other bytes others public small_start small proper by place walk copy
      past

  abbrev pub WalkedOrMet : Control → MaskedPlace → Walk → Store → List Point → Type 0
  WalkedOrMet by place walk copy past =
      Turned rules sound task setting seen secret other bytes others public small_start small proper by place walk copy
      past

  abbrev pub ComesTo : ℕ → ReplayPlace → Type 0
  ComesTo turns copied = IsAt task.enclosures task.masks (real_start task secret) (replay_start task) turns copied

  abbrev pub FollowsBefore : ℕ → Type 0
  FollowsBefore turns = (turn : ℕ) → turn < turns → enclosed_of task secret turn ≡ false → Follows task secret (suc turn)

  -- after so many turns of the real run the walk has made the common turns of these, by these bits, and is at a place; so is
  -- the replay of the crossing bits, as many as have crossed in the walk
  pub record Along (turns : ℕ) (by : Control) (copy : Store) (past : List Point) (place : MaskedPlace) : Type 0 where
    pub bits : List Bool
    pub left : ℕ
    pub fed : (more : List Bool) →
        feed (MaskedReplay rules walk_task limits) (bits ++ more) ≡ feed (walked_on rules walk_task limits left place) more
    pub turns_are : left + common_of task secret turns ≡ limits.turns
    pub comes : ComesTo turns (placed setting other by copy past)
    pub crossed : place.crossed ≡ length (Cross task secret turns)
    pub follows : FollowsBefore turns

  -- outside of skipped regions
  pub record Outside (turns : ℕ) : Type 0 where
    pub control : Control
    pub output : List ℕ
    pub written : List ℕ
    pub real : Store
    pub copy : Store
    pub twin : Store
    pub past : List Point
    pub labels : LabelMap
    pub crossed : ℕ
    pub masks : List ℕ
    pub mask : ℕ
    pub at : real_of task secret turns ≡ standing_at setting secret (with_output control output Ran) real past
    pub agree : AgreeEach masks output written
    pub stands : StandsAt (with_output control output Ran) labels real copy past
    pub also : StandsAt (with_output control output Ran) labels real twin past
    pub along : Along turns (with_output control output Ran) twin past
        (walking_at sees other (with_output control written Ran) copy past labels crossed masks mask)

  -- inside one, at whose entry the walk stands
  pub record Inside (turns : ℕ) : Type 0 where
    pub control : Control
    pub output : List ℕ
    pub written : List ℕ
    pub now : Control
    pub real : Store
    pub copy : Store
    pub twin : Store
    pub past : List Point
    pub before : LabelMap
    pub crossed : ℕ
    pub masks : List ℕ
    pub mask : ℕ
    pub at : real_of task secret turns ≡ standing_at setting secret now real past
    pub agree : AgreeEach masks output written
    pub within : Skipping task.enclosures.skip task.enclosures.regions setting.base now (with_output control output Ran)
        before real copy twin
    pub along : Along turns (with_output control output Ran) twin past
        (walking_at sees other (with_output control written Ran) copy past before crossed masks mask)

  abbrev pub Mode : ℕ → Type 0
  Mode turns = Settled ⊎ (Outside turns ⊎ Inside turns)

  -- ---- a turn that the walk does not make

  pub along_stays : (turns : ℕ) (by : Control) (copy : Store) (past : List Point) (place : MaskedPlace) →
      enclosed_of task secret turns ≡ true → Along turns by copy past place → Along (suc turns) by copy past place
  along_stays turns by copy past place enclosed along = record {
    bits = along.bits;
    left = along.left;
    fed = along.fed;
    turns_are = ap (λ n. along.left + n) (common_enclosed task.enclosures turns (real_start task secret) enclosed)
        ∙ along.turns_are;
    comes = at_enclosed task.enclosures task.masks (real_start task secret) (replay_start task) turns
        (placed setting other by copy past) enclosed along.comes;
    crossed = along.crossed
        ∙ sym (ap (λ bits. length bits) (cross_enclosed task.enclosures task.masks turns (real_start task secret)
        enclosed));
    follows = λ turn below exposed. ⊎_elim
        (λ under. along.follows turn under exposed)
        (λ late.
        let same : turn ≡ turns = omega (arith, below, late) in
        let both : true ≡ false = sym enclosed ∙ ap (λ n. enclosed_of task secret n) (sym same) ∙ exposed in
        absurd (cc))
        (cases_lt turn turns);
  }

  -- ---- a turn that the walk makes

  module _ (turns : ℕ) (before : turns < limits.turns) (by : Control) (copy : Store) (past : List Point)
      (place : MaskedPlace) (along : Along turns by copy past place) where
    left_is : (less : ℕ) × (along.left ≡ suc less)
    left_is =
        let most = common_most task.enclosures turns (real_start task secret) in
        let are = along.turns_are in
        some_left along.left (omega (arith, most, are, before))

    -- the walk that has so many turns left after this one
    abbrev later : MaskedPlace → Asker PathEnd
    later next = walked_on rules walk_task limits left_is.0 next

    turned : (chosen : List Bool) (reached : Reached) (more : List Bool) →
        feed (masked_turn rules walk_task place) (chosen ++ more) ≡ Fed' reached more →
        feed (MaskedReplay rules walk_task limits) ((along.bits ++ chosen) ++ more)
        ≡ feed (ended_or limits.budget reached later) more
    unfolding walked_on
    turned chosen reached more goes =
        ap (λ s. feed (MaskedReplay rules walk_task limits) s) (append_assoc along.bits chosen more)
        ∙ along.fed (chosen ++ more)
        ∙ ap (λ n. feed (walked_on rules walk_task limits n place) (chosen ++ more)) left_is.1
        ∙ feed_then (masked_turn rules walk_task place) (λ reached. ended_or limits.budget reached later) (chosen ++ more)
        reached more goes

    -- a path ends with the turn
    ends_so : (chosen : List Bool) (reached : Reached) (ends : PathEnd) →
        feed (masked_turn rules walk_task place) (chosen ++ []) ≡ Fed' reached [] →
        feed (ended_or limits.budget reached later) [] ≡ Fed' ends [] → EndsPath task limits secret ends → Settled
    ends_so chosen reached ends goes over alike =
        inl (record {
          bits = along.bits ++ chosen;
          ends = ends;
          uses = ap (λ s. feed (MaskedReplay rules walk_task limits) s) (sym (append-nil (along.bits ++ chosen)))
              ∙ turned chosen reached [] goes ∙ over;
          alike = alike;
        })

    pub met_ends : IsMet (masked_turn rules walk_task place) → Settled
    met_ends met = ends_so met.chosen (Meets met.why) (Unclear met.why) (met.meets []) refl tt

  -- ---- a common turn

  module _ (turns : ℕ) (before : turns < limits.turns) (now : Control) (real : Store) (past : List Point) (by : Control)
      (copy : Store) (place : MaskedPlace) (at : real_of task secret turns ≡ standing_at setting secret now real past)
      (kind : Kind) (is : kind_of task.enclosures.regions now ≡ kind)
      (exposed : is_enclosed_kind task.enclosures kind ≡ false) (along : Along turns by copy past place) where
    abbrev walk : Walk
    walk = walk_as task setting secret now real past turns at kind

    abbrev new : State
    new = real_end walk

    next_is : real_of task secret (suc turns)
        ≡ standing_at setting secret new.control new.store (passed past walk)
    next_is = common_next task setting secret now real past turns at kind is limits.turns before whole exposed

    exposed_here : enclosed_of task secret turns ≡ false
    exposed_here = enclosed_is task setting secret now real past turns at kind is ∙ exposed

    abbrev less : ℕ
    less = (left_is turns before by copy past place along).0

    abbrev goes_later : MaskedPlace → Asker PathEnd
    goes_later next = later turns before by copy past place along next

    abbrev EndsHere : List Bool → Reached → PathEnd → Type 0
    EndsHere chosen reached ends =
        feed (masked_turn rules walk_task place) (chosen ++ []) ≡ Fed' reached [] →
        feed (ended_or limits.budget reached goes_later) [] ≡ Fed' ends [] → EndsPath task limits secret ends → Settled

    ends_here : (chosen : List Bool) (reached : Reached) (ends : PathEnd) → EndsHere chosen reached ends
    ends_here chosen reached ends = ends_so turns before by copy past place along chosen reached ends

    module _ (walked : Walked by place walk copy past) where
      abbrev after : MaskedPlace
      after = walked.place

      comes_next : ComesTo (suc turns) (placed setting other new.control walked.new_twin (passed past walk))
      comes_next =
          fed_next task.enclosures task.masks turns (real_start task secret) (replay_start task)
          (placed setting other by copy past) exposed_here along.comes
          ∙ (ap (λ bits. feed (replay_turn task.enclosures task.masks (placed setting other by copy past)) bits)
          (crosses_is task setting secret now real past turns at kind is exposed) ∙ walked.uses)

      crossed_next : after.crossed ≤ limits.budget → after.crossed ≡ length (Cross task secret (suc turns))
      crossed_next within =
          let long : length (Cross task secret (suc turns))
          ≡ length (Cross task secret turns) + length (crossing task.masks past walk) =
          ap (λ bits. length bits) (cross_next task.enclosures task.masks turns (real_start task secret))
          ∙ length-append (Cross task secret turns) _
          ∙ ap (λ bits. length (Cross task secret turns) + length bits)
          (crosses_is task setting secret now real past turns at kind is exposed) in
          let counts : counted_bits after.crossed ≡ counted_bits (length (Cross task secret (suc turns))) =
          walked.count
          ∙ ap (λ n. counted_bits (n + length (crossing task.masks past walk))) along.crossed
          ∙ ap (λ n. counted_bits n) (sym long) in
          omega (arith, low, within, counts)

      -- the replay follows
      follows_next : stopped_fault new.control.mode ≡ None → Follows task secret (suc turns)
      follows_next on = record {
        place = placed setting other new.control walked.new_twin (passed past walk);
        uses = comes_next;
        inside = refl;
        mark = subst (λ (p : Place). SameMark p.state (state_of setting other new.control walked.new_twin))
            (sym next_is)
            (record { address = refl; written = refl; ended = end_alike new.control.mode on });
      }

      follows_all : stopped_fault new.control.mode ≡ None → FollowsBefore (suc turns)
      follows_all on turn below shown = ⊎_elim
          (λ under. along.follows turn under shown)
          (λ late.
          let same : turn ≡ turns = omega (arith, below, late) in
          subst (λ n. Follows task secret (suc n)) (sym same) (follows_next on))
          (cases_lt turn turns)

      -- ---- the run exits

      module _ (status copied : ℕ) (exits : new.control.mode ≡ Exited status)
          (shown : after.state.control.mode ≡ Exited copied) (agree : Agree after.status_mask status copied)
          (within : after.crossed ≤ limits.budget) where
        abbrev given : Output
        given = record { bytes = new.control.output; status = status }

        on : stopped_fault new.control.mode ≡ None
        on = going_on new.control.mode (Exited status) exits refl

        accepted : Accept task limits secret given
        accepted =
            greater_limits_law task (record { budget = limits.budget; turns = suc turns }) limits secret given
            (omega arith) before
            (accepted_where task (record { budget = limits.budget; turns = suc turns }) secret given
            is_secret.has_length (ap (λ (p : Place). p.broken) next_is)
            (subst (λ (p : Place). HasExited p.state given) (sym next_is) (record { bytes = refl; status = exits }))
            (let same = crossed_next within in omega (arith, same, within))
            (follows_all on)
            (λ last.
            subst (λ (p : ReplayPlace). HasExited p.state given)
            (same_fed (placed setting other new.control walked.new_twin (passed past walk)) last.place []
            (sym comes_next ∙ last.uses))
            (record { bytes = refl; status = exits })))

        exits_as : GivesAs task limits secret (pattern_of after copied)
        exits_as = record {
          output = given;
          gives = record { is_secret = is_secret; unbroken = whole; exits = accepted.exits };
          accept = accepted;
          stands = record { bytes = walked.control_after.output; status = agree };
        }

      -- ---- the run goes on

      module _ (ran : new.control.mode ≡ Ran) (shown : after.state.control.mode ≡ Ran)
          (within : after.crossed ≤ limits.budget) where
        abbrev control : Control
        control = with_output new.control new.control.output Ran

        abbrev goes_from : MaskedPlace
        goes_from =
            walking_at sees other (with_output new.control after.state.control.output Ran) after.state.store
            (passed past walk) after.labels after.crossed after.byte_masks after.status_mask

        place_is : after ≡ goes_from
        place_is =
            let control_is : after.state.control ≡ with_output new.control after.state.control.output Ran =
            sym walked.control_after.same
            ∙ ap (λ m. with_output new.control after.state.control.output m) shown in
            λ i. record {
              state = record {
                setting = walked.setting_after i;
                secret = walked.secret_after i;
                control = control_is i;
                store = after.state.store;
              };
              past = walked.past_after i;
              labels = after.labels;
              crossed = after.crossed;
              byte_masks = after.byte_masks;
              status_mask = after.status_mask;
            }

        over : nat_lt limits.budget after.crossed ≡ false → (more : List Bool) →
            feed (ended_or limits.budget (Goes after) goes_later) more ≡ feed (goes_later goes_from) more
        over none more =
            ap (λ m. feed (unless_ended m limits.budget after (goes_later after)) more) shown
            ∙ ap (λ t. feed (unless_over t limits.budget after (goes_later after)) more) none
            ∙ ap (λ p. feed (goes_later p) more) place_is

        goes_on : nat_lt limits.budget after.crossed ≡ false → Outside (suc turns)
        goes_on none = record {
          control = new.control;
          output = new.control.output;
          written = after.state.control.output;
          real = new.store;
          copy = after.state.store;
          twin = walked.new_twin;
          past = passed past walk;
          labels = after.labels;
          crossed = after.crossed;
          masks = after.byte_masks;
          mask = after.status_mask;
          at = next_is
              ∙ ap (λ m. standing_at setting secret (with_output new.control new.control.output m) new.store
              (passed past walk)) ran;
          agree = walked.control_after.output;
          stands =
              subst (λ m. StandsAt (with_output new.control new.control.output m) after.labels new.store
              after.state.store (passed past walk)) ran walked.stands;
          also =
              subst (λ m. StandsAt (with_output new.control new.control.output m) after.labels new.store
              walked.new_twin (passed past walk)) ran walked.also;
          along = record {
            bits = along.bits ++ walked.chosen;
            left = less;
            fed = λ more. turned turns before by copy past place along walked.chosen (Goes after) more (walked.goes more)
                ∙ over none more;
            turns_are =
                let common = common_exposed task.enclosures turns (real_start task secret) exposed_here in
                let are = along.turns_are in
                let left = (left_is turns before by copy past place along).1 in
                omega (arith, common, are, left);
            comes =
                subst (λ m. ComesTo (suc turns) (placed setting other (with_output new.control new.control.output m)
                walked.new_twin (passed past walk))) ran comes_next;
            crossed = crossed_next within;
            follows = follows_all (going_on new.control.mode Ran ran refl);
          };
        }

      -- ---- whatever it does

      -- the walk is over its budget
      over_budget : (mode : Stepped) → after.state.control.mode ≡ mode → stopped_fault mode ≡ None →
          nat_lt limits.budget after.crossed ≡ true → Settled
      over_budget mode shown on above =
          ends_here walked.chosen (Goes after) (Unclear (Budget limits.budget after.crossed)) (walked.goes [])
          (ap (λ m. feed (unless_ended m limits.budget after (goes_later after)) []) shown ∙ passes mode on) tt
        where
          passes : (mode : Stepped) → stopped_fault mode ≡ None →
              feed (unless_ended mode limits.budget after (goes_later after)) []
              ≡ Fed' (Unclear (Budget limits.budget after.crossed)) []
          passes Ran none = ap (λ t. feed (unless_over t limits.budget after (goes_later after)) []) above
          passes (Exited status) none =
              ap (λ t. feed (unless_over t limits.budget after (Over (Exits (pattern_of after status)))) []) above
          passes (Stopped fault) none = absurd (cc)

      by_mode : (mode : Stepped) → after.state.control.mode ≡ mode →
          AgreeMode after.status_mask new.control.mode mode → (t : Bool) → nat_lt limits.budget after.crossed ≡ t →
          Mode (suc turns)
      by_mode (Stopped fault) shown agree t over =
          let stops = agree_stopped after.status_mask new.control.mode fault agree in
          inl (ends_here walked.chosen (Goes after) (Stops (Guest fault)) (walked.goes [])
          (ap (λ m. feed (unless_ended m limits.budget after (goes_later after)) []) shown)
          (λ output gives.
          stopped_never task secret (suc turns) limits.turns before fault
          (ap (λ (p : Place). p.state.control.mode) next_is ∙ stops) output gives.exits))
      by_mode Ran shown agree true over = inl (over_budget Ran shown refl over)
      by_mode Ran shown agree false over =
          inr (inl (goes_on (agree_ran after.status_mask new.control.mode agree) shown
          (ltb-false limits.budget after.crossed over) over))
      by_mode (Exited copied) shown agree true over = inl (over_budget (Exited copied) shown refl over)
      by_mode (Exited copied) shown agree false over =
          let alike = agree_exited after.status_mask new.control.mode copied agree in
          inl (ends_here walked.chosen (Goes after) (Exits (pattern_of after copied)) (walked.goes [])
          (ap (λ m. feed (unless_ended m limits.budget after (goes_later after)) []) shown
          ∙ ap (λ t. feed (unless_over t limits.budget after (Over (Exits (pattern_of after copied)))) []) over)
          (exits_as alike.0 copied alike.1 shown alike.2 (ltb-false limits.budget after.crossed over)))

    pub after_common : WalkedOrMet by place walk copy past → Mode (suc turns)
    after_common (inl met) = inl (met_ends turns before by copy past place along met)
    after_common (inr walked) =
        by_mode walked walked.place.state.control.mode refl walked.control_after.mode
        (nat_lt limits.budget walked.place.crossed) refl
