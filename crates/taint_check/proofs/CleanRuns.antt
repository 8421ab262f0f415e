-- A clean run is accepted: the replay that is fed its crossing bits follows it turn by turn and exits as it does.
use Rattle.std.proofs.Common.{◌≡◌, ℕ, suc, ◌<◌, ◌≤◌, ◌⊎◌, inl, inr, ⊎_elim, true, false, List, []}
use Rattle.std.proofs.Common.{◌∷◌, length, Option, Some, None, refl, sym, ap, subst, ◌∙◌, arith}
use Rattle.std.proofs.lemmas.Bool.{cases_lt, ltb-false}
use Rattle.flow_base.specs.declared.outputs.Output.{Output}
use Rattle.crossing_bits.specs.Askers.{Uses}
use Rattle.enclosure_regions.specs.declared.break_kinds.Break.{Break}
use Rattle.enclosure_regions.specs.declared.region_parts.Region.{Region}
use Rattle.enclosure_regions.specs.Regions.{are_regions}
use Rattle.rv32im_machine.specs.declared.stepping.Stepped.{Stepped}
use Rattle.rv32im_machine.specs.declared.stepping.Stepped.TheVariants.{Ran, Exited, Stopped}
use Rattle.rv32im_machine.specs.Folds.{real_end}
use Rattle.rv32im_machine.specs.State.{Setting, Control, State}
use Rattle.region_machine.specs.Breaking.{Breaks}
use Rattle.region_machine.specs.Enclosures.{is_enclosed, kind_of}
use Rattle.region_machine.specs.Guests.{guest_walk}
use Rattle.region_machine.specs.Runs.{Place, Real, common_turns}
use Rattle.replay_machine.specs.Runs.{ReplayPlace, Replay}
use Rattle.lockstep_replay.proofs.Bounds.{accepted_where}
use Rattle.lockstep_replay.specs.Acceptance.{HasExited, EndAlike, SameMark, Accept}
use Rattle.lockstep_replay.specs.Crossing.{cross_after}
use Rattle.lockstep_replay.specs.Tasks.{Task, Limits, Cross, enclosed_of, real_of, real_start, replay_start}
use Rattle.run_labels.specs.Runs.{entered_number, stopped_fault}
use Rattle.run_labels.specs.TurnLabels.{at_start}
use Rattle.acceptance_law.specs.Inputs.{AreBytes, IsProperGuest}
use Rattle.acceptance_law.specs.ProperLaws.{ProperTurnsLaw}
use Rattle.acceptance_law.proofs.CoveredRunAccepted.{end_alike, same_fed}
use Rattle.acceptance_law.proofs.RunFacts.{SameSetting, kind_setting}
use Rattle.acceptance_law.proofs.StepsKeepStanding.{state_of}
use Rattle.masked_turns.specs.declared.uses.LeftBits.{LeftBits}
use Rattle.masked_turns.specs.declared.uses.SecretLook.{SecretLook}
use Rattle.acceptance_law.proofs.RunsBegin.{begins_beside}
use Rattle.masked_turns.proofs.OutsideMasks.{AreSmall, everything}
use Rattle.taint_check.specs.Cleared.{AnswersUnless, AreRunAnswers, Cleared, MaskedRun, cutting_at, is_hidden, kind_at}
use Rattle.taint_check.specs.Reasons.{left_unless, look_unless, unclear_of}
use Rattle.taint_check.proofs.FoundRuns.{AreFine}
use Rattle.taint_check.proofs.ReasonsCounted.{fine_of}
use Rattle.taint_check.proofs.RunVerdicts.{cleared_place}
use Rattle.taint_check.proofs.RunsAgree.{Inside, Outside, copy_start, later, next_is, parts}
use Rattle.taint_check.proofs.TurnsAgree.{IsClear}
use Rattle.flow_base.specs.Listed.{is_listed}

-- a turn without a reason is not stopped
on_of : (look : Option SecretLook) (broken : Option Break) (mode : Stepped) (budget needed : ℕ)
    (left : Option LeftBits) → unclear_of look broken mode budget needed left ≡ None → stopped_fault mode ≡ None
on_of look broken Ran budget needed left e = refl
on_of look broken (Exited status) budget needed left e = refl
on_of look broken (Stopped fault) budget needed left e =
    let is = fine_of look broken (Stopped fault) budget needed left e in
    never look broken is.unlooked is.unbroken e
  where
    never : (look : Option SecretLook) (broken : Option Break) → look ≡ None → broken ≡ None →
        unclear_of look broken (Stopped fault) budget needed left ≡ None → stopped_fault (Stopped fault) ≡ None
    never None None a b none = absurd (cc)
    never (Some look) broken a b none = absurd (cc)
    never None (Some broken) a b none = absurd (cc)

-- a mark is like itself
same_mark : (real copy : State) → real.control ≡ copy.control → stopped_fault real.control.mode ≡ None →
    SameMark real copy
same_mark real copy same on = record {
  address = ap (λ (c : Control). c.pc) same;
  written = ap (λ (c : Control). length c.output) same;
  ended = subst (λ (c : Control). EndAlike real.control.mode c.mode) same (end_alike real.control.mode on);
}

module _ (table : ℕ) (task : Task) (limits : Limits) (secret other : List ℕ) (bytes : AreBytes secret)
    (others : AreBytes other) (is : IsProperGuest (real_start task secret).state) (small : AreSmall task.masks)
    (proper : ProperTurnsLaw) (rules : are_regions task.enclosures.regions ≡ true)
    (nowhere : is_listed task.enclosures.skip 0 ≡ false) where
  abbrev pub the_start : Place
  the_start = real_start task secret

  abbrev pub setting : Setting
  setting = the_start.state.setting

  abbrev pub regions : List Region
  regions = task.enclosures.regions

  abbrev pub the_run : List (List ℕ) → MaskedRun
  the_run answers = Cleared task secret answers

  abbrev pub IsOutside : ℕ → MaskedRun → Type 0
  IsOutside turns run =
      Outside task secret other bytes others is.public_input is.start_break small proper rules nowhere turns run

  abbrev pub IsInside : ℕ → MaskedRun → Type 0
  IsInside turns run =
      Inside task secret other bytes others is.public_input is.start_break small proper rules nowhere turns run

  abbrev pub the_copy : ReplayPlace
  the_copy = copy_start task secret other bytes others is.public_input is.start_break small proper rules nowhere

  -- ---- the start

  begins : IsOutside 0 (the_run [])
  unfolding Cleared Real Replay common_turns cross_after
  begins = record {
    copy = the_start.state.store;
    comes = refl;
    stands = begins_beside everything task.enclosures.skip regions the_start.state is refl nowhere;
  }

  -- ---- one turn

  clear_turn : (last : List ℕ) (run : MaskedRun) (state : State) → run.place.state ≡ state →
      AnswersUnless (is_hidden task.enclosures (kind_at task run)) table task last run →
      look_unless (is_hidden task.enclosures (kind_at task run)) task last run ≡ None →
      left_unless (is_hidden task.enclosures (kind_at task run)) task last run ≡ None →
      is_hidden task.enclosures (kind_at task run) ≡ false →
      IsClear (entered_number (kind_at task run)) (cutting_at task run) run.place.past (at_start run.labels) last
      (guest_walk regions state)
  clear_turn last run state same are looks left shown =
      let answered = subst (λ t. AnswersUnless t table task last run) shown are in
      subst (λ s. IsClear (entered_number (kind_at task run)) (cutting_at task run) run.place.past (at_start run.labels)
      last (guest_walk regions s)) same
      (record {
        sound = answered.sound;
        looks = subst (λ t. look_unless t task last run ≡ None) shown looks;
        left = subst (λ t. left_unless t task last run ≡ None) shown left;
      })

  -- ---- runs

  -- what is known after so many turns
  pub record IsKnown (answers : List (List ℕ)) : Type 0 where
    pub unbroken : (the_run answers).place.broken ≡ None
    pub same : SameSetting setting secret (the_run answers).place.state
    pub on : stopped_fault (the_run answers).place.state.control.mode ≡ None
    pub mode : IsOutside (length answers) (the_run answers) ⊎ IsInside (length answers) (the_run answers)

  -- and of the turn before
  pub record HasTurned (last : List ℕ) (answers : List (List ℕ)) : Type 0 where
    pub known : IsKnown (last ∷ answers)
    pub within : length (Cross task secret (suc (length answers))) ≤ limits.budget
    pub exposed : is_enclosed task.enclosures (the_run answers).place.state.control ≡ false →
        IsOutside (suc (length answers)) (the_run (last ∷ answers))

  apart : true ≡ false → ⊥
  apart both = cc

  turns_on : (last : List ℕ) (answers : List (List ℕ)) → IsKnown answers →
      AreRunAnswers table task secret (last ∷ answers) → AreFine task limits secret (last ∷ answers) →
      HasTurned last answers
  unfolding AreRunAnswers AreFine
  turns_on last answers known are fine =
      let run = the_run answers in
      let state = state_of setting secret run.place.state.control run.place.state.store in
      let parts_are : run.place.state ≡ state =
      parts task secret other bytes others is.public_input is.start_break small proper rules nowhere answers last
      known.unbroken known.same in
      let looked = fine_of _ _ _ _ _ _ fine.1 in
      let went = on_of _ _ _ _ _ _ fine.1 in
      let whole : Breaks regions state ≡ None = subst (λ s. Breaks regions s ≡ None) parts_are looked.unbroken in
      let goes_on : stopped_fault (real_end (guest_walk regions state)).control.mode ≡ None =
      subst (λ s. stopped_fault (real_end (guest_walk regions s)).control.mode ≡ None) parts_are went in
      let next = next_is task secret other bytes others is.public_input is.start_break small proper rules nowhere answers
      last known.unbroken known.same in
      let after = later task secret other bytes others is.public_input is.start_break small proper rules nowhere answers
      last known.unbroken known.same
      (clear_turn last run state parts_are are.1 looked.unlooked looked.undecided) whole goes_on known.mode in
      record {
        known = record {
          unbroken = ap (λ (r : MaskedRun). r.place.broken) next ∙ whole;
          same = subst (λ (r : MaskedRun). SameSetting setting secret r.place.state) (sym next)
              (kind_setting (kind_of regions run.place.state.control) setting secret run.place.state.control
              run.place.state.store);
          on = subst (λ (r : MaskedRun). stopped_fault r.place.state.control.mode ≡ None) (sym next) goes_on;
          mode = ⊎_elim (λ out. inl out.1) (λ inner. inr inner.1) after;
        };
        within = ltb-false limits.budget (length (Cross task secret (suc (length answers)))) looked.within;
        exposed = λ shown. ⊎_elim (λ out. out.1)
            (λ inner. absurd (apart (sym inner.0 ∙ shown))) after;
      }

  pub knows : (answers : List (List ℕ)) → AreRunAnswers table task secret answers →
      AreFine task limits secret answers → IsKnown answers
  unfolding AreRunAnswers AreFine Cleared
  knows [] are fine = record {
    unbroken = refl;
    same = record { setting_is = refl; secret_is = refl };
    on = refl;
    mode = inl begins;
  }
  knows (last ∷ answers) are fine =
      (turns_on last answers (knows answers are.0 fine.0) are fine).known

  -- the replay follows after each common turn
  abbrev pub FollowsAt : ℕ → Type 0
  FollowsAt turns =
      (place : ReplayPlace)
      × (Uses (Replay task.enclosures task.masks (common_turns task.enclosures turns the_start) the_copy)
      (Cross task secret turns) place)
      × (place.outside ≡ None)
      × SameMark (real_of task secret turns).state place.state

  follows_last : (last : List ℕ) (answers : List (List ℕ)) → AreRunAnswers table task secret (last ∷ answers) →
      AreFine task limits secret (last ∷ answers) → enclosed_of task secret (length answers) ≡ false →
      FollowsAt (suc (length answers))
  unfolding AreRunAnswers AreFine
  follows_last last answers are fine exposed =
      let turned = turns_on last answers (knows answers are.0 fine.0) are fine in
      let here = cleared_place task secret answers in
      let there = cleared_place task secret (last ∷ answers) in
      let at = turned.exposed
      (ap (λ (p : Place). is_enclosed task.enclosures p.state.control) here ∙ exposed) in (
        _,
        at.comes,
        refl,
        same_mark (real_of task secret (suc (length answers))).state
            (state_of setting other (the_run (last ∷ answers)).place.state.control at.copy)
            (ap (λ (p : Place). p.state.control) (sym there))
            (subst (λ (p : Place). stopped_fault p.state.control.mode ≡ None) there turned.known.on),
      )

  pub follows_at : (answers : List (List ℕ)) → AreRunAnswers table task secret answers →
      AreFine task limits secret answers → (turns : ℕ) → turns < length answers →
      enclosed_of task secret turns ≡ false → FollowsAt (suc turns)
  unfolding AreRunAnswers AreFine
  follows_at [] are fine turns below exposed = absurd (omega (arith, below))
  follows_at (last ∷ answers) are fine turns below exposed = ⊎_elim
      (λ under. follows_at answers are.0 fine.0 turns under exposed)
      (λ past.
      let same : turns ≡ length answers = omega (arith, below, past) in
      subst (λ n. FollowsAt (suc n)) (sym same)
      (follows_last last answers are fine (subst (λ n. enclosed_of task secret n ≡ false) same exposed)))
      (cases_lt turns (length answers))

  -- where it follows after the last turn, it has exited as the real run has
  pub exits_alike : (answers : List (List ℕ)) (output : Output) (place : ReplayPlace) → IsKnown answers →
      HasExited (the_run answers).place.state output →
      Uses (Replay task.enclosures task.masks (common_turns task.enclosures (length answers) the_start) the_copy)
      (Cross task secret (length answers)) place → HasExited place.state output
  exits_alike answers output place known exits uses = ⊎_elim
      (λ at.
      subst (λ (p : ReplayPlace). HasExited p.state output) (same_fed _ place [] (sym at.comes ∙ uses))
      (record { bytes = exits.bytes; status = exits.status }))
      (λ at. let both : Ran ≡ Exited output.status = sym at.within.ran ∙ exits.status in absurd (cc))
      known.mode

  -- a run to its exit is accepted within its turns
  pub accepted : (last : List ℕ) (answers : List (List ℕ)) (output : Output) → length secret ≡ task.secret_length →
      the_copy ≡ replay_start task → AreRunAnswers table task secret (last ∷ answers) →
      AreFine task limits secret (last ∷ answers) → HasExited (the_run (last ∷ answers)).place.state output →
      Accept task (record { budget = limits.budget; turns = suc (length answers) }) secret output
  unfolding AreRunAnswers AreFine
  accepted last answers output long starts are fine exits =
      let turned = turns_on last answers (knows answers are.0 fine.0) are fine in
      let there = cleared_place task secret (last ∷ answers) in
      accepted_where task (record { budget = limits.budget; turns = suc (length answers) }) secret output long
      (ap (λ (p : Place). p.broken) (sym there) ∙ turned.known.unbroken)
      (subst (λ (p : Place). HasExited p.state output) there exits) turned.within
      (λ turn below exposed.
      let at = follows_at (last ∷ answers) are fine turn below exposed in record {
        place = at.0;
        uses = subst (λ z. Uses (Replay task.enclosures task.masks
            (common_turns task.enclosures (suc turn) the_start) z) (Cross task secret (suc turn)) at.0) starts at.1;
        inside = at.2;
        mark = at.3;
      })
      (λ follows.
      exits_alike (last ∷ answers) output follows.place turned.known exits
      (subst (λ z. Uses (Replay task.enclosures task.masks
      (common_turns task.enclosures (suc (length answers)) the_start) z) (Cross task secret (suc (length answers)))
      follows.place) (sym starts) follows.uses))
