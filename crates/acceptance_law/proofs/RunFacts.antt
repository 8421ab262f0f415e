-- A run with labels and the real run beside which a cut skips regions: turn by turn they are in the same state, and
-- what
-- is known of the run is known of each turn.
use Rattle.std.proofs.Common.{◌≡◌, ℕ, suc, List, [], ◌∷◌, ◌++◌, length, Option, Some, None, refl}
use Rattle.std.proofs.Common.{sym, ap, ap₂, subst, ◌∙◌}
use Rattle.enclosure_regions.specs.declared.break_kinds.Break.{Break}
use Rattle.enclosure_regions.specs.declared.region_parts.Region.{Region}
use Rattle.rv32im_machine.specs.State.{Setting, Control, Store, State}
use Rattle.rv32im_machine.specs.Language.{Turn, Looks, Passes, Decides, Gives, Moves, Saves, Restores, Ends, Walk}
use Rattle.rv32im_machine.specs.Language.{Held, walked, put, hold, value_of, values_of, at_place, made, shaped}
use Rattle.rv32im_machine.specs.Language.{seen_value}
use Rattle.rv32im_machine.specs.Folds.{real_end}
use Rattle.region_machine.specs.Enclosures.{Enclosures, Kind, Enters, Leaves, Steps, kind_of, is_enclosed}
use Rattle.region_machine.specs.Guests.{guest_walk, kind_walk}
use Rattle.region_machine.specs.Breaking.{Breaks}
use Rattle.region_machine.specs.Runs.{Place, fresh, passed, visited, unbroken_turn, turn_unless, Real}
use Rattle.replay_machine.specs.Runs.{Masks}
use Rattle.lockstep_replay.specs.Crossing.{crossing_unless, crossing_unbroken, cross_after}
use Rattle.run_labels.specs.Answers.{IsSoundAnswer}
use Rattle.run_labels.specs.Traces.{EachAnswer, labels_in, events_in, secret_look}
use Rattle.run_labels.specs.Runs.{LabelledRun, unlabelled, enclosing, run_after, broken_fault, stopped_fault}
use Rattle.run_labels.specs.Runs.{entered_number, EachRunAnswer, IsUnrefused}
use Rattle.run_labels.specs.TurnLabels.{at_start}
use Rattle.acceptance_law.specs.Sides.{NamedSide}
use Rattle.acceptance_law.specs.ClosedEvents.{AreClosedEvents}
use Rattle.acceptance_law.specs.Covers.{AreContained}
use Rattle.acceptance_law.proofs.Turns.{first_none}
use Rattle.acceptance_law.proofs.Passings.{closed_append}
use Rattle.acceptance_law.proofs.TurnsKeepRelation.{CoveredTurn}
use Rattle.acceptance_law.proofs.StepsKeepStanding.{state_of}
use Rattle.acceptance_law.proofs.TurnKinds.{none_enclosed}
use Rattle.acceptance_law.proofs.PastsOfEvents.{pasts, pasts_append, events_past, contained_parts}
use Rattle.std.specs.Option.{option_or}

-- ---- what no turn changes

pub record SameSetting (setting : Setting) (secret : List ℕ) (state : State) : Type 0 where
  pub setting_is : state.setting ≡ setting
  pub secret_is : state.secret ≡ secret

walked_setting : (turn : Turn) (setting : Setting) (secret : List ℕ) (store : Store) (held : Held) →
    SameSetting setting secret (real_end (walked setting secret turn store held))
unfolding walked real_end
walked_setting (Looks seen go) setting secret store held =
    walked_setting (go (seen_value setting.base store seen)) setting secret store held
walked_setting (Passes point place making sources turn) setting secret store held =
    walked_setting turn setting secret
    (put setting.base place (made making (values_of setting secret store held sources)) store)
    (hold place (made making (values_of setting secret store held sources)) held)
walked_setting (Decides point making sources go) setting secret store held =
    walked_setting (go (made making (values_of setting secret store held sources))) setting secret store held
walked_setting (Gives point place turn) setting secret store held =
    walked_setting turn setting secret (put setting.base place (at_place setting.base store held place) store)
    (hold place (at_place setting.base store held place) held)
walked_setting (Moves place shape source turn) setting secret store held =
    walked_setting turn setting secret
    (put setting.base place (shaped shape (value_of setting secret store held source ∷ [])) store)
    (hold place (shaped shape (value_of setting secret store held source ∷ [])) held)
walked_setting (Saves turn) setting secret store held = walked_setting turn setting secret _ held
walked_setting (Restores registers turn) setting secret store held = walked_setting turn setting secret store held
walked_setting (Ends control) setting secret store held = record { setting_is = refl; secret_is = refl }

pub kind_setting : (kind : Kind) (setting : Setting) (secret : List ℕ) (control : Control) (store : Store) →
    SameSetting setting secret (real_end (kind_walk kind (state_of setting secret control store)))
kind_setting (Enters region) setting secret control store = walked_setting _ setting secret store _
kind_setting (Leaves region) setting secret control store = walked_setting _ setting secret store _
kind_setting (Steps found) setting secret control store = walked_setting _ setting secret store _

pub state_parts : (state : State) (setting : Setting) (secret : List ℕ) → SameSetting setting secret state →
    state ≡ state_of setting secret state.control state.store
state_parts state setting secret same =
    ap₂ (λ a b. state_of a b state.control state.store) same.setting_is same.secret_is

-- ---- runs

module _ (side : NamedSide) (skip : List ℕ) (regions : List Region) (masks : Masks) (setting : Setting)
    (secret : List ℕ) (first : Control) (store : Store) where
  abbrev pub begun : Place
  begun = fresh (state_of setting secret first store)

  abbrev pub skipping : Enclosures
  skipping = record { regions = regions; skip = skip }

  abbrev pub run : List (List ℕ) → LabelledRun
  run answers = run_after regions answers (unlabelled begun)

  abbrev pub real : ℕ → Place
  real turns = Real skipping turns begun

  abbrev pub control_of : List (List ℕ) → Control
  control_of answers = (run answers).place.state.control

  abbrev pub store_of : List (List ℕ) → Store
  store_of answers = (run answers).place.state.store

  -- the next turn, from the state by its parts
  abbrev pub turn : List (List ℕ) → Walk
  turn answers = guest_walk regions (state_of setting secret (control_of answers) (store_of answers))

  -- what is known of a run
  pub record Premises (answers : List (List ℕ)) : Type 0 where
    pub sound : EachRunAnswer IsSoundAnswer regions answers (unlabelled begun)
    pub unrefused : IsUnrefused regions answers (unlabelled begun)
    pub closed : AreClosedEvents side (run answers).events
    pub contained : AreContained side skip masks [] (run answers).events

  pub record RunFacts (answers : List (List ℕ)) : Type 0 where
    pub same_state : (real (length answers)).state ≡ (run answers).place.state
    pub same_broken : (real (length answers)).broken ≡ (run answers).place.broken
    pub unbroken : (run answers).place.broken ≡ None
    pub same_setting : SameSetting setting secret (run answers).place.state
    pub past : pasts (run answers).events [] ≡ (run answers).place.past

  -- the next turn of both
  pub record NextTurn (last : List ℕ) (answers : List (List ℕ)) : Type 0 where
    pub state_is : (run (last ∷ answers)).place.state ≡ real_end (turn answers)
    pub labels_is : (run (last ∷ answers)).labels ≡ labels_in (at_start (run answers).labels) last (turn answers)
    pub events_is : (run (last ∷ answers)).events
        ≡ (run answers).events ++ events_in (at_start (run answers).labels) last (turn answers)
    pub past_is : (run (last ∷ answers)).place.past ≡ passed (run answers).place.past (turn answers)
    pub broken_is : (run (last ∷ answers)).place.broken
        ≡ Breaks regions (state_of setting secret (control_of answers) (store_of answers))
    pub real_state : (real (suc (length answers))).state ≡ real_end (turn answers)
    pub real_past : (real (suc (length answers))).past
        ≡ visited (is_enclosed skipping (control_of answers)) (real (length answers)).past (turn answers)
    pub real_broken : (real (suc (length answers))).broken
        ≡ Breaks regions (state_of setting secret (control_of answers) (store_of answers))
    pub crosses : cross_after skipping masks (suc (length answers)) begun
        ≡ cross_after skipping masks (length answers) begun
        ++ crossing_unless (is_enclosed skipping (control_of answers)) masks (real (length answers)).past (turn answers)

  pub next_turn : (last : List ℕ) (answers : List (List ℕ)) → RunFacts answers → NextTurn last answers
  unfolding run_after Real cross_after
  next_turn last answers facts =
      let here = (run answers).place.state in
      let parts : here ≡ state_of setting secret (control_of answers) (store_of answers) =
      state_parts here setting secret facts.same_setting in
      let place_is : (run (last ∷ answers)).place ≡ unbroken_turn (enclosing regions) (run answers).place =
      ap (λ b. turn_unless b (enclosing regions) (run answers).place) facts.unbroken in
      let real_parts : (real (length answers)).state ≡ state_of setting secret (control_of answers) (store_of answers) =
      facts.same_state ∙ parts in
      let none : (real (length answers)).broken ≡ None = facts.same_broken ∙ facts.unbroken in
      let real_is : real (suc (length answers)) ≡ unbroken_turn skipping (real (length answers)) =
      ap (λ b. turn_unless b skipping (real (length answers))) none in
      record {
        state_is = ap (λ (p : Place). p.state) place_is ∙ ap (λ s. real_end (guest_walk regions s)) parts;
        labels_is = ap (λ s. labels_in (at_start (run answers).labels) last (guest_walk regions s)) parts;
        events_is = ap (λ s. (run answers).events
            ++ events_in (at_start (run answers).labels) last (guest_walk regions s)) parts;
        past_is = ap (λ (p : Place). p.past) place_is
            ∙ ap (λ t. visited t (run answers).place.past (guest_walk regions here))
            (none_enclosed regions (kind_of regions here.control))
            ∙ ap (λ s. passed (run answers).place.past (guest_walk regions s)) parts;
        broken_is = ap (λ (p : Place). p.broken) place_is ∙ ap (λ s. Breaks regions s) parts;
        real_state = ap (λ (p : Place). p.state) real_is ∙ ap (λ s. real_end (guest_walk regions s)) real_parts;
        real_past = ap (λ (p : Place). p.past) real_is
            ∙ ap (λ (s : State). visited (is_enclosed skipping s.control) (real (length answers)).past
            (guest_walk regions s)) real_parts;
        real_broken = ap (λ (p : Place). p.broken) real_is ∙ ap (λ s. Breaks regions s) real_parts;
        crosses = ap (λ b. cross_after skipping masks (length answers) begun
            ++ crossing_unbroken b skipping masks (real (length answers))) none
            ∙ ap (λ (s : State). cross_after skipping masks (length answers) begun
            ++ crossing_unless (is_enclosed skipping s.control) masks (real (length answers)).past
            (guest_walk regions s)) real_parts;
      }

  -- ---- one turn of a run of which this is known

  pub earlier : (last : List ℕ) (answers : List (List ℕ)) → Premises (last ∷ answers) → Premises answers
  unfolding EachRunAnswer IsUnrefused run_after
  earlier last answers premises = record {
    sound = premises.sound.0;
    unrefused = premises.unrefused.0;
    closed = (closed_append side (run answers).events _ premises.closed).0;
    contained = (contained_parts side skip masks (run answers).events _ [] premises.contained).0;
  }

  pub record TurnKnown (last : List ℕ) (answers : List (List ℕ)) : Type 0 where
    pub covered : CoveredTurn side skip masks (entered_number (kind_of regions (control_of answers)))
        (at_start (run answers).labels) last (run answers).place.past (turn answers)
    pub unbroken : Breaks regions (state_of setting secret (control_of answers) (store_of answers)) ≡ None
    pub goes_on : stopped_fault (real_end (turn answers)).control.mode ≡ None

  broken_none : (broken : Option Break) → broken_fault broken ≡ None → broken ≡ None
  broken_none None e = refl
  broken_none (Some broken) e = absurd (cc)

  pub turn_known : (last : List ℕ) (answers : List (List ℕ)) → RunFacts answers → Premises (last ∷ answers) →
      TurnKnown last answers
  unfolding EachRunAnswer IsUnrefused run_after
  turn_known last answers facts premises =
      let here = (run answers).place.state in
      let labels = at_start (run answers).labels in
      let parts : here ≡ state_of setting secret (control_of answers) (store_of answers) =
      state_parts here setting secret facts.same_setting in
      let walk = guest_walk regions here in
      let one = first_none (secret_look (entered_number (kind_of regions here.control)) labels last walk)
      (option_or (broken_fault (Breaks regions here)) (stopped_fault (real_end walk).control.mode))
      premises.unrefused.1 in
      let two = first_none (broken_fault (Breaks regions here)) (stopped_fault (real_end walk).control.mode) one.1 in
      let closed = closed_append side (run answers).events (events_in labels last walk) premises.closed in
      let contained = contained_parts side skip masks (run answers).events (events_in labels last walk) []
      premises.contained in
      record {
        covered = record {
          sound = subst (λ s. EachAnswer IsSoundAnswer labels last (guest_walk regions s)) parts premises.sound.1;
          looks = subst (λ s. secret_look (entered_number (kind_of regions (control_of answers))) labels last
              (guest_walk regions s) ≡ None) parts one.0;
          closed = subst (λ s. AreClosedEvents side (events_in labels last (guest_walk regions s))) parts closed.1;
          contained = subst (λ s. AreContained side skip masks (run answers).place.past
              (events_in labels last (guest_walk regions s))) parts
              (subst (λ p. AreContained side skip masks p (events_in labels last walk)) facts.past contained.1);
        };
        unbroken = subst (λ s. Breaks regions s ≡ None) parts (broken_none (Breaks regions here) two.0);
        goes_on = subst (λ s. stopped_fault (real_end (guest_walk regions s)).control.mode ≡ None) parts two.1;
      }

  next_facts : (last : List ℕ) (answers : List (List ℕ)) → RunFacts answers → NextTurn last answers →
      TurnKnown last answers → RunFacts (last ∷ answers)
  next_facts last answers facts next known = record {
    same_state = next.real_state ∙ sym next.state_is;
    same_broken = next.real_broken ∙ sym next.broken_is;
    unbroken = next.broken_is ∙ known.unbroken;
    same_setting = subst (λ s. SameSetting setting secret s) (sym next.state_is)
        (kind_setting (kind_of regions (control_of answers)) setting secret (control_of answers) (store_of answers));
    past = ap (λ es. pasts es []) next.events_is
        ∙ pasts_append (run answers).events (events_in (at_start (run answers).labels) last (turn answers)) []
        ∙ ap (λ p. pasts (events_in (at_start (run answers).labels) last (turn answers)) p) facts.past
        ∙ events_past (turn answers) (at_start (run answers).labels) last (run answers).place.past
        ∙ sym next.past_is;
  }

  start_facts : RunFacts []
  unfolding run_after Real pasts
  start_facts = record {
    same_state = refl;
    same_broken = refl;
    unbroken = refl;
    same_setting = record { setting_is = refl; secret_is = refl };
    past = refl;
  }

  pub run_facts : (answers : List (List ℕ)) → Premises answers → RunFacts answers
  run_facts [] premises = start_facts
  run_facts (last ∷ answers) premises =
      let facts = run_facts answers (earlier last answers premises) in
      next_facts last answers facts (next_turn last answers facts) (turn_known last answers facts premises)
