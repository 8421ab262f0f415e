-- After each turn of a covered run the replay that was fed the crossing bits stands beside the real run, or at the
-- entry of the skipped region that the real run is in.
use Rattle.std.proofs.Common.{◌≡◌, ℕ, suc, ◌⊎◌, Bool, true, false, List, [], ◌∷◌, ◌++◌, length}
use Rattle.std.proofs.Common.{sym, ap, ap₂, subst, ◌∙◌, append-nil}
use Rattle.crossing_bits.specs.Askers.{feed, Fed'}
use Rattle.crossing_bits.proofs.Feeding.{feed_after}
use Rattle.enclosure_regions.specs.declared.region_parts.Region.{Region}
use Rattle.rv32im_machine.specs.State.{Setting, Control, Store, State}
use Rattle.rv32im_machine.specs.Language.{Walk}
use Rattle.rv32im_machine.specs.Folds.{real_end}
use Rattle.region_machine.specs.Enclosures.{Enclosures, is_enclosed}
use Rattle.region_machine.specs.Runs.{Place, passed, visited, common_turns}
use Rattle.replay_machine.specs.Runs.{ReplayPlace, replay_fresh, Masks, Replay, replay_turn}
use Rattle.lockstep_replay.specs.Crossing.{crossing, crossing_unless, cross_after}
use Rattle.lockstep_replay.proofs.RunsGrow.{common_enclosed, common_exposed}
use Rattle.run_labels.specs.Traces.{labels_in}
use Rattle.run_labels.specs.Runs.{LabelledRun}
use Rattle.run_labels.specs.TurnLabels.{at_start}
use Rattle.acceptance_law.specs.Sides.{NamedSide}
use Rattle.acceptance_law.proofs.StepsKeepStanding.{state_of, placed, Stands, Stood}
use Rattle.acceptance_law.proofs.SkippedTurns.{Skips}
use Rattle.acceptance_law.proofs.RunFacts.{begun, skipping, run, real, control_of, store_of, turn, RunFacts, NextTurn}
use Rattle.acceptance_law.proofs.RunFacts.{TurnKnown}

module _ (side : NamedSide) (skip : List ℕ) (regions : List Region) (masks : Masks) (setting : Setting)
    (secret other : List ℕ) (first : Control) (store : Store) where
  abbrev pub the_start : Place
  the_start = begun side skip regions masks setting secret first store

  abbrev pub enclosures : Enclosures
  enclosures = skipping side skip regions masks setting secret first store

  abbrev pub the_run : List (List ℕ) → LabelledRun
  the_run answers = run side skip regions masks setting secret first store answers

  abbrev pub the_real : ℕ → Place
  the_real turns = real side skip regions masks setting secret first store turns

  abbrev pub control_at : List (List ℕ) → Control
  control_at answers = control_of side skip regions masks setting secret first store answers

  abbrev pub store_at : List (List ℕ) → Store
  store_at answers = store_of side skip regions masks setting secret first store answers

  abbrev pub the_turn : List (List ℕ) → Walk
  the_turn answers = turn side skip regions masks setting secret first store answers

  abbrev pub copy_start : ReplayPlace
  copy_start = replay_fresh (state_of setting other first store)

  -- the replay that is fed the crossing bits of so many turns comes to this place and uses them up
  abbrev pub Comes : ℕ → ReplayPlace → Type 0
  Comes turns place =
      feed (Replay enclosures masks (common_turns enclosures turns the_start) copy_start)
      (cross_after enclosures masks turns the_start) ≡ Fed' place []

  pub record Outside (answers : List (List ℕ)) : Type 0 where
    pub copy : Store
    pub comes : Comes (length answers) (placed setting other (control_at answers) copy (the_real (length answers)).past)
    pub stands : Stands side skip regions setting.base (control_at answers) (the_run answers).labels (store_at answers)
        copy (the_real (length answers)).past (the_run answers).place.past

  pub record Inside (answers : List (List ℕ)) : Type 0 where
    pub copy : Store
    pub entered_by : Control
    pub comes : Comes (length answers) (placed setting other entered_by copy (the_real (length answers)).past)
    pub skips : Skips side skip regions setting.base (control_at answers) entered_by (the_run answers).labels
        (store_at answers) copy (the_real (length answers)).past (the_run answers).place.past

  abbrev pub Facts : List (List ℕ) → Type 0
  Facts answers = RunFacts side skip regions masks setting secret first store answers

  abbrev pub Next : List ℕ → List (List ℕ) → Type 0
  Next last answers = NextTurn side skip regions masks setting secret first store last answers

  abbrev pub Known : List ℕ → List (List ℕ) → Type 0
  Known last answers = TurnKnown side skip regions masks setting secret first store last answers

  real_enclosed : (answers : List (List ℕ)) (t : Bool) → Facts answers → is_enclosed enclosures
      (control_at answers) ≡ t →
      is_enclosed enclosures (the_real (length answers)).state.control ≡ t
  real_enclosed answers t facts e =
      ap (λ (s : State). is_enclosed enclosures s.control) facts.same_state ∙ e

  -- a turn that is a common turn of its own, or a leave
  comes_outside : (last : List ℕ) (answers : List (List ℕ)) (by : Control) (copy : Store) → Facts answers →
      (next : Next last answers) → is_enclosed enclosures (control_at answers) ≡ false →
      Comes (length answers) (placed setting other by copy (the_real (length answers)).past) →
      (stood : Stood side skip regions masks setting other by (the_run answers).labels last (the_turn answers) copy
      (the_real (length answers)).past (the_run answers).place.past) →
      Comes (suc (length answers))
      (placed setting other (real_end (the_turn answers)).control stood.store
      (passed (the_real (length answers)).past (the_turn answers)))
  unfolding Replay
  comes_outside last answers by copy facts next exposed comes stood =
      let n = length answers in
      let bits = crossing masks (the_real n).past (the_turn answers) in
      ap (λ c. feed (Replay enclosures masks c copy_start) (cross_after enclosures masks (suc n) the_start))
      (common_exposed enclosures n the_start (real_enclosed answers false facts exposed))
      ∙ ap (λ b. feed (Replay enclosures masks (suc (common_turns enclosures n the_start)) copy_start) b)
      (next.crosses ∙ ap (λ t. cross_after enclosures masks n the_start
      ++ crossing_unless t masks (the_real n).past (the_turn answers)) exposed)
      ∙ feed_after (Replay enclosures masks (common_turns enclosures n the_start) copy_start)
      (replay_turn enclosures masks) (cross_after enclosures masks n the_start) bits
      (placed setting other by copy (the_real n).past) comes
      ∙ stood.uses

  pub to_outside : (last : List ℕ) (answers : List (List ℕ)) (by : Control) (copy : Store) → Facts answers →
      Next last answers → is_enclosed enclosures (control_at answers) ≡ false →
      Comes (length answers) (placed setting other by copy (the_real (length answers)).past) →
      Stood side skip regions masks setting other by (the_run answers).labels last (the_turn answers) copy
      (the_real (length answers)).past (the_run answers).place.past → Outside (last ∷ answers)
  to_outside last answers by copy facts next exposed comes stood =
      let n = length answers in
      let past_is : passed (the_real n).past (the_turn answers) ≡ (the_real (suc n)).past =
      sym (next.real_past ∙ ap (λ t. visited t (the_real n).past (the_turn answers)) exposed) in
      record {
        copy = stood.store;
        comes =
            subst (λ p. Comes (suc n) (placed setting other (control_at (last ∷ answers)) stood.store p)) past_is
            (subst (λ (s : State). Comes (suc n) (placed setting other s.control stood.store
            (passed (the_real n).past (the_turn answers)))) (sym next.state_is)
            (comes_outside last answers by copy facts next exposed comes stood));
        stands =
            subst (λ (s : State). Stands side skip regions setting.base s.control (the_run (last ∷ answers)).labels
            s.store stood.store (the_real (suc n)).past (the_run (last ∷ answers)).place.past) (sym next.state_is)
            (subst (λ m. Stands side skip regions setting.base (real_end (the_turn answers)).control m
            (real_end (the_turn answers)).store stood.store (the_real (suc n)).past
            (the_run (last ∷ answers)).place.past) (sym next.labels_is)
            (subst (λ p. Stands side skip regions setting.base (real_end (the_turn answers)).control
            (labels_in (at_start (the_run answers).labels) last (the_turn answers)) (real_end (the_turn answers)).store
            stood.store p (the_run (last ∷ answers)).place.past) past_is
            (subst (λ p. Stands side skip regions setting.base (real_end (the_turn answers)).control
            (labels_in (at_start (the_run answers).labels) last (the_turn answers)) (real_end (the_turn answers)).store
            stood.store (passed (the_real n).past (the_turn answers)) p) (sym next.past_is) stood.stands)));
      }

  -- a turn inside a skipped region, or its entry
  pub to_inside : (last : List ℕ) (answers : List (List ℕ)) (by : Control) (copy : Store) → Facts answers →
      Next last answers → is_enclosed enclosures (control_at answers) ≡ true →
      Comes (length answers) (placed setting other by copy (the_real (length answers)).past) →
      Skips side skip regions setting.base (real_end (the_turn answers)).control by
      (labels_in (at_start (the_run answers).labels) last (the_turn answers)) (real_end (the_turn answers)).store copy
      (the_real (length answers)).past (passed (the_run answers).place.past (the_turn answers)) → Inside
      (last ∷ answers)
  to_inside last answers by copy facts next enclosed comes skips =
      let n = length answers in
      let past_is : (the_real n).past ≡ (the_real (suc n)).past =
      sym (next.real_past ∙ ap (λ t. visited t (the_real n).past (the_turn answers)) enclosed) in
      let crosses_is : cross_after enclosures masks (suc n) the_start ≡ cross_after enclosures masks n the_start =
      next.crosses ∙ ap (λ t. cross_after enclosures masks n the_start
      ++ crossing_unless t masks (the_real n).past (the_turn answers)) enclosed
      ∙ append-nil (cross_after enclosures masks n the_start) in
      record {
        copy = copy;
        entered_by = by;
        comes =
            subst (λ p. Comes (suc n) (placed setting other by copy p)) past_is
            (ap₂ (λ c b. feed (Replay enclosures masks c copy_start) b)
            (common_enclosed enclosures n the_start (real_enclosed answers true facts enclosed)) crosses_is ∙ comes);
        skips =
            subst (λ (s : State). Skips side skip regions setting.base s.control by (the_run (last ∷ answers)).labels
            s.store copy (the_real (suc n)).past (the_run (last ∷ answers)).place.past) (sym next.state_is)
            (subst (λ m. Skips side skip regions setting.base (real_end (the_turn answers)).control by m
            (real_end (the_turn answers)).store copy (the_real (suc n)).past (the_run (last ∷ answers)).place.past)
            (sym next.labels_is)
            (subst (λ p. Skips side skip regions setting.base (real_end (the_turn answers)).control by
            (labels_in (at_start (the_run answers).labels) last (the_turn answers)) (real_end (the_turn answers)).store
            copy p (the_run (last ∷ answers)).place.past) past_is
            (subst (λ p. Skips side skip regions setting.base (real_end (the_turn answers)).control by
            (labels_in (at_start (the_run answers).labels) last (the_turn answers)) (real_end (the_turn answers)).store
            copy (the_real n).past p) (sym next.past_is) skips)));
      }

  -- the mode after a turn, by what the turn was
  abbrev pub Later : List ℕ → List (List ℕ) → Type 0
  Later last answers =
      ((is_enclosed enclosures (control_at answers) ≡ false) × Outside (last ∷ answers))
      ⊎ ((is_enclosed enclosures (control_at answers) ≡ true) × Inside (last ∷ answers))
