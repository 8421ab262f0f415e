-- After each turn of a run of which masks are kept the replay that was fed the crossing bits stands beside the real run,
-- or at the entry of the skipped region that the real run is in.
use Rattle.std.proofs.Common.{◌≡◌, ℕ, suc, ◌^◌, ◌<◌, ◌⊎◌, inl, inr, Bool, true, false, List, ◌∷◌, length}
use Rattle.std.proofs.Common.{Some, None, refl, sym, ap, subst, ◌∙◌}
use Rattle.std.specs.Prelude.{◌==◌, if◌then◌else◌}
use Rattle.std.proofs.lemmas.Bool.{eqb-true}
use Rattle.flow_base.specs.declared.points.Point.{Point}
use Rattle.crossing_bits.specs.Askers.{feed}
use Rattle.enclosure_regions.specs.declared.region_parts.Region.{Region}
use Rattle.enclosure_regions.specs.Regions.{are_regions}
use Rattle.rv32im_machine.specs.declared.stepping.Stepped.TheVariants.{Ran}
use Rattle.rv32im_machine.specs.Folds.{real_end}
use Rattle.rv32im_machine.specs.Language.{Walk}
use Rattle.rv32im_machine.specs.State.{Setting, Control, Store, State}
use Rattle.region_machine.specs.Breaking.{Breaks, kind_break}
use Rattle.region_machine.specs.Enclosures.{Kind, Enters, Leaves, Steps, kind_of, is_enclosed, is_enclosed_kind}
use Rattle.region_machine.specs.Guests.{guest_walk, kind_walk}
use Rattle.region_machine.specs.Runs.{Place, passed, visited, Real, turn_unless, unbroken_turn}
use Rattle.region_machine.proofs.NoExitInside.{enclosed_runs_on}
use Rattle.region_machine.proofs.RangesStayInside.{numbered, entered_found}
use Rattle.replay_machine.specs.Runs.{ReplayPlace, replay_fresh, replay_turn}
use Rattle.lockstep_replay.specs.Crossing.{crossing, crossing_of, crossing_unbroken, crossing_unless}
use Rattle.lockstep_replay.specs.Tasks.{Task, real_start, real_of}
use Rattle.lockstep_replay.proofs.RunsGrow.{IsAt, fed_next, at_enclosed}
use Rattle.shadow_masks.specs.Writes.{LabelMap}
use Rattle.run_labels.specs.Runs.{entered_number, stopped_fault}
use Rattle.run_labels.specs.TurnLabels.{at_start}
use Rattle.acceptance_law.specs.Inputs.{AreBytes}
use Rattle.acceptance_law.specs.ProperLaws.{ProperTurnsLaw}
use Rattle.acceptance_law.proofs.ModeSteps.{ran_of}
use Rattle.acceptance_law.proofs.RunFacts.{SameSetting, state_parts}
use Rattle.acceptance_law.proofs.StepsKeepStanding.{state_of, placed}
use Rattle.acceptance_law.proofs.TurnKinds.{enters_outside, leaves_inside, steps_inside, inside_turn, numbered_rules}
use Rattle.acceptance_law.proofs.TurnKinds.{numbered_id}
use Rattle.masked_turns.specs.Clearing.{Cutting, cleared_in}
use Rattle.masked_turns.proofs.OutsideMasks.{AreSmall}
use Rattle.taint_check.specs.Cleared.{MaskedRun, Cleared, is_hidden, leaves_skipped, labels_unless, next_masked}
use Rattle.taint_check.proofs.RunVerdicts.{cleared_place}
use Rattle.taint_check.proofs.SkipsAgree.{Within, skip_enters, skip_steps, skip_leaves}
use Rattle.taint_check.proofs.StandsAgree.{At, HasStood, step_stands, entry_stands, leave_stands}
use Rattle.taint_check.proofs.TurnsAgree.{IsClear}
use Rattle.flow_base.specs.Listed.{is_listed}

module _ (task : Task) (secret other : List ℕ) (bytes : AreBytes secret) (others : AreBytes other)
    (public_bytes : AreBytes (real_start task secret).state.setting.public_input)
    (small_start : (real_start task secret).state.setting.start_break < 2 ^ 32) (small : AreSmall task.masks)
    (proper : ProperTurnsLaw) (rules : are_regions task.enclosures.regions ≡ true)
    (nowhere : is_listed task.enclosures.skip 0 ≡ false) where
  abbrev pub the_start : Place
  the_start = real_start task secret

  abbrev pub setting : Setting
  setting = the_start.state.setting

  abbrev pub regions : List Region
  regions = task.enclosures.regions

  abbrev pub copy_start : ReplayPlace
  copy_start = replay_fresh (state_of setting other the_start.state.control the_start.state.store)

  -- the replay that is fed the crossing bits of so many turns comes to this place and uses them up
  abbrev pub Comes : ℕ → ReplayPlace → Type 0
  Comes turns place = IsAt task.enclosures task.masks the_start copy_start turns place

  abbrev pub StandsAt : Control → LabelMap → Store → Store → List Point → Type 0
  StandsAt control labels real copy past =
      At task.enclosures.skip regions task.masks setting secret other bytes others public_bytes small_start small proper
      control labels real copy past

  abbrev pub WithinAt : Control → Control → LabelMap → Store → Store → List Point → Type 0
  WithinAt control entered_by labels real copy past =
      Within task.enclosures.skip regions task.masks setting secret other bytes others public_bytes small_start small
      proper control entered_by labels real copy past

  abbrev pub Stood : Control → LabelMap → Walk → Store → List Point → Type 0
  Stood control later walk copy past =
      HasStood task.enclosures.skip regions task.masks setting secret other bytes others public_bytes small_start small
      proper control later walk copy past

  pub record Outside (turns : ℕ) (run : MaskedRun) : Type 0 where
    pub copy : Store
    pub comes : Comes turns (placed setting other run.place.state.control copy run.place.past)
    pub stands : StandsAt run.place.state.control run.labels run.place.state.store copy run.place.past

  pub record Inside (turns : ℕ) (run : MaskedRun) : Type 0 where
    pub copy : Store
    pub entered_by : Control
    pub comes : Comes turns (placed setting other entered_by copy run.place.past)
    pub within : WithinAt run.place.state.control entered_by run.labels run.place.state.store copy run.place.past

  -- ---- one turn

  module _ (answers : List (List ℕ)) (last : List ℕ)
      (unbroken : (Cleared task secret answers).place.broken ≡ None)
      (same : SameSetting setting secret (Cleared task secret answers).place.state) where
    abbrev pub the_run : MaskedRun
    the_run = Cleared task secret answers

    abbrev pub here : Control
    here = the_run.place.state.control

    abbrev pub values : Store
    values = the_run.place.state.store

    abbrev pub past : List Point
    past = the_run.place.past

    abbrev pub the_state : State
    the_state = state_of setting secret here values

    abbrev pub walk_as : Kind → Walk
    walk_as kind = kind_walk kind the_state

    abbrev pub cutting_as : Kind → Cutting
    cutting_as kind = record { masks = task.masks; skipped = leaves_skipped task.enclosures kind }

    abbrev pub labels_as : Bool → Kind → LabelMap
    labels_as true kind = the_run.labels
    labels_as false kind = cleared_in (cutting_as kind) past (at_start the_run.labels) last (walk_as kind)

    abbrev pub ClearAs : Kind → Type 0
    ClearAs kind =
        IsClear (entered_number kind) (cutting_as kind) past (at_start the_run.labels) last (walk_as kind)

    pub parts : the_run.place.state ≡ the_state
    parts = state_parts the_run.place.state setting secret same

    -- where the run comes to
    abbrev pub next_as : Kind → MaskedRun
    next_as kind = record {
      place = record {
        state = real_end (walk_as kind);
        past = visited (is_enclosed_kind task.enclosures kind) past (walk_as kind);
        broken = kind_break kind the_state;
      };
      labels = labels_as (is_hidden task.enclosures kind) kind;
    }

    pub next_is : Cleared task secret (last ∷ answers) ≡ next_as (kind_of regions here)
    unfolding Cleared
    next_is =
        let place_is : (next_masked task last the_run).place ≡ unbroken_turn task.enclosures the_run.place =
        ap (λ b. turn_unless b task.enclosures the_run.place) unbroken in
        let by_parts : unbroken_turn task.enclosures the_run.place ≡ (next_as (kind_of regions here)).place =
        ap (λ (s : State). record {
          state = real_end (guest_walk regions s);
          past = visited (is_enclosed task.enclosures here) past (guest_walk regions s);
          broken = Breaks regions s;
        }) parts in
        let labels_are : (next_masked task last the_run).labels ≡ (next_as (kind_of regions here)).labels =
        labelled (is_hidden task.enclosures (kind_of regions here)) in
        let both : (next_masked task last the_run).place ≡ (next_as (kind_of regions here)).place = place_is ∙ by_parts in
        λ i. record { place = both i; labels = labels_are i }
      where
        labelled : (t : Bool) → labels_unless t task last the_run ≡ labels_as t (kind_of regions here)
        labelled true = refl
        labelled false =
            ap (λ (s : State). cleared_in (cutting_as (kind_of regions here)) past (at_start the_run.labels) last
            (guest_walk regions s)) parts

    crosses : is_enclosed task.enclosures here ≡ false →
        crossing_of task.enclosures task.masks (real_of task secret (length answers))
        ≡ crossing task.masks past (guest_walk regions the_state)
    crosses exposed =
        ap (λ (p : Place). crossing_of task.enclosures task.masks p) (sym (cleared_place task secret answers))
        ∙ ap (λ b. crossing_unbroken b task.enclosures task.masks the_run.place) unbroken
        ∙ ap (λ t. crossing_unless t task.masks past (guest_walk regions the_run.place.state)) exposed
        ∙ ap (λ s. crossing task.masks past (guest_walk regions s)) parts

    real_enclosed : (t : Bool) → is_enclosed task.enclosures here ≡ t →
        is_enclosed task.enclosures (Real task.enclosures (length answers) the_start).state.control ≡ t
    real_enclosed t e =
        ap (λ (p : Place). is_enclosed task.enclosures p.state.control) (sym (cleared_place task secret answers)) ∙ e

    -- the mode after a turn, by what the turn was
    abbrev pub Later : Type 0
    Later =
        ((is_enclosed task.enclosures here ≡ false)
        × Outside (suc (length answers)) (Cleared task secret (last ∷ answers)))
        ⊎ ((is_enclosed task.enclosures here ≡ true)
        × Inside (suc (length answers)) (Cleared task secret (last ∷ answers)))

    -- a common turn
    stood_as : (kind : Kind) (by : Control) (copy : Store) → kind_of regions here ≡ kind →
        is_enclosed_kind task.enclosures kind ≡ false → is_hidden task.enclosures kind ≡ false →
        Comes (length answers) (placed setting other by copy past) →
        Stood by (labels_as false kind) (walk_as kind) copy past → Later
    stood_as kind by copy e exposed shown comes stood =
        let is : is_enclosed task.enclosures here ≡ false = ap (λ k. is_enclosed_kind task.enclosures k) e ∙ exposed in
        let now : Comes (suc (length answers))
        (placed setting other (real_end (walk_as kind)).control stood.store (passed past (walk_as kind))) =
        fed_next task.enclosures task.masks (length answers) the_start copy_start (placed setting other by copy past)
        (real_enclosed false is) comes
        ∙ (ap (λ bits. feed (replay_turn task.enclosures task.masks (placed setting other by copy past)) bits)
        (crosses is ∙ ap (λ k. crossing task.masks past (walk_as k)) e) ∙ stood.uses) in
        let reached : Outside (suc (length answers)) (record {
          place = record {
            state = real_end (walk_as kind);
            past = passed past (walk_as kind);
            broken = kind_break kind the_state;
          };
          labels = labels_as false kind;
        }) = record { copy = stood.store; comes = now; stands = stood.stands } in
        inl (
          is,
          subst (λ r. Outside (suc (length answers)) r) (sym next_is)
              (subst (λ k. Outside (suc (length answers)) (next_as k)) (sym e)
              (subst (λ t. Outside (suc (length answers)) (record {
                place = record {
                  state = real_end (walk_as kind);
                  past = visited t past (walk_as kind);
                  broken = kind_break kind the_state;
                };
                labels = labels_as (is_hidden task.enclosures kind) kind;
              })) (sym exposed)
              (subst (λ t. Outside (suc (length answers)) (record {
                place = record {
                  state = real_end (walk_as kind);
                  past = passed past (walk_as kind);
                  broken = kind_break kind the_state;
                };
                labels = labels_as t kind;
              })) (sym shown) reached))),
        )

    -- the entry of a skipped region, or a turn inside it
    skips_as : (kind : Kind) (by : Control) (copy : Store) → kind_of regions here ≡ kind →
        is_enclosed_kind task.enclosures kind ≡ true → Comes (length answers) (placed setting other by copy past) →
        WithinAt (real_end (walk_as kind)).control by (labels_as (is_hidden task.enclosures kind) kind)
        (real_end (walk_as kind)).store copy past → Later
    skips_as kind by copy e enclosed comes within =
        let is : is_enclosed task.enclosures here ≡ true = ap (λ k. is_enclosed_kind task.enclosures k) e ∙ enclosed in
        let now : Comes (suc (length answers)) (placed setting other by copy past) =
        at_enclosed task.enclosures task.masks the_start copy_start (length answers) (placed setting other by copy past)
        (real_enclosed true is) comes in
        let reached : Inside (suc (length answers)) (record {
          place = record { state = real_end (walk_as kind); past = past; broken = kind_break kind the_state };
          labels = labels_as (is_hidden task.enclosures kind) kind;
        }) = record { copy = copy; entered_by = by; comes = now; within = within } in
        inr (
          is,
          subst (λ r. Inside (suc (length answers)) r) (sym next_is)
              (subst (λ k. Inside (suc (length answers)) (next_as k)) (sym e)
              (subst (λ t. Inside (suc (length answers)) (record {
                place = record {
                  state = real_end (walk_as kind);
                  past = visited t past (walk_as kind);
                  broken = kind_break kind the_state;
                };
                labels = labels_as (is_hidden task.enclosures kind) kind;
              })) (sym enclosed) reached)),
        )

    module _ (clear : is_hidden task.enclosures (kind_of regions here) ≡ false → ClearAs (kind_of regions here))
        (whole : Breaks regions the_state ≡ None)
        (goes_on : stopped_fault (real_end (guest_walk regions the_state)).control.mode ≡ None) where
      clear_as : (kind : Kind) → kind_of regions here ≡ kind → is_hidden task.enclosures kind ≡ false → ClearAs kind
      clear_as kind e shown =
          subst (λ k. ClearAs k) e (clear (ap (λ k. is_hidden task.enclosures k) e ∙ shown))

      unbroken_as : (kind : Kind) → kind_of regions here ≡ kind → kind_break kind the_state ≡ None
      unbroken_as kind e = subst (λ k. kind_break k the_state ≡ None) e whole

      -- ---- from outside

      module _ (at : Outside (length answers) the_run) where
        enters : (region : Region) → kind_of regions here ≡ Enters region → (t : Bool) →
            is_listed task.enclosures.skip region.id ≡ t → Later
        enters region e false unskipped =
            let found = numbered regions (λ other_region. other_region.enter == here.pc) region rules
            (entered_found here.mode regions here region e) in
            stood_as (Enters region) here at.copy e unskipped refl at.comes
            (entry_stands task.enclosures.skip regions task.masks setting secret other bytes others public_bytes
            small_start small proper here the_run.labels last values at.copy past region e unskipped found
            (unbroken_as (Enters region) e) at.stands (clear_as (Enters region) e refl))
        enters region e true skipped =
            let found = numbered regions (λ other_region. other_region.enter == here.pc) region rules
            (entered_found here.mode regions here region e) in
            let out = enters_outside here.mode regions here region e in
            skips_as (Enters region) here at.copy e skipped at.comes
            (skip_enters task.enclosures.skip regions task.masks setting secret other bytes others public_bytes small_start
            small proper here the_run.labels last values at.copy past region out.0 e skipped found
            (at.stands.nowhere out.1) (unbroken_as (Enters region) e) at.stands (clear_as (Enters region) e refl))

        outside_turn : (kind : Kind) → kind_of regions here ≡ kind → Later
        outside_turn (Enters region) e = enters region e (is_listed task.enclosures.skip region.id) refl
        outside_turn (Leaves region) e =
            let found = leaves_inside here.mode regions here region e in
            stood_as (Leaves region) here at.copy e refl refl at.comes
            (leave_stands task.enclosures.skip regions task.masks setting secret other bytes others public_bytes
            small_start small proper (leaves_skipped task.enclosures (Leaves region)) here the_run.labels last values
            at.copy past region e found (numbered_rules regions here.region region rules found) nowhere
            (unbroken_as (Leaves region) e) at.stands (clear_as (Leaves region) e refl))
        outside_turn (Steps None) e =
            stood_as (Steps None) here at.copy e refl refl at.comes
            (step_stands task.enclosures.skip regions task.masks setting secret other bytes others public_bytes small_start
            small proper here the_run.labels last values at.copy past None e at.stands (clear_as (Steps None) e refl))
        outside_turn (Steps (Some region)) e =
            let found = steps_inside here.mode regions here region e in
            let unskipped : is_listed task.enclosures.skip region.id ≡ false =
            subst (λ r. is_listed task.enclosures.skip r ≡ false) (sym (numbered_id regions here.region region found))
            at.stands.runs in
            stood_as (Steps (Some region)) here at.copy e unskipped unskipped at.comes
            (step_stands task.enclosures.skip regions task.masks setting secret other bytes others public_bytes small_start
            small proper here the_run.labels last values at.copy past (Some region) e at.stands
            (clear_as (Steps (Some region)) e unskipped))

      -- ---- from inside a skipped region

      module _ (at : Inside (length answers) the_run) where
        runs_on : is_enclosed task.enclosures here ≡ true → (real_end (walk_as (kind_of regions here))).control.mode ≡ Ran
        runs_on enclosed =
            ran_of (real_end (walk_as (kind_of regions here))).control.mode
            (enclosed_runs_on task.enclosures the_state enclosed whole) goes_on

        leaves : here.pc ≡ at.within.region.leave → kind_of regions here ≡ Leaves at.within.region → Later
        leaves pc e =
            let region = at.within.region in
            let known = clear_as (Leaves region) e refl in
            let full : leaves_skipped task.enclosures (Leaves region) ≡ true = at.within.skipped in
            let stood = skip_leaves task.enclosures.skip regions task.masks setting secret other bytes others public_bytes
            small_start small proper here at.entered_by the_run.labels last values at.copy past at.within pc
            (numbered_rules regions here.region region rules at.within.numbered) nowhere (unbroken_as (Leaves region) e)
            (subst (λ t. IsClear 0 (record { masks = task.masks; skipped = t }) past (at_start the_run.labels) last
            (walk_as (Leaves region))) full known) in
            stood_as (Leaves region) at.entered_by at.copy e refl refl at.comes
            (subst (λ t. Stood at.entered_by (cleared_in (record { masks = task.masks; skipped = t }) past
            (at_start the_run.labels) last (walk_as (Leaves region))) (walk_as (Leaves region)) at.copy past) (sym full)
            stood)

        steps : kind_of regions here ≡ Steps (Some at.within.region) → Later
        steps e =
            let region = at.within.region in
            let enclosed : is_enclosed task.enclosures here ≡ true =
            ap (λ k. is_enclosed_kind task.enclosures k) e ∙ at.within.skipped in
            let ran = subst (λ k. (real_end (walk_as k)).control.mode ≡ Ran) e (runs_on enclosed) in
            skips_as (Steps (Some region)) at.entered_by at.copy e at.within.skipped at.comes
            (subst (λ t. WithinAt (real_end (walk_as (Steps (Some region)))).control at.entered_by
            (labels_as t (Steps (Some region))) (real_end (walk_as (Steps (Some region)))).store at.copy past)
            (sym at.within.skipped)
            (skip_steps task.enclosures.skip regions task.masks setting secret other bytes others public_bytes small_start
            small proper here at.entered_by the_run.labels values at.copy past at.within
            (unbroken_as (Steps (Some region)) e) ran))

        inside_later : (t : Bool) → (at.within.region.leave == here.pc) ≡ t → Later
        inside_later true is =
            leaves (sym (eqb-true at.within.region.leave here.pc is))
            (inside_turn here.mode regions here at.within.region at.within.ran at.within.numbered
            ∙ ap (λ t. if t then Leaves at.within.region else Steps (Some at.within.region)) is)
        inside_later false is =
            steps
            (inside_turn here.mode regions here at.within.region at.within.ran at.within.numbered
            ∙ ap (λ t. if t then Leaves at.within.region else Steps (Some at.within.region)) is)

      -- the mode after the turn
      pub later : Outside (length answers) the_run ⊎ Inside (length answers) the_run → Later
      later (inl at) = outside_turn at (kind_of regions here) refl
      later (inr at) = inside_later at (at.within.region.leave == here.pc) refl
