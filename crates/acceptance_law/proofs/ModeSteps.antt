-- Each turn of a covered run, by its kind, moves the run between the modes of its replay.
use Rattle.std.proofs.Common.{◌≡◌, ℕ, ◌^◌, ◌<◌, ◌⊎◌, inl, inr, Bool, true, false, List, [], ◌∷◌, length}
use Rattle.std.proofs.Common.{Some, None, refl, sym, ap, subst, ◌∙◌}
use Rattle.std.specs.Prelude.{◌==◌, if◌then◌else◌}
use Rattle.std.proofs.lemmas.Bool.{eqb-true}
use Rattle.flow_base.specs.declared.points.Point.{Point}
use Rattle.enclosure_regions.specs.declared.region_parts.Region.{Region}
use Rattle.enclosure_regions.specs.Regions.{are_regions}
use Rattle.rv32im_machine.specs.declared.stepping.Stepped.{Stepped}
use Rattle.rv32im_machine.specs.declared.stepping.Stepped.TheVariants.{Ran, Exited, Stopped}
use Rattle.rv32im_machine.specs.State.{Setting, Control, Store}
use Rattle.rv32im_machine.specs.Language.{Walk}
use Rattle.rv32im_machine.specs.Folds.{real_end}
use Rattle.region_machine.specs.Enclosures.{Enclosures, Kind, Enters, Leaves, Steps, kind_of, is_enclosed}
use Rattle.region_machine.specs.Enclosures.{is_enclosed_kind}
use Rattle.region_machine.specs.Guests.{kind_walk}
use Rattle.region_machine.specs.Breaking.{kind_break}
use Rattle.region_machine.specs.Runs.{passed, has_exited}
use Rattle.region_machine.proofs.RangesStayInside.{numbered, entered_found}
use Rattle.region_machine.proofs.NoExitInside.{enclosed_runs_on}
use Rattle.replay_machine.specs.Runs.{Masks}
use Rattle.shadow_masks.specs.Writes.{LabelMap}
use Rattle.run_labels.specs.Traces.{labels_in}
use Rattle.run_labels.specs.Runs.{stopped_fault, entered_number}
use Rattle.run_labels.specs.TurnLabels.{at_start}
use Rattle.acceptance_law.specs.Sides.{NamedSide}
use Rattle.acceptance_law.specs.Inputs.{AreBytes}
use Rattle.acceptance_law.specs.ProperLaws.{ProperTurnsLaw}
use Rattle.acceptance_law.proofs.TurnsKeepRelation.{CoveredTurn}
use Rattle.acceptance_law.proofs.StepsKeepStanding.{state_of, placed, Stood, SkipsRelays, step_stands}
use Rattle.acceptance_law.proofs.RegionTurns.{entry_stands, leave_stands}
use Rattle.acceptance_law.proofs.SkippedTurns.{Skips, skip_enters, skip_steps, skip_leaves}
use Rattle.acceptance_law.proofs.TurnKinds.{enters_outside, leaves_inside, steps_inside, inside_turn, numbered_rules}
use Rattle.acceptance_law.proofs.TurnKinds.{numbered_id}
use Rattle.acceptance_law.proofs.StandsOrSkips.{enclosures, the_run, the_real, control_at, store_at, Comes, Outside}
use Rattle.acceptance_law.proofs.StandsOrSkips.{Inside, Facts, Next, Known, Later, to_outside, to_inside}
use Rattle.acceptance_law.proofs.RunFacts.{Premises, earlier, run_facts, next_turn, turn_known}
use Rattle.flow_base.specs.Listed.{is_listed}

pub ran_of : (mode : Stepped) → has_exited mode ≡ false → stopped_fault mode ≡ None → mode ≡ Ran
ran_of Ran e f = refl
ran_of (Exited status) e f = absurd (cc)
ran_of (Stopped fault) e f = absurd (cc)

module _ (side : NamedSide) (skip : List ℕ) (regions : List Region) (masks : Masks) (setting : Setting)
    (secret other : List ℕ) (first : Control) (store : Store) (bytes : AreBytes secret) (others : AreBytes other)
    (public_bytes : AreBytes setting.public_input) (small_start : setting.start_break < 2 ^ 32)
    (skips : SkipsRelays side skip regions) (proper : ProperTurnsLaw)
    (rules : are_regions regions ≡ true) (nowhere : is_listed skip 0 ≡ false) where
  abbrev pub IsOutside : List (List ℕ) → Type 0
  IsOutside answers = Outside side skip regions masks setting secret other first store answers

  abbrev pub IsInside : List (List ℕ) → Type 0
  IsInside answers = Inside side skip regions masks setting secret other first store answers

  abbrev pub IsLater : List ℕ → List (List ℕ) → Type 0
  IsLater last answers = Later side skip regions masks setting secret other first store last answers

  module _ (last : List ℕ) (answers : List (List ℕ))
      (facts : Facts side skip regions masks setting secret other first store answers)
      (next : Next side skip regions masks setting secret other first store last answers)
      (known : Known side skip regions masks setting secret other first store last answers) where
    abbrev pub here : Control
    here = control_at side skip regions masks setting secret other first store answers

    abbrev pub values : Store
    values = store_at side skip regions masks setting secret other first store answers

    abbrev pub tags : LabelMap
    tags = (the_run side skip regions masks setting secret other first store answers).labels

    abbrev pub all : List Point
    all = (the_run side skip regions masks setting secret other first store answers).place.past

    abbrev pub past : List Point
    past = (the_real side skip regions masks setting secret other first store (length answers)).past

    abbrev pub both : Enclosures
    both = enclosures side skip regions masks setting secret other first store

    -- the turn as that of its kind
    abbrev pub walk_as : Kind → Walk
    walk_as kind = kind_walk kind (state_of setting secret here values)

    covered_as : (kind : Kind) → kind_of regions here ≡ kind →
        CoveredTurn side skip masks (entered_number kind) (at_start tags) last all (walk_as kind)
    covered_as kind e =
        subst (λ k. CoveredTurn side skip masks (entered_number k) (at_start tags) last all (walk_as k)) e known.covered

    unbroken_as : (kind : Kind) → kind_of regions here ≡ kind →
        kind_break kind (state_of setting secret here values) ≡ None
    unbroken_as kind e =
        subst (λ k. kind_break k (state_of setting secret here values) ≡ None) e known.unbroken

    enclosed_as : (kind : Kind) (t : Bool) → kind_of regions here ≡ kind → is_enclosed_kind both kind ≡ t →
        is_enclosed both here ≡ t
    enclosed_as kind t e is = ap (λ k. is_enclosed_kind both k) e ∙ is

    -- a common turn
    stood_as : (kind : Kind) (by : Control) (copy : Store) → kind_of regions here ≡ kind →
        is_enclosed_kind both kind ≡ false →
        Comes side skip regions masks setting secret other first store (length answers)
        (placed setting other by copy past) →
        Stood side skip regions masks setting other by tags last (walk_as kind) copy past all → IsLater last answers
    stood_as kind by copy e exposed comes stood =
        inl (
          enclosed_as kind false e exposed,
          to_outside side skip regions masks setting secret other first store last answers by copy facts next
              (enclosed_as kind false e exposed) comes
              (subst (λ k. Stood side skip regions masks setting other by tags last (walk_as k) copy past all)
              (sym e) stood),
        )

    -- the entry of a skipped region, or a turn inside it
    skips_as : (kind : Kind) (by : Control) (copy : Store) → kind_of regions here ≡ kind →
        is_enclosed_kind both kind ≡ true →
        Comes side skip regions masks setting secret other first store (length answers)
        (placed setting other by copy past) →
        Skips side skip regions setting.base (real_end (walk_as kind)).control by
        (labels_in (at_start tags) last (walk_as kind)) (real_end (walk_as kind)).store copy past
        (passed all (walk_as kind)) → IsLater last answers
    skips_as kind by copy e enclosed comes inside =
        inr (
          enclosed_as kind true e enclosed,
          to_inside side skip regions masks setting secret other first store last answers by copy facts next
              (enclosed_as kind true e enclosed) comes
              (subst (λ k. Skips side skip regions setting.base (real_end (walk_as k)).control by
              (labels_in (at_start tags) last (walk_as k)) (real_end (walk_as k)).store copy past
              (passed all (walk_as k)))
              (sym e) inside),
        )

    -- ---- from outside

    module _ (at : IsOutside answers) where
      enters : (region : Region) → kind_of regions here ≡ Enters region → (t : Bool) → is_listed skip region.id ≡ t →
          IsLater last answers
      enters region e false unskipped =
          let found = numbered regions (λ other. other.enter == here.pc) region rules
          (entered_found here.mode regions here region e) in
          stood_as (Enters region) here at.copy e unskipped at.comes
          (entry_stands side skip regions masks setting secret other here tags last values at.copy past all region e
          unskipped found (unbroken_as (Enters region) e) at.stands (covered_as (Enters region) e))
      enters region e true skipped =
          let found = numbered regions (λ other. other.enter == here.pc) region rules
          (entered_found here.mode regions here region e) in
          let out = enters_outside here.mode regions here region e in
          skips_as (Enters region) here at.copy e skipped at.comes
          (skip_enters side skip regions masks setting secret other bytes others public_bytes small_start skips proper
          here tags last values at.copy past all region out.0 e skipped found (at.stands.nowhere out.1)
          (unbroken_as (Enters region) e) at.stands (covered_as (Enters region) e))

      outside_turn : (kind : Kind) → kind_of regions here ≡ kind → IsLater last answers
      outside_turn (Enters region) e = enters region e (is_listed skip region.id) refl
      outside_turn (Leaves region) e =
          let found = leaves_inside here.mode regions here region e in
          stood_as (Leaves region) here at.copy e refl at.comes
          (leave_stands side skip regions masks setting secret other here tags last values at.copy past all region e
          found (numbered_rules regions here.region region rules found) nowhere (unbroken_as (Leaves region) e)
          at.stands (covered_as (Leaves region) e))
      outside_turn (Steps None) e =
          stood_as (Steps None) here at.copy e refl at.comes
          (step_stands side skip regions masks setting secret other bytes others public_bytes small_start skips proper
          here tags last values at.copy past all None e at.stands (covered_as (Steps None) e))
      outside_turn (Steps (Some region)) e =
          let found = steps_inside here.mode regions here region e in
          let unskipped : is_listed skip region.id ≡ false =
          subst (λ r. is_listed skip r ≡ false) (sym (numbered_id regions here.region region found)) at.stands.runs in
          stood_as (Steps (Some region)) here at.copy e unskipped at.comes
          (step_stands side skip regions masks setting secret other bytes others public_bytes small_start skips proper
          here tags last values at.copy past all (Some region) e at.stands (covered_as (Steps (Some region)) e))

    -- ---- from inside a skipped region

    module _ (at : IsInside answers) where
      goes_on : is_enclosed both here ≡ true →
          (real_end (walk_as (kind_of regions here))).control.mode ≡ Ran
      goes_on enclosed =
          ran_of (real_end (walk_as (kind_of regions here))).control.mode
          (enclosed_runs_on both (state_of setting secret here values) enclosed known.unbroken) known.goes_on

      leaves : here.pc ≡ at.skips.region.leave → kind_of regions here ≡ Leaves at.skips.region → IsLater last answers
      leaves pc e =
          let region = at.skips.region in
          stood_as (Leaves region) at.entered_by at.copy e refl at.comes
          (skip_leaves side skip regions masks setting secret other bytes others public_bytes small_start skips proper
          here at.entered_by tags last values at.copy past all at.skips pc
          (numbered_rules regions here.region region rules at.skips.numbered) nowhere
          (unbroken_as (Leaves region) e) (covered_as (Leaves region) e))

      steps : kind_of regions here ≡ Steps (Some at.skips.region) → IsLater last answers
      steps e =
          let region = at.skips.region in
          let enclosed = enclosed_as (Steps (Some region)) true e at.skips.skipped in
          let ran = subst (λ k. (real_end (walk_as k)).control.mode ≡ Ran) e (goes_on enclosed) in
          skips_as (Steps (Some region)) at.entered_by at.copy e at.skips.skipped at.comes
          (skip_steps side skip regions masks setting secret other bytes others public_bytes small_start skips proper
          here at.entered_by tags last values at.copy past all at.skips (unbroken_as (Steps (Some region)) e) ran
          (covered_as (Steps (Some region)) e).sound)

      inside_later : (t : Bool) → (at.skips.region.leave == here.pc) ≡ t → IsLater last answers
      inside_later true is =
          leaves (sym (eqb-true at.skips.region.leave here.pc is))
          (inside_turn here.mode regions here at.skips.region at.skips.ran at.skips.numbered
          ∙ ap (λ t. if t then Leaves at.skips.region else Steps (Some at.skips.region)) is)
      inside_later false is =
          steps
          (inside_turn here.mode regions here at.skips.region at.skips.ran at.skips.numbered
          ∙ ap (λ t. if t then Leaves at.skips.region else Steps (Some at.skips.region)) is)

    -- the mode after the turn
    pub later : IsOutside answers ⊎ IsInside answers → IsLater last answers
    later (inl at) = outside_turn at (kind_of regions here) refl
    later (inr at) = inside_later at (at.skips.region.leave == here.pc) refl

  -- ---- runs

  module _ (begins : IsOutside []) where
    abbrev pub Known_of : List (List ℕ) → Type 0
    Known_of answers = Premises side skip regions masks setting secret first store answers

    mode_of : {last : List ℕ} {answers : List (List ℕ)} → IsLater last answers →
        IsOutside (last ∷ answers) ⊎ IsInside (last ∷ answers)
    mode_of (inl h) = inl h.1
    mode_of (inr h) = inr h.1

    pub modes : (answers : List (List ℕ)) → Known_of answers → IsOutside answers ⊎ IsInside answers
    modes [] premises = inl begins
    modes (last ∷ answers) premises =
        let before = earlier side skip regions masks setting secret first store last answers premises in
        let facts = run_facts side skip regions masks setting secret first store answers before in
        mode_of (later last answers facts
        (next_turn side skip regions masks setting secret first store last answers facts)
        (turn_known side skip regions masks setting secret first store last answers facts premises)
        (modes answers before))

    -- after a common turn the replay stands beside the real run
    pub after_common : (last : List ℕ) (answers : List (List ℕ)) → Known_of (last ∷ answers) →
        IsLater last answers
    after_common last answers premises =
        let before = earlier side skip regions masks setting secret first store last answers premises in
        let facts = run_facts side skip regions masks setting secret first store answers before in
        later last answers facts
        (next_turn side skip regions masks setting secret first store last answers facts)
        (turn_known side skip regions masks setting secret first store last answers facts premises)
        (modes answers before)
