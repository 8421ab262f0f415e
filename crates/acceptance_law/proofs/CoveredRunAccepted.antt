-- A covered run is accepted.
use Rattle.std.proofs.Common.{◌≡◌, ℕ, suc, ◌<◌, ◌≤◌, ◌⊎◌, ⊎_elim, Bool, true, false, List, []}
use Rattle.std.proofs.Common.{◌∷◌, length, None, refl, sym, ap, subst, ◌∙◌, arith}
use Rattle.std.specs.Prelude.{replicate}
use Rattle.std.proofs.lemmas.Bool.{cases_lt}
use Rattle.std.proofs.lemmas.List.{get_or-replicate, get_or_past, length-replicate}
use Rattle.flow_base.specs.declared.outputs.Output.{Output}
use Rattle.crossing_bits.specs.Askers.{feed, Fed'}
use Rattle.enclosure_regions.specs.declared.region_parts.Region.{Region}
use Rattle.enclosure_regions.specs.Regions.{are_regions}
use Rattle.rv32im_machine.specs.declared.stepping.Stepped.{Stepped}
use Rattle.rv32im_machine.specs.declared.stepping.Stepped.TheVariants.{Ran, Exited, Stopped}
use Rattle.rv32im_machine.specs.Start.{zeros}
use Rattle.rv32im_machine.specs.State.{Setting, Control, Store, State}
use Rattle.region_machine.specs.Enclosures.{is_enclosed}
use Rattle.region_machine.specs.Runs.{Real, common_turns}
use Rattle.replay_machine.specs.Runs.{ReplayPlace, Masks, Replay}
use Rattle.lockstep_replay.specs.Acceptance.{HasExited, EndAlike, SameMark}
use Rattle.lockstep_replay.specs.Crossing.{cross_after}
use Rattle.run_labels.specs.Runs.{run_after, stopped_fault}
use Rattle.acceptance_law.specs.Sides.{NamedSide}
use Rattle.acceptance_law.specs.Inputs.{AreBytes, IsProperGuest}
use Rattle.acceptance_law.specs.ProperLaws.{ProperTurnsLaw}
use Rattle.acceptance_law.proofs.StepsKeepStanding.{state_of, placed, SkipsRelays}
use Rattle.acceptance_law.proofs.RunsBegin.{begins_beside}
use Rattle.acceptance_law.proofs.RunFacts.{Premises, earlier, run_facts, next_turn, turn_known}
use Rattle.acceptance_law.proofs.StandsOrSkips.{the_start, enclosures, the_run, the_real, control_at, copy_start, Outside}
use Rattle.acceptance_law.proofs.StandsOrSkips.{Inside}
use Rattle.acceptance_law.proofs.ModeSteps.{modes, after_common}
use Rattle.flow_base.specs.Listed.{is_listed}

pub zero_bytes : (count : ℕ) → AreBytes (zeros count)
unfolding zeros
zero_bytes count index = ⊎_elim
    (λ below. subst (λ v. v < 256) (sym (get_or-replicate count index 0 0 below)) (omega arith))
    (λ past. subst (λ v. v < 256)
    (sym (get_or_past (replicate count 0) index 0 (subst (λ n. n ≤ index) (sym (length-replicate count 0)) past)))
    (omega arith))
    (cases_lt index count)

pub length_zeros : (count : ℕ) → length (zeros count) ≡ count
unfolding zeros
length_zeros count = length-replicate count 0

-- what runs on, or has exited, ends alike with itself
pub end_alike : (mode : Stepped) → stopped_fault mode ≡ None → EndAlike mode mode
end_alike Ran e = tt
end_alike (Exited status) e = tt
end_alike (Stopped fault) e = absurd (cc)

pub same_fed : {A : Type 0} (x y : A) (bits : List Bool) → Fed' x bits ≡ Fed' y bits → x ≡ y
same_fed x y bits e = cc

module _ (side : NamedSide) (skip : List ℕ) (regions : List Region) (masks : Masks) (setting : Setting)
    (secret other : List ℕ) (first : Control) (store : Store) (bytes : AreBytes secret) (others : AreBytes other)
    (skips : SkipsRelays side skip regions) (proper : ProperTurnsLaw)
    (rules : are_regions regions ≡ true) (nowhere : is_listed skip 0 ≡ false)
    (is : IsProperGuest (state_of setting secret first store)) (outside : first.region ≡ 0) where
  begins : Outside side skip regions masks setting secret other first store []
  unfolding run_after Real Replay common_turns cross_after
  begins = record {
    copy = store;
    comes = refl;
    stands = begins_beside side skip regions (state_of setting secret first store) is outside nowhere;
  }

  -- a run of which this is known
  abbrev pub IsKnown : List (List ℕ) → Type 0
  IsKnown answers = Premises side skip regions masks setting secret first store answers

  abbrev pub LaterOf : List ℕ → List (List ℕ) → Type 0
  LaterOf last answers =
      ((is_enclosed (enclosures side skip regions masks setting secret other first store)
      (control_at side skip regions masks setting secret other first store answers) ≡ false)
      × Outside side skip regions masks setting secret other first store (last ∷ answers))
      ⊎ ((is_enclosed (enclosures side skip regions masks setting secret other first store)
      (control_at side skip regions masks setting secret other first store answers) ≡ true)
      × Inside side skip regions masks setting secret other first store (last ∷ answers))

  mode_after : (last : List ℕ) (answers : List (List ℕ)) → IsKnown (last ∷ answers) → LaterOf last answers
  mode_after last answers known =
      after_common side skip regions masks setting secret other first store bytes others is.public_input is.start_break
      skips proper rules nowhere begins last answers known

  -- the replay follows after each common turn
  abbrev pub FollowsAt : ℕ → Type 0
  FollowsAt turns =
      (place : ReplayPlace)
      × (feed (Replay (enclosures side skip regions masks setting secret other first store) masks
      (common_turns (enclosures side skip regions masks setting secret other first store) turns
      (the_start side skip regions masks setting secret other first store))
      (copy_start side skip regions masks setting secret other first store))
      (cross_after (enclosures side skip regions masks setting secret other first store) masks turns
      (the_start side skip regions masks setting secret other first store)) ≡ Fed' place [])
      × (place.outside ≡ None)
      × SameMark (the_real side skip regions masks setting secret other first store turns).state place.state

  -- a mark is like itself
  same_mark : (real copy : State) → real.control ≡ copy.control → stopped_fault real.control.mode ≡ None →
      SameMark real copy
  same_mark real copy same on = record {
    address = ap (λ (c : Control). c.pc) same;
    written = ap (λ (c : Control). length c.output) same;
    ended = subst (λ (c : Control). EndAlike real.control.mode c.mode) same (end_alike real.control.mode on);
  }

  follows_last : (last : List ℕ) (answers : List (List ℕ)) → IsKnown (last ∷ answers) →
      is_enclosed (enclosures side skip regions masks setting secret other first store)
      (the_real side skip regions masks setting secret other first store (length answers)).state.control ≡ false →
      FollowsAt (suc (length answers))
  follows_last last answers known exposed =
      let before = earlier side skip regions masks setting secret first store last answers known in
      let facts = run_facts side skip regions masks setting secret first store answers before in
      let all_facts = run_facts side skip regions masks setting secret first store (last ∷ answers) known in
      let next = next_turn side skip regions masks setting secret first store last answers facts in
      let turn = turn_known side skip regions masks setting secret first store last answers facts known in
      ⊎_elim
      (λ out.
      let at = out.1 in (
        placed setting other (control_at side skip regions masks setting secret other first store
            (last ∷ answers)) at.copy
            (the_real side skip regions masks setting secret other first store (suc (length answers))).past,
        at.comes,
        refl,
        same_mark (the_real side skip regions masks setting secret other first store (suc (length answers))).state
            (state_of setting other (control_at side skip regions masks setting secret other first store
            (last ∷ answers)) at.copy)
            (ap (λ (s : State). s.control) all_facts.same_state)
            (subst (λ (s : State). stopped_fault s.control.mode ≡ None) (sym next.real_state) turn.goes_on),
      ))
      (λ inside.
      let same : is_enclosed (enclosures side skip regions masks setting secret other first store)
      (control_at side skip regions masks setting secret other first store answers) ≡ false =
      ap (λ (s : State). is_enclosed (enclosures side skip regions masks setting secret other first store) s.control)
      (sym facts.same_state) ∙ exposed in
      let both : true ≡ false = sym inside.0 ∙ same in absurd (cc))
      (mode_after last answers known)

  pub follows_at : (answers : List (List ℕ)) → IsKnown answers → (turns : ℕ) → turns < length answers →
      is_enclosed (enclosures side skip regions masks setting secret other first store)
      (the_real side skip regions masks setting secret other first store turns).state.control ≡ false →
      FollowsAt (suc turns)
  follows_at [] known turns below exposed = absurd (omega (arith, below))
  follows_at (last ∷ answers) known turns below exposed = ⊎_elim
      (λ under.
      follows_at answers (earlier side skip regions masks setting secret first store last answers known) turns under
      exposed)
      (λ past.
      let same : turns ≡ length answers = omega (arith, below, past) in
      subst (λ n. FollowsAt (suc n)) (sym same)
      (follows_last last answers known
      (subst (λ n. is_enclosed (enclosures side skip regions masks setting secret other first store)
      (the_real side skip regions masks setting secret other first store n).state.control ≡ false) same exposed)))
      (cases_lt turns (length answers))

  -- where it follows after the last turn, it has exited as the real run has
  pub exits_alike : (answers : List (List ℕ)) (output : Output) (place : ReplayPlace) → IsKnown answers →
      HasExited (the_run side skip regions masks setting secret other first store answers).place.state output →
      feed (Replay (enclosures side skip regions masks setting secret other first store) masks
      (common_turns (enclosures side skip regions masks setting secret other first store) (length answers)
      (the_start side skip regions masks setting secret other first store))
      (copy_start side skip regions masks setting secret other first store))
      (cross_after (enclosures side skip regions masks setting secret other first store) masks (length answers)
      (the_start side skip regions masks setting secret other first store)) ≡ Fed' place [] →
      HasExited place.state output
  exits_alike answers output place known exits uses = ⊎_elim
      (λ at.
      subst (λ (p : ReplayPlace). HasExited p.state output) (same_fed _ place [] (sym at.comes ∙ uses))
      (record { bytes = exits.bytes; status = exits.status }))
      (λ at. let both : Ran ≡ Exited output.status = sym at.skips.ran ∙ exits.status in absurd (cc))
      (modes side skip regions masks setting secret other first store bytes others is.public_input is.start_break skips
      proper rules nowhere begins answers known)
