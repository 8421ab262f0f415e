-- No run exits at the entry of a region or inside it.
use Rattle.std.proofs.Common.{◌≡◌, ℕ, suc, refl, ap, sym, ◌∙◌, Bool, true, false, Option, Some, None}
use Rattle.rv32im_machine.specs.Folds.{real_end}
use Rattle.rv32im_machine.specs.declared.stepping.Fault.{Fault}
use Rattle.rv32im_machine.specs.declared.stepping.Stepped.{Stepped}
use Rattle.rv32im_machine.specs.declared.stepping.Stepped.TheVariants.{Ran, Exited, Stopped}
use Rattle.enclosure_regions.specs.declared.break_kinds.Break.{Break}
use Rattle.region_machine.specs.Enclosures.{Enclosures, is_enclosed}
use Rattle.region_machine.specs.Guests.{guest_walk}
use Rattle.region_machine.specs.Runs.{Place, turn_unless, real_turn, Real}
use Rattle.region_machine.specs.Runs.{has_exited}
use Rattle.region_machine.proofs.NoExitInside.{enclosed_runs_on}
use Rattle.lockstep_replay.proofs.RunsGrow.{real_next}

stays_unless : (broken : Option Break) (enclosures : Enclosures) (place : Place) (status : ℕ) → place.broken ≡ broken →
    is_enclosed enclosures place.state.control ≡ true → (turn_unless broken enclosures place).broken ≡ None →
    (turn_unless broken enclosures place).state.control.mode ≡ Exited status → ⊥
stays_unless (Some broken) enclosures place status is enclosed none exits = cc
stays_unless None enclosures place status is enclosed none exits =
    let on : has_exited (real_end (guest_walk enclosures.regions place.state)).control.mode ≡ false =
    enclosed_runs_on enclosures place.state enclosed none in
    let over : has_exited (real_end (guest_walk enclosures.regions place.state)).control.mode ≡ true =
    ap (λ m. has_exited m) exits in cc

stays_inside : (enclosures : Enclosures) (place : Place) (status : ℕ) →
    is_enclosed enclosures place.state.control ≡ true → (real_turn enclosures place).broken ≡ None →
    (real_turn enclosures place).state.control.mode ≡ Exited status → ⊥
stays_inside enclosures place status enclosed none exits =
    stays_unless place.broken enclosures place status refl enclosed none exits

exposed_or : (enclosed : Bool) → (enclosed ≡ true → ⊥) → enclosed ≡ false
exposed_or true h = absurd (h refl)
exposed_or false h = refl

-- the turn in which a run exits is not enclosed
pub exposed_exit :
    (enclosures : Enclosures) (place : Place) (turns status : ℕ) →
    (Real enclosures (suc turns) place).broken ≡ None →
    (Real enclosures (suc turns) place).state.control.mode ≡ Exited status →
    is_enclosed enclosures (Real enclosures turns place).state.control ≡ false
exposed_exit enclosures place turns status none exits =
    exposed_or (is_enclosed enclosures (Real enclosures turns place).state.control)
    (λ enclosed. stays_inside enclosures (Real enclosures turns place) status enclosed
    (ap (λ (p : Place). p.broken) (sym (real_next enclosures turns place)) ∙ none)
    (ap (λ (p : Place). p.state.control.mode) (sym (real_next enclosures turns place)) ∙ exits))

-- a guest that has neither exited nor is stopped runs
ran_of : (mode : Stepped) → ((fault : Fault) → mode ≡ Stopped fault → ⊥) → ((status : ℕ) → mode ≡ Exited status → ⊥) →
    mode ≡ Ran
ran_of Ran running inside = refl
ran_of (Exited status) running inside = absurd (inside status refl)
ran_of (Stopped fault) running inside = absurd (running fault refl)

-- after an enclosed turn that is not broken, a run that is not stopped goes on
pub ran_enclosed :
    (enclosures : Enclosures) (place : Place) (turns : ℕ) →
    is_enclosed enclosures (Real enclosures turns place).state.control ≡ true →
    (Real enclosures (suc turns) place).broken ≡ None →
    ((fault : Fault) → (Real enclosures (suc turns) place).state.control.mode ≡ Stopped fault → ⊥) →
    (Real enclosures (suc turns) place).state.control.mode ≡ Ran
ran_enclosed enclosures place turns enclosed none running =
    ran_of (Real enclosures (suc turns) place).state.control.mode running
    (λ status exits. let exposed : is_enclosed enclosures (Real enclosures turns place).state.control ≡ false =
    exposed_exit enclosures place turns status none exits in cc)
