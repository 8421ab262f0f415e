-- One turn of the real run of a secret, by its kind, where it has broken no region so far; and runs that are over.
use Rattle.std.proofs.Common.{◌≡◌, ℕ, zero, suc, ◌<◌, ◌≤◌, Bool, true, false, List, [], Some, None}
use Rattle.std.proofs.Common.{refl, sym, ap, subst, ◌∙◌}
use Rattle.std.specs.Prelude.{◌==◌, if◌then◌else◌}
use Rattle.std.specs.List.{find}
use Rattle.flow_base.specs.declared.outputs.Output.{Output}
use Rattle.flow_base.specs.declared.points.Point.{Point}
use Rattle.enclosure_regions.specs.declared.region_parts.Region.{Region}
use Rattle.rv32im_machine.specs.declared.stepping.Fault.{Fault}
use Rattle.rv32im_machine.specs.declared.stepping.Stepped.{Stepped}
use Rattle.rv32im_machine.specs.declared.stepping.Stepped.TheVariants.{Ran, Exited, Stopped}
use Rattle.rv32im_machine.specs.Folds.{real_end}
use Rattle.rv32im_machine.specs.Language.{Walk}
use Rattle.rv32im_machine.specs.State.{Control, Setting, Store}
use Rattle.region_machine.specs.Breaking.{kind_break}
use Rattle.region_machine.specs.Enclosures.{Kind, is_enclosed, is_enclosed_kind, kind_in, kind_of, kind_within}
use Rattle.region_machine.specs.Enclosures.{region_numbered}
use Rattle.region_machine.specs.Guests.{kind_walk}
use Rattle.region_machine.specs.Runs.{Place, common_turns, passed, real_turn, visited}
use Rattle.region_machine.proofs.Stillness.{IsOver}
use Rattle.lockstep_replay.specs.Acceptance.{HasExited}
use Rattle.lockstep_replay.specs.Crossing.{crossing, crossing_of, crossing_unless}
use Rattle.lockstep_replay.specs.Tasks.{Task, common_of, enclosed_of, real_of, real_start}
use Rattle.lockstep_replay.proofs.RunsGrow.{common_exposed, real_next}
use Rattle.lockstep_replay.proofs.Stillness.{real_later, unbroken_before}
use Rattle.acceptance_law.proofs.RunFacts.{kind_setting, state_parts}
use Rattle.acceptance_law.proofs.StepsKeepStanding.{state_of}

-- ---- regions that are listed

none_numbered : (number : ℕ) → region_numbered [] number ≡ None
none_numbered number = pick (number == 0)
  where
    pick : (t : Bool) → (if t then None else find (λ (region : Region). region.id == number) []) ≡ None
    pick true = refl
    pick false = refl

-- where a region has a number, regions are listed
pub lists_some : (regions : List Region) (number : ℕ) (region : Region) →
    region_numbered regions number ≡ Some region → ¬ (regions ≡ [])
lists_some regions number region found empty =
    let here : None ≡ Some region =
    sym (none_numbered number) ∙ ap (λ rs. region_numbered rs number) (sym empty) ∙ found in
    cc

-- where none are listed, each turn is a common turn
none_enclosed : (skip : List ℕ) (mode : Stepped) (control : Control) →
    is_enclosed_kind (record { regions = []; skip = skip }) (kind_in mode [] control) ≡ false
none_enclosed skip Ran control =
    ap (λ found. is_enclosed_kind (record { regions = []; skip = skip }) (kind_within [] found control.pc))
    (none_numbered control.region)
none_enclosed skip (Exited status) control = refl
none_enclosed skip (Stopped fault) control = refl

pub all_common : (task : Task) (secret : List ℕ) → task.enclosures.regions ≡ [] → (turns : ℕ) →
    common_of task secret turns ≡ turns
unfolding common_turns
all_common task secret empty zero = refl
all_common task secret empty (suc turns) =
    common_exposed task.enclosures turns (real_start task secret) exposed
    ∙ ap suc (all_common task secret empty turns)
  where
    exposed : enclosed_of task secret turns ≡ false
    exposed =
        let control = (real_of task secret turns).state.control in
        ap (λ regions. is_enclosed_kind (record { regions = regions; skip = task.enclosures.skip })
        (kind_in control.mode regions control)) empty
        ∙ none_enclosed task.enclosures.skip control.mode control

-- ---- runs that do not exit

-- a run that is stopped never exits
pub stopped_never : (task : Task) (secret : List ℕ) (turns more : ℕ) → turns ≤ more → (fault : Fault) →
    (real_of task secret turns).state.control.mode ≡ Stopped fault → (output : Output) →
    ¬ HasExited (real_of task secret more).state output
stopped_never task secret turns more below fault is output exits =
    let later = real_later task.enclosures (real_start task secret) turns more below
    (subst (λ m. IsOver m) (sym is) tt) in
    let both : Stopped fault ≡ Exited output.status =
    sym is ∙ sym (ap (λ (p : Place). p.state.control.mode) later) ∙ exits.status in
    cc

-- and one that runs has not exited
pub running_never : (task : Task) (secret : List ℕ) (turns : ℕ) → (real_of task secret turns).state.control.mode ≡ Ran →
    (output : Output) → ¬ HasExited (real_of task secret turns).state output
running_never task secret turns is output exits =
    let both : Ran ≡ Exited output.status = sym is ∙ exits.status in cc

-- ---- one turn

-- where a run stands that has broken no region
abbrev pub standing_at : Setting → List ℕ → Control → Store → List Point → Place
standing_at setting secret control store past =
    record { state = state_of setting secret control store; past = past; broken = None }

module _ (task : Task) (setting : Setting) (secret : List ℕ) (now : Control) (real : Store) (past : List Point)
    (turns : ℕ) (at : real_of task secret turns ≡ standing_at setting secret now real past) where
  abbrev pub walk_as : Kind → Walk
  walk_as kind = kind_walk kind (state_of setting secret now real)

  abbrev next_as : Kind → Place
  next_as kind = record {
    state = real_end (walk_as kind);
    past = visited (is_enclosed_kind task.enclosures kind) past (walk_as kind);
    broken = kind_break kind (state_of setting secret now real);
  }

  module _ (kind : Kind) (is : kind_of task.enclosures.regions now ≡ kind) where
    next_is : real_of task secret (suc turns) ≡ next_as kind
    next_is =
        real_next task.enclosures turns (real_start task secret)
        ∙ ap (λ p. real_turn task.enclosures p) at
        ∙ ap (λ k. next_as k) is

    pub enclosed_is : enclosed_of task secret turns ≡ is_enclosed_kind task.enclosures kind
    enclosed_is =
        ap (λ (p : Place). is_enclosed task.enclosures p.state.control) at
        ∙ ap (λ k. is_enclosed_kind task.enclosures k) is

    pub crosses_is : is_enclosed_kind task.enclosures kind ≡ false →
        crossing_of task.enclosures task.masks (real_of task secret turns) ≡ crossing task.masks past (walk_as kind)
    crosses_is exposed =
        ap (λ p. crossing_of task.enclosures task.masks p) at
        ∙ ap (λ k. crossing_unless (is_enclosed_kind task.enclosures k) task.masks past (walk_as k)) is
        ∙ ap (λ t. crossing_unless t task.masks past (walk_as kind)) exposed

    module _ (more : ℕ) (before : turns < more) (whole : (real_of task secret more).broken ≡ None) where
      pub unbroken_as : kind_break kind (state_of setting secret now real) ≡ None
      unbroken_as =
          sym (ap (λ (p : Place). p.broken) next_is)
          ∙ unbroken_before task.enclosures (real_start task secret) (suc turns) more before whole

      comes_to : (t : Bool) → is_enclosed_kind task.enclosures kind ≡ t →
          real_of task secret (suc turns)
          ≡ standing_at setting secret (real_end (walk_as kind)).control (real_end (walk_as kind)).store
          (visited t past (walk_as kind))
      comes_to t enclosed =
          let parts = state_parts (real_end (walk_as kind)) setting secret (kind_setting kind setting secret now real) in
          let here : next_as kind ≡ standing_at setting secret (real_end (walk_as kind)).control
          (real_end (walk_as kind)).store (visited (is_enclosed_kind task.enclosures kind) past (walk_as kind)) =
          λ i. record {
            state = parts i;
            past = visited (is_enclosed_kind task.enclosures kind) past (walk_as kind);
            broken = unbroken_as i;
          } in
          next_is ∙ here
          ∙ ap (λ b. standing_at setting secret (real_end (walk_as kind)).control (real_end (walk_as kind)).store
          (visited b past (walk_as kind))) enclosed

      pub common_next : is_enclosed_kind task.enclosures kind ≡ false →
          real_of task secret (suc turns)
          ≡ standing_at setting secret (real_end (walk_as kind)).control (real_end (walk_as kind)).store
          (passed past (walk_as kind))
      common_next exposed = comes_to false exposed

      pub enclosed_next : is_enclosed_kind task.enclosures kind ≡ true →
          real_of task secret (suc turns)
          ≡ standing_at setting secret (real_end (walk_as kind)).control (real_end (walk_as kind)).store past
      enclosed_next enclosed = comes_to true enclosed
