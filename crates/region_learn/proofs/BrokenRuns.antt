-- A run whose turns break no region, or break one in a certain way.
use Rattle.std.proofs.Common.{◌≡◌, ◌∙◌, ◌≤◌, ◌<◌, ◌⊎◌, ℕ, zero, suc, List, Option, Some, None, map}
use Rattle.std.proofs.Common.{refl, sym, ap, subst, arith, inl, inr}
use Rattle.std.proofs.lemmas.Bool.{cases_lt}
use Rattle.rv32im_machine.specs.State.{State}
use Rattle.rv32im_machine.specs.Folds.{real_end}
use Rattle.enclosure_regions.specs.declared.break_kinds.Break.{Break}
use Rattle.enclosure_regions.specs.declared.region_parts.Region.{Region}
use Rattle.region_machine.specs.Breaking.{Breaks}
use Rattle.region_machine.specs.Enclosures.{Enclosures}
use Rattle.region_machine.specs.Guests.{guest_walk}
use Rattle.region_machine.specs.Runs.{Place as RunPlace, fresh, Real, turn_unless, unbroken_turn}
use Rattle.region_learn.specs.Minimal.{RunsBroken}
use Rattle.region_learn.specs.Written.{Run, bare, state_after}
use Rattle.region_learn.proofs.EdgesAlike.{edges_alike}
use Rattle.region_learn.proofs.UnbrokenRuns.{IsSound}
use Rattle.region_learn.proofs.WeakerRuns.{Fate, IsBroken}

-- nothing was broken so far, or the run is broken so
abbrev Course : (Break → Type 0) → Run → List Region → ℕ → RunPlace → Type 0
Course so run weaker turns at =
    (IsSound run turns at
    × ((turn : ℕ) → turn < turns → Breaks weaker (state_after run.regions turn run.start) ≡ None))
    ⊎ ((broken : Break) × (at.broken ≡ Some broken) × so broken)

-- each turn breaks no region, or breaks one so
abbrev pub Fates : (Break → Type 0) → Run → List Region → Type 0
Fates so run weaker = (turn : ℕ) → turn < run.turns → Fate so (Breaks weaker (state_after run.regions turn run.start))

split : (so : Break → Type 0) (broken : Option Break) → Fate so broken →
    (broken ≡ None) ⊎ ((first : Break) × (broken ≡ Some first) × so first)
split so None h = inl refl
split so (Some broken) h = inr (broken, refl, h)

more_none : (run : Run) (weaker : List Region) (turns : ℕ) →
    ((turn : ℕ) → turn < turns → Breaks weaker (state_after run.regions turn run.start) ≡ None) →
    Breaks weaker (state_after run.regions turns run.start) ≡ None →
    (turn : ℕ) → turn < suc turns → Breaks weaker (state_after run.regions turn run.start) ≡ None
more_none run weaker turns h last turn below = elim (cases_lt turn turns) [
  | inl before ↦ h turn before
  | inr here ↦
      let e : turn ≡ turns = omega (arith, below, here) in
      ap (λ (n : ℕ). Breaks weaker (state_after run.regions n run.start)) e ∙ last
]

course_turn : (so : Break → Type 0) (run : Run) (enclosures : Enclosures) (turns : ℕ) (at : RunPlace) →
    turns < run.turns → map bare enclosures.regions ≡ run.regions → Fates so run enclosures.regions →
    IsSound run turns at →
    ((turn : ℕ) → turn < turns → Breaks enclosures.regions (state_after run.regions turn run.start) ≡ None) →
    Course so run enclosures.regions (suc turns) (unbroken_turn enclosures at)
unfolding state_after
course_turn so run enclosures turns at below same fates sound before =
    let weaker = enclosures.regions in
    let state = state_after run.regions turns run.start in
    let here : Breaks weaker at.state ≡ Breaks weaker state = ap (λ (s : State). Breaks weaker s) sound.state in
    elim (split so (Breaks weaker state) (fates turns below)) [
      | inl whole ↦ inl (
        record {
          unbroken = here ∙ whole;
          state = ap (λ (s : State). real_end (guest_walk weaker s)) sound.state
              ∙ (sym (edges_alike weaker state) ∙ ap (λ (l : List Region). real_end (guest_walk l state)) same);
        },
        more_none run weaker turns before whole,
      )
      | inr broken ↦ inr (broken.0, here ∙ broken.1, broken.2)
    ]

course : (so : Break → Type 0) (run : Run) (enclosures : Enclosures) (turns : ℕ) → turns ≤ run.turns →
    map bare enclosures.regions ≡ run.regions → Fates so run enclosures.regions →
    Course so run enclosures.regions turns (Real enclosures turns (fresh run.start))
unfolding Real state_after
course so run enclosures zero le same fates =
    inl (record { unbroken = refl; state = refl }, λ turn below. absurd (omega arith))
course so run enclosures (suc turns) le same fates =
    let at = Real enclosures turns (fresh run.start) in
    elim (course so run enclosures turns (omega arith) same fates) [
      | inl whole ↦
          subst (λ (b : Option Break). Course so run enclosures.regions (suc turns) (turn_unless b enclosures at))
          (sym whole.0.unbroken)
          (course_turn so run enclosures turns at (omega arith) same fates whole.0 whole.1)
      | inr broken ↦
          subst (λ (b : Option Break). Course so run enclosures.regions (suc turns) (turn_unless b enclosures at))
          (sym broken.1) (inr broken)
    ]

-- where a turn breaks a region, the run is broken so
pub broken_run : (so : Break → Type 0) (run : Run) (weaker : List Region) (turn : ℕ) → turn < run.turns →
    map bare weaker ≡ run.regions → Fates so run weaker →
    IsBroken (Breaks weaker (state_after run.regions turn run.start)) → RunsBroken so weaker run.turns run.start
broken_run so run weaker turn below same fates breaks skip =
    elim (course so run (record { regions = weaker; skip = skip }) run.turns (omega arith) same fates) [
      | inl whole ↦ absurd (subst IsBroken (whole.1 turn below) breaks)
      | inr broken ↦ (broken.0, broken.1, broken.2)
    ]
