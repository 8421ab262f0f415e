-- A verdict that rejects: its reason holds of the two runs, and no condition fails at an earlier turn.
use Rattle.std.proofs.Common.{◌≡◌, ℕ, zero, suc, ◌+◌, ◌==◌, ◌<◌, ◌⊎◌, inl, inr, List, length, refl, ap, subst, sym, ◌∙◌}
use Rattle.std.proofs.Common.{Bool, true, false, arith}
use Rattle.std.proofs.lemmas.Bool.Decides.{Decides-eqb}
use Rattle.std.specs.Prelude.{if◌then◌else◌, Option, Some, None}
use Rattle.crossing_bits.proofs.Feeding.{le_or_lt}
use Rattle.rv32im_machine.specs.declared.stepping.Stepped.{Stepped}
use Rattle.rv32im_machine.specs.declared.stepping.Stepped.TheVariants.{Ran, Exited, Stopped}
use Rattle.replay_machine.specs.Runs.{ReplayPlace}
use Rattle.region_machine.specs.Runs.{Real}
use Rattle.lockstep_replay.specs.Tasks.{Task, Limits, real_start, real_of, enclosed_of, common_of, Cross, replay_of}
use Rattle.lockstep_replay.specs.declared.verdicts.Why.{Why}
use Rattle.lockstep_replay.specs.declared.verdicts.Why.TheVariants.{RealFault, RegionBreak, BudgetOverrun, ReplayFault}
use Rattle.lockstep_replay.specs.declared.verdicts.Why.TheVariants.{Parted}
use Rattle.lockstep_replay.specs.declared.verdicts.Why.TheVariants.{OutputDiffers, TurnLimit, SecretLength}
use Rattle.lockstep_replay.specs.Verdicts.{Judgement, Rejects, why_after, judged_mode, judged_after}
use Rattle.lockstep_replay.specs.Verdicts.{judged_from}
use Rattle.lockstep_replay.specs.VerdictLaws.{Agrees, Arises, Cause, CausesLaw}
use Rattle.lockstep_replay.proofs.ExitsAreExposed.{ran_enclosed}
use Rattle.lockstep_replay.proofs.Conditions.{holds_of}
use Rattle.lockstep_replay.proofs.Accepting.{FineAt, fine_at, follows_fine, place_fine}

-- ---- no condition fails

agrees_fine :
    (task : Task) (limits : Limits) (secret : List ℕ) (j : ℕ) → FineAt task limits secret j →
    Agrees task limits secret j
agrees_fine task limits secret j fine = record {
  unbroken = fine.unbroken;
  unstopped = fine.running;
  within = fine.within;
  beside = λ exposed. record {
    follows = follows_fine task limits secret j fine exposed;
    output =
        (fine.beside exposed).output
        ∙ ap (λ (p : ReplayPlace). p.state.control.output)
        (place_fine task limits secret j fine exposed (follows_fine task limits secret j fine exposed));
  };
}

-- in no earlier turn
abbrev AgreesTo : Task → Limits → List ℕ → ℕ → Type 0
AgreesTo task limits secret j =
    (i : ℕ) → i < j → Agrees task limits secret i

agrees_next :
    (task : Task) (limits : Limits) (secret : List ℕ) (j : ℕ) → AgreesTo task limits secret j →
    why_after task limits secret j ≡ None → AgreesTo task limits secret (suc j)
agrees_next task limits secret j agree n i below = elim (le_or_lt (suc i) j) [
  | inl early ↦ agree i (omega (arith, early))
  | inr late ↦
      let same : j ≡ i = omega (arith, below, late) in
      subst (λ k. Agrees task limits secret k) same (agrees_fine task limits secret j (fine_at task limits secret j n))
]

-- ---- a condition fails

-- what arises within the limit is a cause
cause_arises :
    (task : Task) (limits : Limits) (secret : List ℕ) (why : Why) → Arises task limits secret why →
    Cause task limits secret why
cause_arises task limits secret (RealFault fault) arises = arises
cause_arises task limits secret (RegionBreak broken) arises = arises
cause_arises task limits secret (BudgetOverrun limit needed) arises = arises
cause_arises task limits secret (ReplayFault stop) arises = arises
cause_arises task limits secret (Parted mark other) arises = arises
cause_arises task limits secret (OutputDiffers index byte other) arises = arises
cause_arises task limits secret (TurnLimit limit) arises = absurd arises.holds
cause_arises task limits secret (SecretLength wanted got) arises = absurd arises.holds

cause_mode :
    (task : Task) (limits : Limits) (secret : List ℕ) (j : ℕ) (why : Why) (later : Judgement) (mode : Stepped) →
    ((real_of task secret (suc j)).state.control.mode ≡ Ran → later ≡ Rejects why → Cause task limits secret why) →
    FineAt task limits secret j → (real_of task secret (suc j)).state.control.mode ≡ mode →
    judged_mode mode (real_of task secret (suc j)).state (Cross task secret (suc j)) later ≡ Rejects why →
    Cause task limits secret why
cause_mode task limits secret j why later Ran go fine m e = go m e
cause_mode task limits secret j why later (Exited status) go fine m e = absurd (cc)
cause_mode task limits secret j why later (Stopped fault) go fine m e =
    absurd (fine.running fault m)

cause_exposed :
    (task : Task) (limits : Limits) (secret : List ℕ) (j : ℕ) (why : Why) (later : Judgement) (enclosed : Bool) →
    ((real_of task secret (suc j)).state.control.mode ≡ Ran → later ≡ Rejects why → Cause task limits secret why) →
    FineAt task limits secret j → enclosed_of task secret j ≡ enclosed →
    judged_after None enclosed (real_of task secret (suc j)).state (Cross task secret (suc j)) later ≡ Rejects why →
    Cause task limits secret why
cause_exposed task limits secret j why later true go fine o e =
    go (ran_enclosed task.enclosures (real_start task secret) j o fine.unbroken fine.running) e
cause_exposed task limits secret j why later false go fine o e =
    cause_mode task limits secret j why later (real_of task secret (suc j)).state.control.mode go fine refl e

cause_why :
    (task : Task) (limits : Limits) (secret : List ℕ) (j : ℕ) (why : Why) (later : Judgement) (here : Option Why) →
    j < limits.turns → AgreesTo task limits secret j → (why_after task limits secret j ≡ None →
    (real_of task secret (suc j)).state.control.mode ≡ Ran → later ≡ Rejects why → Cause task limits secret why) →
    why_after task limits secret j ≡ here → judged_after here (enclosed_of task secret j)
    (real_of task secret (suc j)).state (Cross task secret (suc j)) later ≡ Rejects why → Cause task limits secret why
cause_why task limits secret j why later None below agree go n e =
    cause_exposed task limits secret j why later (enclosed_of task secret j) (go n) (fine_at task limits secret j n)
    refl e
cause_why task limits secret j why later (Some other) below agree go n e =
    let same : other ≡ why = cc in
    cause_arises task limits secret why (record {
      turn = j;
      within = below;
      earlier = agree;
      holds =
          holds_of limits.budget (enclosed_of task secret j) (real_of task secret (suc j)) (Cross task secret (suc j))
          (replay_of task (common_of task secret (suc j))) why (n ∙ ap (λ w. Some w) same);
    })

caused :
    (left : ℕ) (task : Task) (limits : Limits) (secret : List ℕ) (j : ℕ) (why : Why) → j + left ≡ limits.turns →
    AgreesTo task limits secret j → (real_of task secret j).state.control.mode ≡ Ran →
    judged_from task limits secret left j ≡ Rejects why → Cause task limits secret why
unfolding judged_from
caused zero task limits secret j why s agree ran e =
    let limit : Rejects (TurnLimit limits.turns) ≡ Rejects why = e in
    let same : TurnLimit limits.turns ≡ why = cc in
    let last : j ≡ limits.turns = omega (arith, s) in
    subst (λ w. Cause task limits secret w) same (record {
      limit_is = refl;
      earlier = λ i early. agree i (omega (arith, early, last));
      runs = subst (λ i. (real_of task secret i).state.control.mode ≡ Ran) last ran;
    })
caused (suc left) task limits secret j why s agree ran e =
    let sum : suc j + left ≡ limits.turns = omega (arith, s) in
    let below : j < limits.turns = omega (arith, s) in
    cause_why task limits secret j why (judged_from task limits secret left (suc j)) (why_after task limits secret j)
    below agree (λ none mode later. caused left task limits secret (suc j) why sum
    (agrees_next task limits secret j agree none) mode later) refl e

pub start_runs : (task : Task) (secret : List ℕ) → (real_of task secret zero).state.control.mode ≡ Ran
unfolding Real
start_runs task secret = refl

rejects_if :
    (test : Bool) (judgement : Judgement) (other why : Why) →
    (if test then judgement else Rejects other) ≡ Rejects why →
    (judgement ≡ Rejects why) ⊎ ((test ≡ false) × (other ≡ why))
rejects_if true judgement other why e = inl e
rejects_if false judgement other why e = let same : other ≡ why = cc in inr (refl, same)

wrong_length : (cut got : ℕ) → (got == cut) ≡ false → cut ≡ got → ⊥
wrong_length cut got e h = let same : (got == cut) ≡ true = (Decides-eqb got cut).1 (sym h) in cc

agrees_first :
    (task : Task) (limits : Limits) (secret : List ℕ) → AgreesTo task limits secret zero
agrees_first task limits secret i below = absurd (omega (arith, below))

pub causes_law : CausesLaw
causes_law task limits secret why e =
    elim (rejects_if (length secret == task.secret_length) (judged_from task limits secret limits.turns zero)
    (SecretLength task.secret_length (length secret)) why e) [
      | inl judged ↦
          let sum : zero + limits.turns ≡ limits.turns = omega arith in
          caused limits.turns task limits secret zero why sum (agrees_first task limits secret) (start_runs task secret)
          judged
      | inr length_differs ↦
          subst (λ w. Cause task limits secret w) length_differs.1
          (refl, (refl, wrong_length task.secret_length (length secret) length_differs.0))
    ]
