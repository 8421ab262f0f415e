-- A run by a table that decides has one cause to be refused.
use Rattle.std.proofs.Common.{◌≡◌, ◌≢◌, ℕ, ◌<◌, ◌≤◌, List, ◌∷◌, length, Some, inl, inr, refl, sym, ap, subst, ◌∙◌, arith, ⊎_elim}
use Rattle.std.specs.Prelude.{◌⊎◌}
use Rattle.std.proofs.lemmas.Bool.{cases_lt}
use Rattle.enclosure_regions.specs.declared.region_parts.Region.{Region}
use Rattle.flow_base.specs.declared.outputs.Output.{Output}
use Rattle.run_labels.specs.Answers.{IsTableAnswer}
use Rattle.run_labels.specs.Traces.{EachAnswer}
use Rattle.run_labels.specs.Runs.{LabelledRun, next_walk, run_after, turn_fault}
use Rattle.run_labels.specs.TurnLabels.{at_start}
use Rattle.run_labels.specs.declared.faults.MeasureFault.{MeasureFault}
use Rattle.run_labels.specs.declared.faults.MeasureFault.TheVariants.{TurnLimit, Guest, Region as RegionFault}
use Rattle.run_labels.specs.declared.faults.MeasureFault.TheVariants.{SecretCode, BaseSecret, GraphLimit, Memory}
use Rattle.measuring.specs.Measures.{HasCause, IsTooLarge}
use Rattle.measuring.specs.RunCauses.{Exits, GoesOn, IsRefused, mode_of}
use Rattle.measuring.proofs.DecidedRuns.{runs_are_decided, refusals_are_decided}
use Rattle.measuring.proofs.MeasuredWithoutCause.{exited_mode, exits_not_running, exits_unrefused, turn_unrefused}
use Rattle.transfer_rules.specs.Tables.{IsDeciding}

-- ---- the three ways in which a run is not measured

abbrev Cause : ℕ → List Region → LabelledRun → ℕ → MeasureFault → Type 0
Cause table regions start limit fault =
    ((fault ≡ TurnLimit limit) × GoesOn table regions start limit)
    ⊎ (IsRefused table regions start limit fault ⊎ ((fault ≡ GraphLimit) × IsTooLarge table regions start limit))

cause_of : (table : ℕ) (regions : List Region) (start : LabelledRun) (limit : ℕ) (fault : MeasureFault) →
    HasCause table regions start limit fault → fault ≢ Memory → Cause table regions start limit fault
cause_of table regions start limit (TurnLimit turns) cause free =
    inl (ap (λ (count : ℕ). TurnLimit count) cause.0, cause.1)
cause_of table regions start limit (Guest fault) cause free = inr (inl cause)
cause_of table regions start limit (RegionFault broken) cause free = inr (inl cause)
cause_of table regions start limit (SecretCode pc) cause free = inr (inl cause)
cause_of table regions start limit (BaseSecret region register) cause free = inr (inl cause)
cause_of table regions start limit GraphLimit cause free = inr (inr (refl, cause))
cause_of table regions start limit Memory cause free = absurd (free refl)

-- ---- no two of them at once

-- in a run that goes on so long no turn is refused
goes_on_unrefused : (table : ℕ) (regions : List Region) (start : LabelledRun) (limit turns : ℕ)
    (fault : MeasureFault) → IsDeciding table → GoesOn table regions start turns →
    (refused : IsRefused table regions start limit fault) → refused.turns < turns → ⊥
goes_on_unrefused table regions start limit turns fault deciding goes_on refused fewer =
    let counted : length goes_on.answers ≡ turns = goes_on.is_run.counted in
    let before : length refused.before.answers ≡ refused.turns = refused.before.is_run.counted in
    turn_unrefused table regions start goes_on.answers refused.before.answers refused.answers fault deciding
    goes_on.is_run.by_table goes_on.is_run.unrefused refused.before.is_run.by_table refused.are_answers.by_table
    refused.refused (omega (arith, counted, before, fewer))

-- and it has not exited before
goes_on_running : (table : ℕ) (regions : List Region) (start : LabelledRun) (limit turns : ℕ) (output : Output) →
    IsDeciding table → GoesOn table regions start limit → Exits table regions start limit turns output → ⊥
goes_on_running table regions start limit turns output deciding goes_on exits =
    let counted : length (exits.last ∷ exits.earlier) ≡ turns = exits.is_run.counted in
    let within : turns ≤ limit = exits.within in
    let all : length goes_on.answers ≡ limit = goes_on.is_run.counted in
    exits_not_running table regions start (exits.last ∷ exits.earlier) goes_on.answers deciding
    exits.is_run.by_table
    (exited_mode (mode_of (run_after regions (exits.last ∷ exits.earlier) start)) output.status exits.exited)
    goes_on.is_run.by_table goes_on.running (omega (arith, counted, within, all))

large_unrefused : (table : ℕ) (regions : List Region) (start : LabelledRun) (limit : ℕ) (fault : MeasureFault) →
    IsDeciding table → IsTooLarge table regions start limit → IsRefused table regions start limit fault → ⊥
large_unrefused table regions start limit fault deciding large refused =
    exits_unrefused table regions start (large.exits.last ∷ large.exits.earlier) limit fault deciding
    large.exits.is_run.by_table large.exits.is_run.unrefused
    (exited_mode (mode_of (run_after regions (large.exits.last ∷ large.exits.earlier) start)) large.output.status
    large.exits.exited)
    refused

-- ---- one turn is refused for one reason

same_refusal : (table : ℕ) (regions : List Region) (run other : LabelledRun) (first second : List ℕ)
    (a b : MeasureFault) → IsDeciding table → run ≡ other →
    EachAnswer (IsTableAnswer table) (at_start run.labels) first (next_walk regions run) →
    turn_fault regions first run ≡ Some a →
    EachAnswer (IsTableAnswer table) (at_start other.labels) second (next_walk regions other) →
    turn_fault regions second other ≡ Some b → a ≡ b
same_refusal table regions run other first second a b deciding same by refused also told =
    let by_same : EachAnswer (IsTableAnswer table) (at_start other.labels) first (next_walk regions other) =
    subst (λ r. EachAnswer (IsTableAnswer table) (at_start r.labels) first (next_walk regions r)) same by in
    let there : turn_fault regions first other ≡ Some a = ap (turn_fault regions first) (sym same) ∙ refused in
    let both : Some a ≡ Some b =
    sym there ∙ (refusals_are_decided table regions other first second deciding by_same also ∙ told) in
    cc

one_refusal : (table : ℕ) (regions : List Region) (start : LabelledRun) (limit : ℕ) (a b : MeasureFault) →
    IsDeciding table → IsRefused table regions start limit a → IsRefused table regions start limit b → a ≡ b
one_refusal table regions start limit a b deciding one other =
    ⊎_elim
    (λ (fewer : one.turns < other.turns).
    absurd (goes_on_unrefused table regions start limit other.turns a deciding other.before one fewer))
    (λ (few : other.turns ≤ one.turns).
    ⊎_elim
    (λ (fewer : other.turns < one.turns).
    absurd (goes_on_unrefused table regions start limit one.turns b deciding one.before other fewer))
    (λ (also : one.turns ≤ other.turns).
    let counted : length one.before.answers ≡ one.turns = one.before.is_run.counted in
    let before : length other.before.answers ≡ other.turns = other.before.is_run.counted in
    let same : run_after regions one.before.answers start ≡ run_after regions other.before.answers start =
    runs_are_decided table regions start one.before.answers other.before.answers deciding
    (omega (arith, few, also, counted, before)) one.before.is_run.by_table other.before.is_run.by_table in
    same_refusal table regions (run_after regions one.before.answers start)
    (run_after regions other.before.answers start) one.answers other.answers a b deciding same
    one.are_answers.by_table one.refused other.are_answers.by_table other.refused)
    (cases_lt other.turns one.turns))
    (cases_lt one.turns other.turns)

-- ---- one cause

same_cause : (table : ℕ) (regions : List Region) (start : LabelledRun) (limit : ℕ) (a b : MeasureFault) →
    IsDeciding table → Cause table regions start limit a → Cause table regions start limit b → a ≡ b
same_cause table regions start limit a b deciding (inl one) (inl other) = one.0 ∙ sym other.0
same_cause table regions start limit a b deciding (inl one) (inr (inl other)) =
    absurd (goes_on_unrefused table regions start limit limit b deciding one.1 other other.within)
same_cause table regions start limit a b deciding (inl one) (inr (inr other)) =
    absurd (goes_on_running table regions start limit other.1.turns other.1.output deciding one.1 other.1.exits)
same_cause table regions start limit a b deciding (inr (inl one)) (inl other) =
    absurd (goes_on_unrefused table regions start limit limit a deciding other.1 one one.within)
same_cause table regions start limit a b deciding (inr (inl one)) (inr (inl other)) =
    one_refusal table regions start limit a b deciding one other
same_cause table regions start limit a b deciding (inr (inl one)) (inr (inr other)) =
    absurd (large_unrefused table regions start limit a deciding other.1 one)
same_cause table regions start limit a b deciding (inr (inr one)) (inl other) =
    absurd (goes_on_running table regions start limit one.1.turns one.1.output deciding other.1 one.1.exits)
same_cause table regions start limit a b deciding (inr (inr one)) (inr (inl other)) =
    absurd (large_unrefused table regions start limit b deciding one.1 other)
same_cause table regions start limit a b deciding (inr (inr one)) (inr (inr other)) = one.0 ∙ sym other.0

pub one_cause : (table : ℕ) (regions : List Region) (start : LabelledRun) (limit : ℕ) (a b : MeasureFault) →
    IsDeciding table → HasCause table regions start limit a → HasCause table regions start limit b → a ≢ Memory →
    b ≢ Memory → a ≡ b
one_cause table regions start limit a b deciding one other free also =
    same_cause table regions start limit a b deciding (cause_of table regions start limit a one free)
    (cause_of table regions start limit b other also)
