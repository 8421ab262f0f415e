-- A run that is measured has no cause to be refused: its turns are decided, and after its exit it stands still.
use Rattle.std.proofs.Common.{◌≡◌, ℕ, ◌+◌, ◌<◌, ◌≤◌, true, false, List, [], ◌∷◌, ◌++◌, length, Option, Some, None}
use Rattle.std.proofs.Common.{refl, sym, ap, subst, ◌∙◌, arith, ⊎_elim}
use Rattle.std.proofs.lemmas.Bool.{cases_lt, false≢true}
use Rattle.enclosure_regions.specs.declared.break_kinds.Break.{Break}
use Rattle.enclosure_regions.specs.declared.region_parts.Region.{Region}
use Rattle.region_machine.specs.Enclosures.{kind_in}
use Rattle.region_machine.specs.Guests.{kind_walk}
use Rattle.region_machine.specs.Runs.{Place, has_exited, turn_unless}
use Rattle.rv32im_machine.specs.declared.stepping.Stepped.{Stepped}
use Rattle.rv32im_machine.specs.declared.stepping.Stepped.TheVariants.{Ran, Exited, Stopped}
use Rattle.rv32im_machine.specs.Folds.{real_end}
use Rattle.rv32im_machine.specs.Language.{none_held, walked}
use Rattle.rv32im_machine.specs.Rows.{turn_in}
use Rattle.rv32im_machine.specs.State.{Control, Setting, State, Store}
use Rattle.run_labels.specs.Answers.{IsTableAnswer}
use Rattle.run_labels.specs.Traces.{EachAnswer}
use Rattle.run_labels.specs.Runs.{LabelledRun, EachRunAnswer, IsUnrefused, enclosing, next_walk, run_after}
use Rattle.run_labels.specs.Runs.{turn_fault}
use Rattle.run_labels.specs.TurnLabels.{at_start}
use Rattle.run_labels.specs.declared.faults.MeasureFault.{MeasureFault}
use Rattle.run_labels.specs.declared.faults.MeasureFault.TheVariants.{TurnLimit, Guest, Region as RegionFault}
use Rattle.run_labels.specs.declared.faults.MeasureFault.TheVariants.{SecretCode, BaseSecret, GraphLimit, Memory}
use Rattle.flow_base.specs.declared.outputs.Output.{Output}
use Rattle.location_collapse.specs.Limits.{ExceedsLimit}
use Rattle.measuring.specs.declared.measured.Measured.{Measured}
use Rattle.measuring.specs.Laws.{MeasuredHaveNoCause}
use Rattle.measuring.specs.Measures.{IsTooLarge, Measures}
use Rattle.measuring.specs.RunCauses.{Exits, GoesOn, IsRefused, mode_of}
use Rattle.measuring.proofs.DecidedRuns.{runs_are_decided, refusals_are_decided}
use Rattle.transfer_rules.specs.Tables.{IsDeciding}

-- ---- a guest that has exited stands still

turn_stays : (mode : Stepped) (setting : Setting) (secret : List ℕ) (control : Control) (store : Store) →
    has_exited mode ≡ true → has_exited control.mode ≡ true →
    has_exited (real_end (walked setting secret (turn_in mode setting control) store none_held)).control.mode ≡ true
unfolding walked real_end
turn_stays Ran setting secret control store exited stands = absurd (false≢true exited)
turn_stays (Exited status) setting secret control store exited stands = stands
turn_stays (Stopped fault) setting secret control store exited stands = absurd (false≢true exited)

kind_stays : (mode : Stepped) (regions : List Region) (state : State) → has_exited mode ≡ true →
    has_exited state.control.mode ≡ true →
    has_exited (real_end (kind_walk (kind_in mode regions state.control) state)).control.mode ≡ true
kind_stays Ran regions state exited stands = absurd (false≢true exited)
kind_stays (Exited status) regions state exited stands =
    turn_stays state.control.mode state.setting state.secret state.control state.store stands stands
kind_stays (Stopped fault) regions state exited stands = absurd (false≢true exited)

place_stays : (broken : Option Break) (regions : List Region) (place : Place) →
    has_exited place.state.control.mode ≡ true →
    has_exited (turn_unless broken (enclosing regions) place).state.control.mode ≡ true
place_stays None regions place stands = kind_stays place.state.control.mode regions place.state stands stands
place_stays (Some broken) regions place stands = stands

run_stays : (regions : List Region) (later answers : List (List ℕ)) (start : LabelledRun) →
    has_exited (mode_of (run_after regions answers start)) ≡ true →
    has_exited (mode_of (run_after regions (later ++ answers) start)) ≡ true
unfolding run_after
run_stays regions [] answers start stands = stands
run_stays regions (a ∷ later) answers start stands =
    place_stays (run_after regions (later ++ answers) start).place.broken regions
    (run_after regions (later ++ answers) start).place (run_stays regions later answers start stands)

-- ---- the first turns of a run

-- so many turns of a list of answers, the latest turn first, and those that come later
record Begins (turns : ℕ) (answers : List (List ℕ)) : Type 0 where
  later : List (List ℕ)
  first : List (List ℕ)
  are : answers ≡ later ++ first
  counted : length first ≡ turns

begins : (answers : List (List ℕ)) (turns : ℕ) → turns ≤ length answers → Begins turns answers
begins [] turns few = record { later = []; first = []; are = refl; counted = omega (arith, few) }
begins (a ∷ answers) turns few =
    ⊎_elim
    (λ (more : length answers < turns). record {
      later = [];
      first = a ∷ answers;
      are = refl;
      counted = omega (arith, few, more);
    })
    (λ (fewer : turns ≤ length answers).
    let go = begins answers turns fewer in
    record { later = a ∷ go.later; first = go.first; are = ap (λ rest. a ∷ rest) go.are; counted = go.counted })
    (cases_lt (length answers) turns)

each_first : (table : ℕ) (regions : List Region) (later first : List (List ℕ)) (start : LabelledRun) →
    EachRunAnswer (IsTableAnswer table) regions (later ++ first) start →
    EachRunAnswer (IsTableAnswer table) regions first start
unfolding EachRunAnswer
each_first table regions [] first start each = each
each_first table regions (a ∷ later) first start each = each_first table regions later first start each.0

unrefused_first : (regions : List Region) (later first : List (List ℕ)) (start : LabelledRun) →
    IsUnrefused regions (later ++ first) start → IsUnrefused regions first start
unfolding IsUnrefused
unrefused_first regions [] first start un = un
unrefused_first regions (a ∷ later) first start un = unrefused_first regions later first start un.0

-- ---- a run that exits

-- it does not run any more after as many turns
pub exits_not_running : (table : ℕ) (regions : List Region) (start : LabelledRun) (answers running : List (List ℕ)) →
    IsDeciding table → EachRunAnswer (IsTableAnswer table) regions answers start →
    has_exited (mode_of (run_after regions answers start)) ≡ true →
    EachRunAnswer (IsTableAnswer table) regions running start →
    has_exited (mode_of (run_after regions running start)) ≡ false → length answers ≤ length running → ⊥
exits_not_running table regions start answers running deciding each exited also runs few =
    let begin = begins running (length answers) few in
    let by : EachRunAnswer (IsTableAnswer table) regions (begin.later ++ begin.first) start =
    subst (λ list. EachRunAnswer (IsTableAnswer table) regions list start) begin.are also in
    let same : run_after regions answers start ≡ run_after regions begin.first start =
    runs_are_decided table regions start answers begin.first deciding (sym begin.counted) each
    (each_first table regions begin.later begin.first start by) in
    let stands : has_exited (mode_of (run_after regions (begin.later ++ begin.first) start)) ≡ true =
    run_stays regions begin.later begin.first start
    (ap (λ run. has_exited (mode_of run)) (sym same) ∙ exited) in
    false≢true (sym runs ∙ (ap (λ list. has_exited (mode_of (run_after regions list start))) begin.are ∙ stands))

-- no turn of it is refused
not_refused : (table : ℕ) (regions : List Region) (run other : LabelledRun) (first second : List ℕ)
    (fault : MeasureFault) → IsDeciding table → run ≡ other →
    EachAnswer (IsTableAnswer table) (at_start run.labels) first (next_walk regions run) →
    turn_fault regions first run ≡ None →
    EachAnswer (IsTableAnswer table) (at_start other.labels) second (next_walk regions other) →
    turn_fault regions second other ≡ Some fault → ⊥
not_refused table regions run other first second fault deciding same by none also refused =
    let by_same : EachAnswer (IsTableAnswer table) (at_start other.labels) first (next_walk regions other) =
    subst (λ r. EachAnswer (IsTableAnswer table) (at_start r.labels) first (next_walk regions r)) same by in
    let none_there : turn_fault regions first other ≡ None =
    ap (turn_fault regions first) (sym same) ∙ none in
    let clash : None ≡ Some fault =
    sym none_there ∙ (refusals_are_decided table regions other first second deciding by_same also ∙ refused) in
    cc

pub turn_unrefused : (table : ℕ) (regions : List Region) (start : LabelledRun) (answers before : List (List ℕ))
    (last : List ℕ) (fault : MeasureFault) → IsDeciding table →
    EachRunAnswer (IsTableAnswer table) regions answers start → IsUnrefused regions answers start →
    EachRunAnswer (IsTableAnswer table) regions before start →
    EachAnswer (IsTableAnswer table) (at_start (run_after regions before start).labels) last
    (next_walk regions (run_after regions before start)) →
    turn_fault regions last (run_after regions before start) ≡ Some fault → length before < length answers → ⊥
unfolding EachRunAnswer IsUnrefused
turn_unrefused table regions start answers before last fault deciding each un also by refused more =
    let begin = begins answers (length before + 1) (omega (arith, more)) in
    pick begin.first begin.later begin.are begin.counted
  where
    pick : (first later : List (List ℕ)) → answers ≡ later ++ first → length first ≡ length before + 1 → ⊥
    pick [] later are counted = absurd (omega (arith, counted))
    pick (a ∷ first) later are counted =
        let each_part : EachRunAnswer (IsTableAnswer table) regions (a ∷ first) start =
        each_first table regions later (a ∷ first) start
        (subst (λ list. EachRunAnswer (IsTableAnswer table) regions list start) are each) in
        let un_part : IsUnrefused regions (a ∷ first) start =
        unrefused_first regions later (a ∷ first) start (subst (λ list. IsUnrefused regions list start) are un) in
        let same : run_after regions first start ≡ run_after regions before start =
        runs_are_decided table regions start first before deciding (omega (arith, counted)) each_part.0 also in
        not_refused table regions (run_after regions first start) (run_after regions before start) a last fault
        deciding same each_part.1 un_part.1 by refused

pub exits_unrefused : (table : ℕ) (regions : List Region) (start : LabelledRun) (answers : List (List ℕ)) (limit : ℕ)
    (fault : MeasureFault) → IsDeciding table → EachRunAnswer (IsTableAnswer table) regions answers start →
    IsUnrefused regions answers start → has_exited (mode_of (run_after regions answers start)) ≡ true →
    IsRefused table regions start limit fault → ⊥
exits_unrefused table regions start answers limit fault deciding each un exited refused =
    let before = refused.before.answers in
    ⊎_elim
    (λ (more : length before < length answers).
    turn_unrefused table regions start answers before refused.answers fault deciding each un
    refused.before.is_run.by_table refused.are_answers.by_table refused.refused more)
    (λ (few : length answers ≤ length before).
    exits_not_running table regions start answers before deciding each exited refused.before.is_run.by_table
    refused.before.running few)
    (cases_lt (length before) (length answers))

-- ---- a run that is measured

pub exited_mode : (mode : Stepped) (status : ℕ) → mode ≡ Exited status → has_exited mode ≡ true
exited_mode mode status is = ap has_exited is

no_refusal : (table : ℕ) (regions : List Region) (start : LabelledRun) (secret_len limit : ℕ) (measured : Measured)
    (fault : MeasureFault) → IsDeciding table → Measures table regions start secret_len limit measured →
    IsRefused table regions start limit fault → ⊥
no_refusal table regions start secret_len limit measured fault deciding measures refused =
    exits_unrefused table regions start (measures.exits.last ∷ measures.exits.earlier) limit fault deciding
    measures.exits.is_run.by_table measures.exits.is_run.unrefused
    (exited_mode (mode_of (run_after regions (measures.exits.last ∷ measures.exits.earlier) start))
    measured.output.status measures.exits.exited)
    refused

no_limit : (table : ℕ) (regions : List Region) (start : LabelledRun) (secret_len limit : ℕ) (measured : Measured) →
    IsDeciding table → Measures table regions start secret_len limit measured → GoesOn table regions start limit → ⊥
no_limit table regions start secret_len limit measured deciding measures goes_on =
    let counted : length (measures.exits.last ∷ measures.exits.earlier) ≡ measured.turns =
    measures.exits.is_run.counted in
    let within : measured.turns ≤ limit = measures.exits.within in
    let all : length goes_on.answers ≡ limit = goes_on.is_run.counted in
    exits_not_running table regions start (measures.exits.last ∷ measures.exits.earlier) goes_on.answers deciding
    measures.exits.is_run.by_table
    (exited_mode (mode_of (run_after regions (measures.exits.last ∷ measures.exits.earlier) start))
    measured.output.status measures.exits.exited)
    goes_on.is_run.by_table goes_on.running (omega (arith, counted, within, all))

-- two runs that exit do so in the same turn, with the same events
pub not_longer : (table : ℕ) (regions : List Region) (start : LabelledRun) (limit turns other_turns : ℕ)
    (output other_output : Output) → IsDeciding table → (one : Exits table regions start limit turns output) →
    (other : Exits table regions start limit other_turns other_output) →
    length one.earlier < length other.earlier → ⊥
unfolding EachRunAnswer
not_longer table regions start limit turns other_turns output other_output deciding one other fewer =
    exits_not_running table regions start (one.last ∷ one.earlier) other.earlier deciding one.is_run.by_table
    (exited_mode (mode_of (run_after regions (one.last ∷ one.earlier) start)) output.status one.exited)
    other.is_run.by_table.0 other.running (omega (arith, fewer))

pub same_exits : (table : ℕ) (regions : List Region) (start : LabelledRun) (limit turns other_turns : ℕ)
    (output other_output : Output) → IsDeciding table → (one : Exits table regions start limit turns output) →
    (other : Exits table regions start limit other_turns other_output) →
    run_after regions (one.last ∷ one.earlier) start ≡ run_after regions (other.last ∷ other.earlier) start
same_exits table regions start limit turns other_turns output other_output deciding one other =
    ⊎_elim
    (λ (fewer : length one.earlier < length other.earlier).
    absurd (not_longer table regions start limit turns other_turns output other_output deciding one other fewer))
    (λ (few : length other.earlier ≤ length one.earlier).
    ⊎_elim
    (λ (fewer : length other.earlier < length one.earlier).
    absurd (not_longer table regions start limit other_turns turns other_output output deciding other one fewer))
    (λ (also : length one.earlier ≤ length other.earlier).
    runs_are_decided table regions start (one.last ∷ one.earlier) (other.last ∷ other.earlier) deciding
    (omega (arith, few, also)) one.is_run.by_table other.is_run.by_table)
    (cases_lt (length other.earlier) (length one.earlier)))
    (cases_lt (length one.earlier) (length other.earlier))

not_too_large : (table : ℕ) (regions : List Region) (start : LabelledRun) (secret_len limit : ℕ)
    (measured : Measured) → IsDeciding table → Measures table regions start secret_len limit measured →
    IsTooLarge table regions start limit → ⊥
not_too_large table regions start secret_len limit measured deciding measures large =
    measures.measure.within
    (subst (λ (run : LabelledRun). ExceedsLimit run.events)
    (same_exits table regions start limit large.turns measured.turns large.output measured.output deciding
    large.exits measures.exits)
    large.exceeds)

pub measured_have_no_cause : MeasuredHaveNoCause
measured_have_no_cause table regions start secret_len limit measured (TurnLimit turns) deciding measures cause =
    absurd (no_limit table regions start secret_len limit measured deciding measures cause.1)
measured_have_no_cause table regions start secret_len limit measured (Guest fault) deciding measures cause =
    absurd (no_refusal table regions start secret_len limit measured (Guest fault) deciding measures cause)
measured_have_no_cause table regions start secret_len limit measured (RegionFault broken) deciding measures cause =
    absurd (no_refusal table regions start secret_len limit measured (RegionFault broken) deciding measures cause)
measured_have_no_cause table regions start secret_len limit measured (SecretCode pc) deciding measures cause =
    absurd (no_refusal table regions start secret_len limit measured (SecretCode pc) deciding measures cause)
measured_have_no_cause table regions start secret_len limit measured (BaseSecret region register) deciding measures
    cause =
    absurd (no_refusal table regions start secret_len limit measured (BaseSecret region register) deciding measures
    cause)
measured_have_no_cause table regions start secret_len limit measured GraphLimit deciding measures cause =
    absurd (not_too_large table regions start secret_len limit measured deciding measures cause)
measured_have_no_cause table regions start secret_len limit measured Memory deciding measures cause = refl
