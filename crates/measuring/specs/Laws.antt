-- What tables 1, 2 and 3 decide: they say what each answer of a mask rule is, so that a run has one measure or one reason
-- to be refused. Of the answers of other books nothing but their soundness is known.
use Rattle.std.specs.Prelude.{◌≡◌, ℕ, List, length}
use Rattle.enclosure_regions.specs.declared.region_parts.Region.{Region}
use Rattle.run_labels.specs.Answers.{IsTableAnswer}
use Rattle.run_labels.specs.Traces.{EachAnswer}
use Rattle.run_labels.specs.Runs.{LabelledRun, EachRunAnswer, next_walk, run_after, turn_fault}
use Rattle.run_labels.specs.TurnLabels.{at_start}
use Rattle.run_labels.specs.declared.faults.MeasureFault.{MeasureFault}
use Rattle.run_labels.specs.declared.faults.MeasureFault.TheVariants.{Memory}
use Rattle.measuring.specs.declared.measured.Measured.{Measured}
use Rattle.measuring.specs.Measures.{HasCause, Measures}
use Rattle.transfer_rules.specs.Tables.{IsDeciding}

-- As many turns by answers of such a table come to the same place with the same labels and events, whatever the lists
-- of answers.
abbrev pub RunsAreDecided : Type 0
RunsAreDecided =
    (table : ℕ) (regions : List Region) (start : LabelledRun) (first second : List (List ℕ)) → IsDeciding table →
    length first ≡ length second → EachRunAnswer (IsTableAnswer table) regions first start →
    EachRunAnswer (IsTableAnswer table) regions second start →
    run_after regions first start ≡ run_after regions second start

-- and a turn is refused for the same reason
abbrev pub RefusalsAreDecided : Type 0
RefusalsAreDecided =
    (table : ℕ) (regions : List Region) (run : LabelledRun) (first second : List ℕ) → IsDeciding table →
    EachAnswer (IsTableAnswer table) (at_start run.labels) first (next_walk regions run) →
    EachAnswer (IsTableAnswer table) (at_start run.labels) second (next_walk regions run) →
    turn_fault regions first run ≡ turn_fault regions second run

-- a run that is measured has no cause to be refused
abbrev pub MeasuredHaveNoCause : Type 0
MeasuredHaveNoCause =
    (table : ℕ) (regions : List Region) (start : LabelledRun) (secret_len limit : ℕ) (measured : Measured)
    (fault : MeasureFault) → IsDeciding table → Measures table regions start secret_len limit measured →
    HasCause table regions start limit fault → fault ≡ Memory
