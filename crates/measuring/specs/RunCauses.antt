-- Measured runs: what is so of one that exits, of one that goes on, and of one that is refused.
use Rattle.std.specs.Prelude.{◌≡◌, ℕ, ◌<◌, ◌≤◌, List, ◌∷◌, length, Some, false}
use Rattle.enclosure_regions.specs.declared.region_parts.Region.{Region}
use Rattle.flow_base.specs.declared.outputs.Output.{Output}
use Rattle.region_machine.specs.Runs.{has_exited}
use Rattle.rv32im_machine.specs.declared.stepping.Stepped.{Stepped}
use Rattle.rv32im_machine.specs.declared.stepping.Stepped.TheVariants.{Exited}
use Rattle.run_labels.specs.declared.faults.MeasureFault.{MeasureFault}
use Rattle.run_labels.specs.Answers.{IsSoundAnswer, IsTableAnswer}
use Rattle.run_labels.specs.Runs.{LabelledRun, run_after, turn_fault, EachRunAnswer, IsUnrefused}
use Rattle.tracked_run.specs.Runs.{AreAnswers}

-- so many turns that are not refused, by answers of the rules, the latest turn's first, that are sound and the table's
pub record IsUnrefusedRun (table : ℕ) (regions : List Region) (start : LabelledRun) (answers : List (List ℕ)) (turns : ℕ) :
    Type 0 where
  pub sound : EachRunAnswer IsSoundAnswer regions answers start
  pub by_table : EachRunAnswer (IsTableAnswer table) regions answers start
  pub unrefused : IsUnrefused regions answers start
  pub counted : length answers ≡ turns

abbrev pub mode_of : LabelledRun → Stepped
mode_of run = run.place.state.control.mode

-- in so many turns the run has not exited
pub record GoesOn (table : ℕ) (regions : List Region) (start : LabelledRun) (turns : ℕ) : Type 0 where
  pub answers : List (List ℕ)
  pub is_run : IsUnrefusedRun table regions start answers turns
  pub running : has_exited (mode_of (run_after regions answers start)) ≡ false

-- in the last of so many turns, which are no more than the limit, the run exits with this output
pub record Exits (table : ℕ) (regions : List Region) (start : LabelledRun) (limit turns : ℕ) (output : Output) :
    Type 0 where
  pub earlier : List (List ℕ)
  pub last : List ℕ
  pub is_run : IsUnrefusedRun table regions start (last ∷ earlier) turns
  pub within : turns ≤ limit
  pub running : has_exited (mode_of (run_after regions earlier start)) ≡ false
  pub exited : mode_of (run_after regions (last ∷ earlier) start) ≡ Exited output.status
  pub written : (run_after regions (last ∷ earlier) start).place.state.control.output ≡ output.bytes

-- after fewer turns than the limit the next one is refused for this reason
pub record IsRefused (table : ℕ) (regions : List Region) (start : LabelledRun) (limit : ℕ) (fault : MeasureFault) :
    Type 0 where
  pub turns : ℕ
  pub before : GoesOn table regions start turns
  pub within : turns < limit
  pub answers : List ℕ
  pub are_answers : AreAnswers table regions (run_after regions before.answers start) answers
  pub refused : turn_fault regions answers (run_after regions before.answers start) ≡ Some fault
