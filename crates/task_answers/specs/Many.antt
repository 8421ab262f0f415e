-- Several runs of a guest that are measured together, and their one cut.
use Rattle.std.specs.Prelude.{◌≡◌, ◌≢◌, ℕ, List}
use Rattle.cut_file.specs.Pictures.{cut_picture}
use Rattle.many_runs.specs.declared.faults.ManyFault.TheVariants.{Memory as NoRoomForRuns}
use Rattle.many_runs.specs.declared.many.Many.{Many}
use Rattle.measuring.specs.Accepting.{HasShortText}
use Rattle.many_runs.specs.Accepting.{AreAcceptedByFolds, AreAcceptedByTheCut}
use Rattle.many_runs.specs.Causes.{HasManyCause}
use Rattle.many_runs.specs.Measures.{MeasuresTogether, Setup, setup_of}
use Rattle.command_tasks.specs.declared.refusals.Refusal.{Refusal}
use Rattle.command_tasks.specs.declared.refusals.Refusal.TheVariants.{Runs as RunsRefused}
use Rattle.command_tasks.specs.Refusals.{IsRefusedBy}
use Rattle.command_tasks.specs.Tasks.{ManyRunsTask}
use Rattle.task_answers.specs.Replies.{Answer, Reads, done_by}
use Rattle.task_answers.specs.CutTexts.{IsCutText}

abbrev pub setup_in : ManyRunsTask → Setup
setup_in runs =
    setup_of runs.settings.table runs.guest.program runs.guest.public_input runs.guest.regions runs.settings.turns

-- What is measured of the runs: each secret is accepted with the one cut, and with its fold, within the one number of bits
-- and the same turns; the texts of both are short enough for a cut file.
pub record AreMeasured (runs : ManyRunsTask) (many : Many) : Type 0 where
  pub measures : MeasuresTogether (setup_in runs) runs.secrets many
  pub accepted :
      AreAcceptedByTheCut runs.guest.program runs.guest.public_input runs.guest.regions runs.secrets runs.settings.turns many
  pub folds :
      AreAcceptedByFolds runs.guest.program runs.guest.public_input runs.guest.regions runs.secrets runs.settings.turns many
  pub short : HasShortText (cut_picture many.cut)

-- why they are refused
abbrev pub IsRunsRefusal : ManyRunsTask → Refusal → Type 0
IsRunsRefusal runs refusal =
    IsRefusedBy (λ fault. HasManyCause (setup_in runs) runs.secrets fault × (fault ≢ NoRoomForRuns)) RunsRefused refusal

-- the text of the one cut in a version
abbrev pub TellsTheCut : ℕ → Many → Answer → Type 0
TellsTheCut version many answer = (text : List ℕ) × IsCutText version (cut_picture many.cut) text × (answer ≡ done_by text)

abbrev pub AnswersMany : ℕ → ManyRunsTask → Answer → Type 0
AnswersMany version runs answer = Reads (AreMeasured runs) (IsRunsRefusal runs) (TellsTheCut version) answer
