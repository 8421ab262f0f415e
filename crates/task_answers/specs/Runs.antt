-- One run of a guest that is to be told of, and what is measured of it.
use Rattle.std.specs.Prelude.{◌≢◌, ◌≤◌, ◌*◌, length}
use Rattle.cut_file.specs.Pictures.{cut_picture}
use Rattle.measuring.specs.declared.measured.Measured.{Measured}
use Rattle.measuring.specs.Accepting.{HasShortText, IsAcceptedByFolds, IsAcceptedByItsCut}
use Rattle.measuring.specs.Measures.{HasCause, Measures}
use Rattle.region_machine.specs.Starts.{guest as machine_of}
use Rattle.run_labels.specs.declared.faults.MeasureFault.TheVariants.{Memory as NoRoomForRun}
use Rattle.run_labels.specs.Runs.{LabelledRun, unlabelled}
use Rattle.command_tasks.specs.declared.refusals.Refusal.{Refusal}
use Rattle.command_tasks.specs.declared.refusals.Refusal.TheVariants.{Run as RunRefused}
use Rattle.command_tasks.specs.Refusals.{IsRefusedBy}
use Rattle.command_tasks.specs.Tasks.{RunTask}
use Rattle.task_answers.specs.Replies.{Answer, Reads}

-- the start of the run, where nothing depends on the secret
abbrev pub start_of : RunTask → LabelledRun
start_of run = unlabelled (machine_of run.guest.program run.guest.public_input run.secret)

-- What is measured of the run: the secret is accepted with that cut, and with its fold, within that number of bits and
-- the same turns; the number is at most eight for each byte of the secret; the texts of both are short enough for a cut
-- file.
pub record IsMeasured (run : RunTask) (measured : Measured) : Type 0 where
  pub measures : Measures run.settings.table run.guest.regions (start_of run) (length run.secret) run.settings.turns measured
  pub accepted :
      IsAcceptedByItsCut run.guest.program run.guest.public_input run.guest.regions run.secret run.settings.turns measured
  pub folds :
      IsAcceptedByFolds run.guest.program run.guest.public_input run.guest.regions run.secret run.settings.turns measured
  pub few : measured.value ≤ 8 * length run.secret
  pub short : HasShortText (cut_picture measured.cut)

-- why it is refused
abbrev pub IsRunRefusal : RunTask → Refusal → Type 0
IsRunRefusal run refusal =
    IsRefusedBy (λ fault.
    HasCause run.settings.table run.guest.regions (start_of run) run.settings.turns fault × (fault ≢ NoRoomForRun))
    RunRefused refusal

-- why the run is refused, or what is measured of it, and what comes of that
abbrev pub AnswersRun : RunTask → (Measured → Answer → Type 0) → Answer → Type 0
AnswersRun run Answers answer = Reads (IsMeasured run) (IsRunRefusal run) Answers answer
