-- The least declaration of regions that a run needs.
use Rattle.std.specs.Prelude.{◌≡◌, ℕ, List}
use Rattle.enclosure_regions.specs.declared.region_parts.Region.{Region}
use Rattle.enclosure_regions.specs.Reading.{Spells}
use Rattle.region_learn.specs.LearnAnswers.{Grants, RefusesToLearn}
use Rattle.region_learn.specs.Learning.{run_of}
use Rattle.region_learn.specs.Minimal.{NoByteCanGo, NoOutputIsKept, NoRegisterCanGo}
use Rattle.region_learn.specs.RegionTexts.{regions_text}
use Rattle.region_learn.specs.Unbroken.{RunsUnbroken}
use Rattle.region_learn.specs.Written.{Run as LearntRun}
use Rattle.region_machine.specs.Starts.{guest as machine_of}
use Rattle.rv32im_machine.specs.State.{State}
use Rattle.command_tasks.specs.declared.refusals.Refusal.{Refusal}
use Rattle.command_tasks.specs.declared.refusals.Refusal.TheVariants.{Learn}
use Rattle.command_tasks.specs.Guests.{Guest}
use Rattle.command_tasks.specs.Refusals.{IsRefusedBy}
use Rattle.task_answers.specs.Replies.{Answer, Reads, done_by}

-- the run of a guest on a secret of which the declaration is learnt, and its start
abbrev pub learnt_run : Guest → List ℕ → ℕ → LearntRun
learnt_run guest secret turns = run_of guest.program guest.public_input secret guest.regions turns

abbrev pub start_on : Guest → List ℕ → State
start_on guest secret = (machine_of guest.program guest.public_input secret).state

-- The regions are the least declaration: the run with them exits and breaks none, and it breaks with any one register or
-- byte left out, and with any one output that is to be kept.
pub record IsDeclaration (guest : Guest) (secret : List ℕ) (turns : ℕ) (regions : List Region) : Type 0 where
  pub grants : Grants (learnt_run guest secret turns) regions
  pub unbroken : RunsUnbroken regions turns (start_on guest secret)
  pub registers : NoRegisterCanGo regions turns (start_on guest secret)
  pub bytes : NoByteCanGo regions turns (start_on guest secret)
  pub outputs : NoOutputIsKept regions turns (start_on guest secret)

-- why there is none
abbrev pub IsLearnRefusal : Guest → List ℕ → ℕ → Refusal → Type 0
IsLearnRefusal guest secret turns refusal = IsRefusedBy (RefusesToLearn (learnt_run guest secret turns)) Learn refusal

-- the text of a region file, which spells the regions
abbrev pub TellsRegions : List Region → Answer → Type 0
TellsRegions regions answer =
    (text : List ℕ) × (text ≡ regions_text regions) × Spells text regions × (answer ≡ done_by text)

abbrev pub AnswersLearning : Guest → List ℕ → ℕ → Answer → Type 0
AnswersLearning guest secret turns answer =
    Reads (IsDeclaration guest secret turns) (IsLearnRefusal guest secret turns) TellsRegions answer
