-- Secrets of a guest that are judged by a cut.
use Rattle.std.specs.Prelude.{◌≡◌, Ok, ◌==◌, ℕ, List, [], ◌∷◌, length, if◌then◌else◌}
use Rattle.cut_file.specs.Cuts.{CutPicture}
use Rattle.lockstep_replay.specs.Tasks.{Task as JudgedTask, Limits, task_of}
use Rattle.lockstep_replay.specs.Verdicts.{Judgement, First}
use Rattle.command_line.specs.declared.judgings.Judging.{Judging}
use Rattle.command_line.specs.declared.judgings.Judging.TheVariants.{Replay, Masks}
use Rattle.command_tasks.specs.declared.statuses.Status.TheVariants.{Done, Rejected}
use Rattle.command_tasks.specs.Guests.{Guest}
use Rattle.command_tasks.specs.Tasks.{CheckTask}
use Rattle.task_answers.specs.declared.replies.Reply.{Reply}
use Rattle.task_answers.specs.Replies.{Answer}
use Rattle.task_answers.specs.Finding.{AnswersTaint}
use Rattle.task_answers.specs.Texts.{check_text, accepted_count}

-- the limits of bits and of turns
abbrev pub limits_of : CheckTask → Limits
limits_of task = record { budget = task.settings.budget; turns = task.settings.turns }

-- what secrets of a guest are judged by
abbrev pub judged_by : Guest → CutPicture → JudgedTask
judged_by guest cut = task_of guest.program guest.public_input guest.regions cut

-- each secret is judged from a fresh start
abbrev pub judgements_of : JudgedTask → Limits → List (List ℕ) → List Judgement
judgements_of task limits [] = []
judgements_of task limits (secret ∷ secrets) = First task limits secret ∷ judgements_of task limits secrets

-- done where every secret is accepted
abbrev pub check_reply : List Judgement → ℕ → Reply
check_reply judgements budget = record {
  status = if accepted_count judgements == length judgements then Done else Rejected;
  text = check_text judgements budget;
}

-- a judgement of each secret by a second machine
abbrev pub AnswersReplay : JudgedTask → Limits → List (List ℕ) → Answer → Type 0
AnswersReplay task limits secrets answer = answer ≡ Ok (check_reply (judgements_of task limits secrets) limits.budget)

abbrev pub AnswersBy : Judging → CheckTask → Answer → Type 0
AnswersBy Replay task answer = AnswersReplay (judged_by task.guest task.cut) (limits_of task) task.secrets answer
AnswersBy (Masks table) task answer =
    AnswersTaint table (judged_by task.guest task.cut) (limits_of task) task.secrets answer

abbrev pub AnswersCheck : CheckTask → Answer → Type 0
AnswersCheck task answer = AnswersBy task.settings.judging task answer
