-- The reply to a command line: words first, then loads, forms, and what is asked for.
use Rattle.std.specs.Prelude.{◌≡◌, ◌⊎◌, ℕ, List, [], Option, None, Some, Ok, Err}
use Rattle.flow_base.specs.Loads.{Told}
use Rattle.command_line.specs.CommandLines.{Command, IsCommand, IsNoCommand}
use Rattle.command_tasks.specs.declared.refusals.Refusal.{Refusal}
use Rattle.command_tasks.specs.declared.refusals.Refusal.TheVariants.{Usage}
use Rattle.command_tasks.specs.Loading.{Loads, Want}
use Rattle.command_tasks.specs.Statuses.{status_number}
use Rattle.command_tasks.specs.Tasks.{IsFormRefusal, IsTaskOf, Task, wants_of}
use Rattle.task_answers.specs.Replies.{Answer, told}
use Rattle.task_answers.specs.AnsweredTasks.{AnswersTask}

-- a load of a command is refused, or what is loaded is malformed
abbrev pub RefusesFiles : Option Told → Command → Refusal → Type 0
RefusesFiles source command refusal =
    Loads source (wants_of command) (Err refusal)
    ⊎ ((files : List (List ℕ)) × Loads source (wants_of command) (Ok files) × IsFormRefusal command files refusal)

-- words are refused before anything is made: they are no command line, or the files of this one are refused
abbrev pub RefusesWords : Option Told → List (List ℕ) → Refusal → Type 0
RefusesWords source words refusal =
    (IsNoCommand words × (refusal ≡ Usage))
    ⊎ ((command : Command) × IsCommand words command × RefusesFiles source command refusal)

-- Words are answered: they are this command line, these files are what the source gives under its names, the task is
-- the one that the files spell, and the answer is that task's.
pub record IsAnswered (source : Option Told) (words : List (List ℕ)) (answer : Answer) : Type 0 where
  pub command : Command
  pub named : IsCommand words command
  pub files : List (List ℕ)
  pub loads : Loads source (wants_of command) (Ok files)
  pub task : Task
  pub spelled : IsTaskOf command files task
  pub answers : AnswersTask task answer

-- the answer to words
abbrev pub AnswersWords : Option Told → List (List ℕ) → Answer → Type 0
AnswersWords source words answer =
    ((refusal : Refusal) × RefusesWords source words refusal × (answer ≡ Err refusal)) ⊎ IsAnswered source words answer

-- a status and a whole text
pub record Reply : Type 0 where
  pub status : ℕ
  pub text : List ℕ

abbrev pub reply_of : Answer → Reply
reply_of answer = record { status = status_number (told answer).status; text = (told answer).text }

-- the reply to words: that of an answer to them
pub record Replies (source : Option Told) (words : List (List ℕ)) (reply : Reply) : Type 0 where
  pub answer : Answer
  pub answers : AnswersWords source words answer
  pub tells : reply ≡ reply_of answer

-- the files that a command wants, in the order of their loads; where there is none, no files
abbrev pub wants_in : Option Command → List Want
wants_in None = []
wants_in (Some command) = wants_of command
