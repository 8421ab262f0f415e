-- What the top call's contract says of its reply, of what is put, and of the counts of faults.
use Rattle.std.specs.Prelude.{◌≡◌, ◌≢◌, ◌⊎◌, ◌↔◌, ℕ, ◌≤◌, List, [], ◌∷◌, length, take, Option, option_map}
use Rattle.cut_file.specs.Pictures.{cut_picture}
use Rattle.flow_base.specs.Counts.{Rose}
use Rattle.flow_base.specs.Loads.{Told}
use Rattle.flow_base.specs.Puts.{Taken, after_put}
use Rattle.many_runs.specs.declared.many.Many.{Many}
use Rattle.measuring.specs.declared.measured.Measured.{Measured}
use Rattle.command_line.specs.declared.tellings.Telling.{Telling}
use Rattle.command_line.specs.declared.tellings.Telling.TheVariants.{CutText}
use Rattle.command_line.specs.CommandLines.{IsNoCommand}
use Rattle.command_tasks.specs.Tasks.{RunTask, Task, JudgeSecrets, TellRun, MeasureAll}
use Rattle.task_answers.specs.Checks.{judged_by, limits_of}
use Rattle.task_answers.specs.CutTexts.{IsCutText}
use Rattle.task_answers.specs.Many.{AreMeasured}
use Rattle.task_answers.specs.Runs.{IsMeasured}
use Rattle.commands.specs.Headline.{Headline}
use Rattle.commands.specs.Lines.{IsOneLine}
use Rattle.commands.specs.MeasuredHeadline.{MeasuredHeadline}
use Rattle.commands.specs.Replies.{IsAnswered, Replies, Reply}

-- a cut that is told of a run carries the headline of measured runs, whatever is measured of the run and printed
abbrev pub TellingCarries : Telling → RunTask → List ℕ → Type 0
TellingCarries (CutText version) run text =
    (measured : Measured) → IsMeasured run measured → (printed : IsCutText version (cut_picture measured.cut) text)
    → MeasuredHeadline run.guest (run.secret ∷ []) run.settings.turns measured.value printed.cut text
TellingCarries telling run text = Unit {0}

-- the headline that a task and its text carry, beside what the answer to the task says
abbrev pub Carries : Task → List ℕ → Type 0
Carries (JudgeSecrets check) text = Headline (judged_by check.guest check.cut) (limits_of check)
Carries (TellRun telling run) text = TellingCarries telling run text
Carries (MeasureAll version runs) text =
    (many : Many) → AreMeasured runs many → (printed : IsCutText version (cut_picture many.cut) text)
    → MeasuredHeadline runs.guest runs.secrets runs.settings.turns many.value printed.cut text
Carries task text = Unit {0}

-- The reply to words, by what the file source tells: its status is 2 exactly where they are no command line, its text is
-- one line where it tells a refusal, with status 0 or 1 the words are answered, and the text of an answer carries the
-- headline of its task.
pub record IsReply (source : Option Told) (words : List (List ℕ)) (reply : Reply) : Type 0 where
  pub replies : Replies source words reply
  pub usage : (reply.status ≡ 2) ↔ IsNoCommand words
  pub low : reply.status ≤ 6
  pub line : 2 ≤ reply.status → IsOneLine reply.text
  pub answered : reply.status ≤ 1 → IsAnswered source words replies.answer
  pub headline : (it : IsAnswered source words replies.answer) → Carries it.task reply.text

-- What is put of a reply, and the status that says so: the whole text with the reply's own status, or a first part of it
-- with 7, where the put failed.
abbrev pub IsPut : Reply → ℕ → Option Taken → Option Taken → Type 0
IsPut reply status before now =
    ((status ≡ reply.status) × (now ≡ option_map (after_put reply.text) before))
    ⊎ ((status ≡ 7) × ((count : ℕ) × (count ≤ length reply.text)
    × (now ≡ option_map (after_put (take count reply.text)) before)))

-- The counts of faults of the file source and of the sink: a failed load raised the one and a failed put the other; where
-- the put did not fail the sink's count is as it was, and where no load failed, and none may have, the source's is.
pub record CountsFaults (status loads_before loads puts_before puts : ℕ) : Type 0 where
  pub load_failed : status ≡ 5 → Rose loads_before loads
  pub put_failed : status ≡ 7 → Rose puts_before puts
  pub puts_kept : status ≢ 7 → puts ≡ puts_before
  pub loads_kept : status ≢ 5 → status ≢ 7 → status ≢ 8 → loads ≡ loads_before
