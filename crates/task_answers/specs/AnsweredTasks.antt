-- The answer to what a command line and its files ask for.
use Rattle.std.specs.Prelude.{◌≡◌}
use Rattle.elf32_loader.specs.Writing.{written}
use Rattle.cut_file.specs.Folds.{migrated}
use Rattle.cut_file.specs.Texts.{cut_text}
use Rattle.rv32im_asm.specs.Listing.{listing}
use Rattle.command_tasks.specs.Tasks.{Task, JudgeSecrets, TellRun, WriteProgram, ListProgram, VerifyCertificate}
use Rattle.command_tasks.specs.Tasks.{BoundAll, MeasureAll, MigrateCut, TryNumber}
use Rattle.task_answers.specs.Bounding.{AnswersAllSecrets}
use Rattle.task_answers.specs.Replies.{Answer, done_by}
use Rattle.task_answers.specs.Checks.{AnswersCheck}
use Rattle.task_answers.specs.Many.{AnswersMany}
use Rattle.task_answers.specs.Runs.{AnswersRun}
use Rattle.task_answers.specs.Tellings.{AnswersTelling}
use Rattle.task_answers.specs.Trials.{TellsTrial, run_of_number}
use Rattle.task_answers.specs.Verdicts.{AnswersVerdict}

abbrev pub AnswersTask : Task → Answer → Type 0
AnswersTask (JudgeSecrets task) answer = AnswersCheck task answer
AnswersTask (BoundAll all) answer = AnswersAllSecrets all answer
AnswersTask (TellRun telling run) answer = AnswersTelling telling run answer
AnswersTask (MeasureAll version runs) answer = AnswersMany version runs answer
AnswersTask (WriteProgram picture) answer = answer ≡ done_by (written picture)
AnswersTask (ListProgram picture) answer = answer ≡ done_by (listing picture.segments)
AnswersTask (VerifyCertificate graph solved) answer = AnswersVerdict graph solved answer
AnswersTask (MigrateCut cut) answer = answer ≡ done_by (cut_text (migrated cut))
AnswersTask (TryNumber number) answer = AnswersRun (run_of_number number) (TellsTrial number) answer
