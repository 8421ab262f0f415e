-- Which status a command has where its files are loaded and well formed.
use Rattle.std.proofs.Common.{◌≡◌, ◌≤◌, ◌==◌, inl, inr, ℕ, List, [], ◌∷◌, length, Bool, true, false, Option, Some, None, Result, Ok, Err, refl, sym, ap, subst, arith, if◌then◌else◌}
use Rattle.std.proofs.lemmas.Bool.Decides.{nat_tests}
use Rattle.std.specs.List.{AllByRecursion}
use Rattle.flow_base.specs.Loads.{Told}
use Rattle.lockstep_replay.specs.Tasks.{Task as JudgedTask, Limits as CheckLimits}
use Rattle.lockstep_replay.specs.Verdicts.{Judgement, Accepts, Rejects, First}
use Rattle.lockstep_replay.proofs.Accepting.{accepted_law}
use Rattle.lockstep_replay.proofs.Judging.{rejected_law}
use Rattle.many_runs.specs.Accepting.{HasAccepted}
use Rattle.command_line.specs.declared.judgings.Judging.{Judging}
use Rattle.command_line.specs.declared.judgings.Judging.TheVariants.{Replay, Masks}
use Rattle.command_line.specs.declared.tellings.Telling.{Telling}
use Rattle.command_line.specs.declared.tellings.Telling.TheVariants.{CutText, Certificate, Report, Declaration}
use Rattle.command_line.specs.CommandLines.{Command, IsCommand}
use Rattle.command_tasks.specs.declared.refusals.Refusal.{Refusal}
use Rattle.command_tasks.specs.declared.statuses.Status.TheVariants.{Done, Rejected}
use Rattle.command_tasks.specs.Tasks.{CheckTask, RunTask, Task, BoundAll, JudgeSecrets, TellRun, MeasureAll}
use Rattle.command_tasks.specs.Tasks.{WriteProgram, ListProgram, VerifyCertificate, MigrateCut, TryNumber}
use Rattle.command_tasks.specs.Tasks.{IsFormRefusal, IsTaskOf, wants_of}
use Rattle.command_tasks.specs.Loading.{loaded_from}
use Rattle.command_tasks.specs.Statuses.{status_number}
use Rattle.task_answers.specs.Replies.{Answer}
use Rattle.task_answers.specs.Checks.{AnswersBy, judged_by, judgements_of, limits_of}
use Rattle.task_answers.specs.Tellings.{AnswersTelling, IsCertificateText, IsCutOfRun, IsReport, Tells}
use Rattle.task_answers.specs.AnsweredTasks.{AnswersTask}
use Rattle.task_answers.specs.Texts.{accepted_count}
use Rattle.task_answers.specs.Trials.{TellsTrial, run_of_number}
use Rattle.commands.specs.Replies.{Replies, Reply}
use Rattle.commands.proofs.Readings.{AnswersCommand, AnswersFiles, IsUsage, ReadsWords, reads_it, reads_words, status_of}
use Rattle.commands.proofs.Readings.{words_reading}
use Rattle.reply_laws.specs.Laws.{AreLoaded, Completes, CompletesBy, CompletesCheck, CompletesTelling}
use Rattle.reply_laws.proofs.OneGuest.{RegionLaws}
use Rattle.reply_laws.proofs.OneBound.{bound_completes}
use Rattle.reply_laws.proofs.OneFinding.{taint_completes}
use Rattle.reply_laws.proofs.OneLearning.{learning_completes}
use Rattle.reply_laws.proofs.DecidingTables.{Decides, DecidesBy, task_decides}
use Rattle.reply_laws.proofs.OneReply.{certificate_completes, run_completes}
use Rattle.reply_laws.proofs.OneReply.{telling_done, trial_done}
use Rattle.reply_laws.proofs.OneTask.{task_reading}
use Rattle.reply_laws.proofs.OneUnion.{many_completes}
use Rattle.transfer_rules.specs.Tables.{IsDeciding}

-- ---- a check

count_most : (judgements : List Judgement) → accepted_count judgements ≤ length judgements
count_most [] = omega arith
count_most (Accepts bits output ∷ judgements) = let few = count_most judgements in omega (arith, few)
count_most (Rejects why ∷ judgements) = let few = count_most judgements in omega (arith, few)

-- where every secret is accepted, so is the first, and so are the others
first_accepted : (task : JudgedTask) (limits : CheckLimits) (secret : List ℕ) (judgement : Judgement)
    (judgements : List Judgement) → First task limits secret ≡ judgement →
    accepted_count (judgement ∷ judgements) ≡ length (judgement ∷ judgements) →
    HasAccepted task limits secret × (accepted_count judgements ≡ length judgements)
first_accepted task limits secret (Accepts bits output) judgements e all =
    ((output, (accepted_law task limits secret bits output e).0), omega (arith, all))
first_accepted task limits secret (Rejects why) judgements e all =
    let few = count_most judgements in absurd (omega (arith, all, few))

all_accepted : (task : JudgedTask) (limits : CheckLimits) (secrets : List (List ℕ)) →
    accepted_count (judgements_of task limits secrets) ≡ length (judgements_of task limits secrets) →
    AllByRecursion (HasAccepted task limits) secrets
all_accepted task limits [] all = tt
all_accepted task limits (secret ∷ secrets) all =
    let first = first_accepted task limits secret (First task limits secret) (judgements_of task limits secrets) refl
    all in (first.0, all_accepted task limits secrets first.1)

first_counted : (task : JudgedTask) (limits : CheckLimits) (secret : List ℕ) (judgement : Judgement)
    (judgements : List Judgement) → First task limits secret ≡ judgement → HasAccepted task limits secret →
    accepted_count judgements ≡ length judgements →
    accepted_count (judgement ∷ judgements) ≡ length (judgement ∷ judgements)
first_counted task limits secret (Accepts bits output) judgements e accepted all = omega (arith, all)
first_counted task limits secret (Rejects why) judgements e accepted all =
    absurd (rejected_law task limits secret why e accepted.0 accepted.1)

all_counted : (task : JudgedTask) (limits : CheckLimits) (secrets : List (List ℕ)) →
    AllByRecursion (HasAccepted task limits) secrets →
    accepted_count (judgements_of task limits secrets) ≡ length (judgements_of task limits secrets)
all_counted task limits [] all = refl
all_counted task limits (secret ∷ secrets) all =
    first_counted task limits secret (First task limits secret) (judgements_of task limits secrets) refl all.0
    (all_counted task limits secrets all.1)

-- the status of a check by whether the counts are the same
check_by : (task : JudgedTask) (limits : CheckLimits) (secrets : List (List ℕ)) (same : Bool) →
    (accepted_count (judgements_of task limits secrets) == length (judgements_of task limits secrets)) ≡ same →
    CompletesCheck task limits secrets (status_number (if same then Done else Rejected))
check_by task limits secrets true e = record {
  known = omega arith;
  accepted = λ zero. all_accepted task limits secrets (grind (arith, nat_tests, e));
  done = λ all. refl;
}
check_by task limits secrets false e = record {
  known = omega arith;
  accepted = λ zero. absurd (omega (arith, zero));
  done = λ all.
      let counted = all_counted task limits secrets all in
      absurd (grind (arith, nat_tests, counted, e));
}

-- ---- every command

replayed : (task : CheckTask) (answer : Answer) → AnswersBy Replay task answer →
    CompletesCheck (judged_by task.guest task.cut) (limits_of task) task.secrets (status_of answer)
replayed task answer e =
    let judgements = judgements_of (judged_by task.guest task.cut) (limits_of task) task.secrets in
    let counts : Bool = accepted_count judgements == length judgements in
    let status : status_number (if counts then Done else Rejected) ≡ status_of answer = ap status_of (sym e) in
    subst (λ s. CompletesCheck (judged_by task.guest task.cut) (limits_of task) task.secrets s) status
    (check_by (judged_by task.guest task.cut) (limits_of task) task.secrets counts refl)

check_completes : (judging : Judging) (task : CheckTask) (answer : Answer) → DecidesBy judging →
    AnswersBy judging task answer →
    CompletesBy judging (judged_by task.guest task.cut) (limits_of task) task.secrets (status_of answer)
check_completes Replay task answer deciding h = replayed task answer h
check_completes (Masks table) task answer deciding h =
    taint_completes table (judged_by task.guest task.cut) (limits_of task) task.secrets answer deciding h

telling_completes : (telling : Telling) (run : RunTask) (answer : Answer) → IsDeciding run.settings.table →
    AnswersTelling telling run answer → CompletesTelling telling run (status_of answer)
telling_completes (CutText version) run answer deciding h =
    run_completes run (Tells (IsCutOfRun version)) (telling_done (IsCutOfRun version)) deciding answer h
telling_completes Certificate run answer deciding h =
    run_completes run (Tells IsCertificateText) (telling_done IsCertificateText) deciding answer h
telling_completes (Report json) run answer deciding h =
    run_completes run (Tells (IsReport json)) (telling_done (IsReport json)) deciding answer h
telling_completes Declaration run answer deciding h = learning_completes run answer h

task_completes : (task : Task) (answer : Answer) → Decides task → AnswersTask task answer →
    Completes task (status_of answer)
task_completes (JudgeSecrets task) answer deciding h = check_completes task.settings.judging task answer deciding h
task_completes (BoundAll all) answer deciding h = bound_completes all answer h
task_completes (TellRun telling run) answer deciding h = telling_completes telling run answer deciding h
task_completes (MeasureAll version runs) answer deciding h = many_completes version runs answer deciding h
task_completes (WriteProgram picture) answer deciding e = ap status_of e
task_completes (ListProgram picture) answer deciding e = ap status_of e
task_completes (VerifyCertificate graph solved) answer deciding h = certificate_completes graph solved answer h
task_completes (MigrateCut cut) answer deciding e = ap status_of e
task_completes (TryNumber number) answer deciding h =
    run_completes (run_of_number number) (TellsTrial number) (trial_done number) (inl refl) answer h

err_ok : (refusal : Refusal) (files : List (List ℕ)) (loaded : Result (List (List ℕ)) Refusal) →
    Err refusal ≡ loaded → loaded ≡ Ok files → ⊥
err_ok refusal files loaded e f = cc

same_ok : (a b : List (List ℕ)) (loaded : Result (List (List ℕ)) Refusal) → Ok a ≡ loaded → loaded ≡ Ok b → a ≡ b
same_ok a b loaded e f = cc

-- where these files are loaded
reads_loaded : (told : Told) (command : Command) (files : List (List ℕ)) (answer : Answer) →
    loaded_from told (wants_of command) ≡ Ok files → AnswersCommand (Some told) command answer →
    AnswersFiles command files answer
reads_loaded told command files answer are (inl (refusal, loads, e)) = absurd (err_ok refusal files _ loads.1 are)
reads_loaded told command files answer are (inr (others, loads, h)) =
    subst (λ f. AnswersFiles command f answer) (same_ok others files _ loads.1 are) h

words_complete : RegionLaws → (source : Option Told) (words files : List (List ℕ)) (command : Command) (task : Task)
    (answer : Answer) → IsCommand words command → AreLoaded source command files → IsTaskOf command files task →
    ReadsWords source words answer → Completes task (status_of answer)
words_complete laws None words files command task answer named are is answers = absurd are
words_complete laws (Some told) words files command task answer named are is answers =
    let of_command = reads_it Command (IsCommand words) (IsUsage words) (AnswersCommand (Some told))
    (words_reading words) command answer named answers in
    let of_files = reads_loaded told command files answer are of_command in
    let of_task = reads_it Task (IsTaskOf command files) (IsFormRefusal command files) AnswersTask
    (task_reading laws command files) task answer is of_files in
    task_completes task answer (task_decides words files command task named is) of_task

pub complete_of : RegionLaws → (source : Option Told) (words files : List (List ℕ)) (command : Command) (task : Task)
    (reply : Reply) → IsCommand words command → AreLoaded source command files → IsTaskOf command files task →
    Replies source words reply → Completes task reply.status
complete_of laws source words files command task reply named are is replies =
    subst (λ s. Completes task s) (ap (λ r. r.status) (sym replies.tells))
    (words_complete laws source words files command task replies.answer named are is
    (reads_words source words replies.answer replies.answers))
