-- Words and what a source tells have one status: so each status comes exactly where the reply has it.
use Rattle.std.proofs.Common.{◌≡◌, ◌∙◌, inl, inr, ℕ, List, length, Bool, true, false, codes, Option, Some, None, is_some, Result, Ok, Err, refl, sym, ap, subst, arith}
use Rattle.std.proofs.lemmas.Bool.{false≢true}
use Rattle.std.specs.Prelude.{◌++◌}
use Rattle.std.specs.Fmt.{decimal}
use Rattle.flow_base.specs.declared.outputs.Output.{Output}
use Rattle.flow_base.specs.Loads.{Told}
use Rattle.cut_file.specs.Cuts.{CutPicture}
use Rattle.cut_file.specs.Pictures.{cut_picture}
use Rattle.flow_certificate.proofs.OneVerdict.{one_verdict}
use Rattle.leak_report.proofs.OneReport.{one_report_json, one_report_text}
use Rattle.lockstep_replay.specs.Tasks.{Cross}
use Rattle.max_flow.specs.declared.answers.Side.{Side}
use Rattle.trial_guests.specs.Secrets.{secret_of}
use Rattle.flow_certificate.specs.declared.verdicts.CertVerdict.{CertVerdict}
use Rattle.flow_certificate.specs.declared.verdicts.CertVerdict.TheVariants.{Verified, Rejected as RejectedBy}
use Rattle.flow_certificate.specs.Verdicts.{IsVerified}
use Rattle.flow_graph.specs.declared.graphs.Graph.{Graph}
use Rattle.max_flow.specs.declared.answers.Solved.{Solved}
use Rattle.measuring.specs.declared.measured.Measured.{Measured}
use Rattle.measuring.proofs.OneCause.{one_cause}
use Rattle.measuring.proofs.OneMeasure.{AreSameMeasures, one_measure, told_alike}
use Rattle.measuring.proofs.MeasuredWithoutCause.{measured_have_no_cause}
use Rattle.command_line.specs.declared.judgings.Judging.{Judging}
use Rattle.command_line.specs.declared.judgings.Judging.TheVariants.{Replay, Masks}
use Rattle.command_line.specs.declared.settings.RunSettings.{RunSettings}
use Rattle.command_line.specs.declared.tellings.Telling.{Telling}
use Rattle.command_line.specs.declared.tellings.Telling.TheVariants.{CutText, Certificate, Report, Declaration}
use Rattle.command_line.specs.CommandLines.{GuestFiles, Command, Checks, Bounds, Tells, MeasuresAll, Assembles, Lists, Verifies, Migrates, Tries, IsCommand}
use Rattle.command_tasks.specs.declared.refusals.Refusal.{Refusal}
use Rattle.command_tasks.specs.declared.refusals.Refusal.TheVariants.{Run as RunRefused}
use Rattle.command_tasks.specs.Tasks.{AllSecretsTask, CheckTask, RunTask, Task, BoundAll, JudgeSecrets, TellRun, MeasureAll}
use Rattle.command_tasks.specs.Tasks.{WriteProgram, ListProgram, VerifyCertificate, MigrateCut, TryNumber}
use Rattle.command_tasks.specs.Tasks.{IsFormRefusal, IsTaskOf, wants_of}
use Rattle.command_tasks.specs.Loading.{Loads, Want, loaded_from}
use Rattle.task_answers.specs.Replies.{Answer, done_by}
use Rattle.task_answers.specs.Checks.{AnswersBy, judged_by, limits_of}
use Rattle.task_answers.specs.Runs.{AnswersRun, IsMeasured, IsRunRefusal, start_of}
use Rattle.task_answers.specs.CutTexts.{IsCutText}
use Rattle.task_answers.specs.Tellings.{AnswersTelling, IsCertificateText, IsCutOfRun, IsReport, Tells as TellsOf}
use Rattle.task_answers.specs.Tellings.{report_of}
use Rattle.task_answers.specs.AnsweredTasks.{AnswersTask}
use Rattle.task_answers.specs.Trials.{TellsTrial, crossing_count, guest_of_number, run_of_number, trial_line}
use Rattle.task_answers.specs.Trials.{trial_turns}
use Rattle.task_answers.specs.Verdicts.{AnswersVerdict, IsExactVerdict, verdict_reply}
use Rattle.commands.specs.Replies.{Replies, Reply, reply_of}
use Rattle.commands.proofs.Readings.{AnswersCommand, AnswersFiles, AreOne, IsReading, IsUsage, ReadsWords, reads_one, reads_words}
use Rattle.commands.proofs.Readings.{status_of, words_reading}
use Rattle.reply_laws.specs.Laws.{AreLoaded, CompletesRun, CompletesVerdict, HasFewPaths, HaveFewPaths, IsNoGraph}
use Rattle.reply_laws.proofs.CutTexts.{one_cut_text}
use Rattle.reply_laws.proofs.DecidingTables.{Decides, DecidesBy, task_decides}
use Rattle.reply_laws.proofs.OneBound.{bound_same}
use Rattle.reply_laws.proofs.OneFinding.{taint_same}
use Rattle.reply_laws.proofs.OneGuest.{RegionLaws}
use Rattle.reply_laws.proofs.OneLearning.{learning_same}
use Rattle.reply_laws.proofs.OneTask.{task_reading}
use Rattle.reply_laws.proofs.OneUnion.{many_same}
use Rattle.transfer_rules.specs.Tables.{IsDeciding}

-- ---- a measured run

-- what is told of a measured run is told with status 0
abbrev pub IsDone : (Measured → Answer → Type 0) → Type 0
IsDone Answers = (measured : Measured) (answer : Answer) → Answers measured answer → status_of answer ≡ 0

-- a run that is measured has no cause to be refused
no_cause : (run : RunTask) (measured : Measured) (refusal : Refusal) → IsDeciding run.settings.table → IsMeasured run measured →
    IsRunRefusal run refusal → ⊥
no_cause run measured refusal deciding is (fault, (cause, room), e) =
    room (measured_have_no_cause run.settings.table run.guest.regions (start_of run) (length run.secret) run.settings.turns measured fault
    deciding is.measures cause)

run_one : (run : RunTask) (Answers : Measured → Answer → Type 0) → IsDone Answers → IsDeciding run.settings.table →
    (first second : Answer) → AnswersRun run Answers first → AnswersRun run Answers second → AreOne first second
run_one run Answers done deciding first second (inl (refusal, (fault, is, e), f)) (inl (other, (also, was, g), h)) =
    ap status_of (f ∙ ap (λ r. Err r) e) ∙ sym (ap status_of (h ∙ ap (λ r. Err r) g))
run_one run Answers done deciding first second (inl (refusal, is, e)) (inr (measured, also, answers)) =
    absurd (no_cause run measured refusal deciding also is)
run_one run Answers done deciding first second (inr (measured, is, answers)) (inl (refusal, also, e)) =
    absurd (no_cause run measured refusal deciding is also)
run_one run Answers done deciding first second (inr (measured, is, answers)) (inr (other, also, more)) =
    done measured first answers ∙ sym (done other second more)

-- what is told of two measures that share all but the flow is the same
abbrev IsAlike : (Measured → Answer → Type 0) → Type 0
IsAlike Answers =
    (one other : Measured) (first second : Answer) → AreSameMeasures one other → Answers one first →
    Answers other second → first ≡ second

run_same : (run : RunTask) (Answers : Measured → Answer → Type 0) → IsAlike Answers → IsDeciding run.settings.table →
    (first second : Answer) → AnswersRun run Answers first → AnswersRun run Answers second → first ≡ second
run_same run Answers alike deciding first second (inl (refusal, (fault, (cause, room), e), f)) (inl (other, (also, (was, rooms), g), h)) =
    let same = one_cause run.settings.table run.guest.regions (start_of run) run.settings.turns fault also deciding cause was room rooms in
    f ∙ (ap (λ r. Err r) (e ∙ (ap (λ x. RunRefused x) same ∙ sym g)) ∙ sym h)
run_same run Answers alike deciding first second (inl (refusal, is, e)) (inr (measured, also, answers)) =
    absurd (no_cause run measured refusal deciding also is)
run_same run Answers alike deciding first second (inr (measured, is, answers)) (inl (refusal, also, e)) =
    absurd (no_cause run measured refusal deciding is also)
run_same run Answers alike deciding first second (inr (measured, is, answers)) (inr (other, also, more)) =
    alike measured other first second
    (one_measure run.settings.table run.guest.regions (start_of run) (length run.secret) run.settings.turns measured other deciding
    is.measures also.measures)
    answers more

pub run_completes : (run : RunTask) (Answers : Measured → Answer → Type 0) → IsDone Answers → IsDeciding run.settings.table →
    (answer : Answer) → AnswersRun run Answers answer → CompletesRun run (status_of answer)
run_completes run Answers done deciding answer (inl (refusal, (fault, (cause, room), e), f)) =
    let four : status_of answer ≡ 4 = ap status_of (f ∙ ap (λ r. Err r) e) in
    record {
      known = inr four;
      measured = λ zero. absurd (omega (arith, four, zero));
      done = λ none. absurd (room (none fault cause));
    }
run_completes run Answers done deciding answer (inr (measured, is, answers)) =
    let zero : status_of answer ≡ 0 = done measured answer answers in
    record {
      known = inl zero;
      measured = λ z. λ fault. λ cause.
          measured_have_no_cause run.settings.table run.guest.regions (start_of run) (length run.secret) run.settings.turns measured fault
          deciding is.measures cause;
      done = λ none. zero;
    }

pub telling_done : (IsText : Measured → List ℕ → Type 0) → IsDone (TellsOf IsText)
telling_done IsText measured answer (text, is, e) = ap status_of e

pub trial_done : (number : ℕ) → IsDone (TellsTrial number)
trial_done number measured answer e = ap status_of e

-- ---- what is told

cut_told : (version : ℕ) → IsAlike (TellsOf (IsCutOfRun version))
cut_told version one other first second same (text, is, e) (words, also, f) =
    let here : IsCutText version (cut_picture other.cut) text = subst (λ cut. IsCutText version cut text) same.cut is in
    e ∙ (ap done_by (one_cut_text version (cut_picture other.cut) text words here also) ∙ sym f)

report_same : (json : Bool) (one other : Measured) → AreSameMeasures one other → report_of json one ≡ report_of json other
report_same true one other same = one_report_json one other same
report_same false one other same = one_report_text one other same

report_told : (json : Bool) → IsAlike (TellsOf (IsReport json))
report_told json one other first second same (text, is, e) (words, also, f) =
    let texts : text ≡ words = is ∙ (report_same json one other same ∙ sym also) in
    e ∙ (ap done_by texts ∙ sym f)

-- the line of a trial, by what it tells
trial_told : ℕ → ℕ → ℕ → Output → Graph → Side → CutPicture → List ℕ
trial_told number value turns output graph side cut =
    (codes "trial " ++ (decimal number ++ (codes " secret " ++ (decimal (length (secret_of number))
    ++ (codes " bits " ++ (decimal value ++ (codes " points " ++ (decimal (length graph.points) ++ codes " "))))))))
    ++ (codes "cut " ++ (decimal (length cut.points) ++ (codes " turns " ++ (decimal turns ++ (codes " crossing "
    ++ (decimal (length (Cross (judged_by (guest_of_number number) cut) (secret_of number) trial_turns))
    ++ (codes " output " ++ (decimal (length output.bytes) ++ codes "\n"))))))))

trial_same : (number : ℕ) (one other : Measured) → AreSameMeasures one other →
    trial_line number one (crossing_count number one) ≡ trial_line number other (crossing_count number other)
unfolding trial_told
trial_same number one other same = told_alike (trial_told number) one other same

told_trial : (number : ℕ) → IsAlike (TellsTrial number)
told_trial number one other first second same e f = e ∙ (ap done_by (trial_same number one other same) ∙ sym f)

-- ---- a certificate

verdict_completes : (graph : Graph) (solved : Solved) (verdict : CertVerdict) → IsExactVerdict graph solved verdict →
    CompletesVerdict graph solved (status_of (Ok (verdict_reply verdict)))
verdict_completes graph solved (Verified value) is = record {
  known = omega arith;
  verified = λ zero. subst (λ v. IsVerified graph solved v) is.shows.named is.shows;
  done = λ verified. refl;
}
verdict_completes graph solved (RejectedBy fault) is = record {
  known = omega arith;
  verified = λ zero. absurd (omega (arith, zero));
  done = λ verified. ap (λ v. status_of (Ok (verdict_reply v))) (is.verified verified);
}

pub certificate_completes : (graph : Graph) (solved : Solved) (answer : Answer) → AnswersVerdict graph solved answer →
    CompletesVerdict graph solved (status_of answer)
certificate_completes graph solved answer (verdict, is, e) =
    subst (λ s. CompletesVerdict graph solved s) (sym (ap status_of e)) (verdict_completes graph solved verdict is)

certificate_same : (graph : Graph) (solved : Solved) (first second : Answer) → AnswersVerdict graph solved first →
    AnswersVerdict graph solved second → first ≡ second
certificate_same graph solved first second (verdict, is, e) (found, also, f) =
    let verdicts : verdict ≡ found =
    one_verdict graph solved verdict found is.shows also.shows is.verified also.verified in
    let answer : CertVerdict → Answer = λ v. Ok (verdict_reply v) in
    e ∙ (ap answer verdicts ∙ sym f)

-- ---- every command

-- no certificate of a run
abbrev IsNoCertificate : Telling → Type 0
IsNoCertificate (CutText version) = Unit {0}
IsNoCertificate Certificate = ⊥
IsNoCertificate (Report json) = Unit {0}
IsNoCertificate Declaration = Unit {0}

abbrev NoGraph : Task → Type 0
NoGraph (JudgeSecrets task) = Unit {0}
NoGraph (BoundAll all) = Unit {0}
NoGraph (TellRun telling run) = IsNoCertificate telling
NoGraph (MeasureAll version runs) = Unit {0}
NoGraph (WriteProgram picture) = Unit {0}
NoGraph (ListProgram picture) = Unit {0}
NoGraph (VerifyCertificate graph solved) = Unit {0}
NoGraph (MigrateCut cut) = Unit {0}
NoGraph (TryNumber number) = Unit {0}

no_certificate : (words : List (List ℕ)) (telling : Telling) (guest : GuestFiles) (secret : List ℕ) (settings : RunSettings) →
    IsNoGraph words → IsCommand words (Tells telling guest secret settings) → IsNoCertificate telling
no_certificate words (CutText version) guest secret settings none named = tt
no_certificate words Certificate guest secret settings none named = absurd (none guest secret settings named)
no_certificate words (Report json) guest secret settings none named = tt
no_certificate words Declaration guest secret settings none named = tt

no_graph : (words files : List (List ℕ)) (command : Command) (task : Task) → IsNoGraph words →
    IsCommand words command → IsTaskOf command files task → NoGraph task
no_graph words files (Checks guest cut secrets settings) task none named (x, is, same, e) = subst NoGraph (sym e) tt
no_graph words files (Bounds guest cut settings) task none named (x, is, same, e) = subst NoGraph (sym e) tt
no_graph words files (Tells telling guest secret settings) task none named (x, is, same, e) =
    subst NoGraph (sym e) (no_certificate words telling guest secret settings none named)
no_graph words files (MeasuresAll version guest secrets settings) task none named (x, is, same, e) = subst NoGraph (sym e) tt
no_graph words files (Assembles source) task none named (file, x, are, is, e) = subst NoGraph (sym e) tt
no_graph words files (Lists program) task none named (file, x, are, is, e) = subst NoGraph (sym e) tt
no_graph words files (Verifies certificate) task none named (file, x, y, are, is, e) = subst NoGraph (sym e) tt
no_graph words files (Migrates cut) task none named (file, x, are, is, e) = subst NoGraph (sym e) tt
no_graph words files (Tries number) task none named e = subst NoGraph (sym e) tt

check_same : (judging : Judging) (task : CheckTask) (first second : Answer) → DecidesBy judging →
    AnswersBy judging task first → AnswersBy judging task second → first ≡ second
check_same Replay task first second deciding one other = one ∙ sym other
check_same (Masks table) task first second deciding one other =
    taint_same table (judged_by task.guest task.cut) (limits_of task) task.secrets first second deciding one other

telling_same : (telling : Telling) (run : RunTask) (first second : Answer) → IsNoCertificate telling →
    IsDeciding run.settings.table → AnswersTelling telling run first → AnswersTelling telling run second → first ≡ second
telling_same (CutText version) run first second none deciding one other =
    run_same run (TellsOf (IsCutOfRun version)) (cut_told version) deciding first second one other
telling_same Certificate run first second none deciding one other = absurd none
telling_same (Report json) run first second none deciding one other =
    run_same run (TellsOf (IsReport json)) (report_told json) deciding first second one other
telling_same Declaration run first second none deciding one other =
    learning_same run.guest run.secret run.settings.turns first second one other

-- where a bound is asked for, there are no more paths than walks may be made
abbrev IsFew : Task → Type 0
IsFew task = (all : AllSecretsTask) → task ≡ BoundAll all → HasFewPaths all

task_same : (task : Task) (first second : Answer) → NoGraph task → Decides task → IsFew task →
    AnswersTask task first → AnswersTask task second → first ≡ second
task_same (JudgeSecrets task) first second none deciding few one other =
    check_same task.settings.judging task first second deciding one other
task_same (BoundAll all) first second none deciding few one other =
    bound_same all first second (few all refl) one other
task_same (TellRun telling run) first second none deciding few one other =
    telling_same telling run first second none deciding one other
task_same (MeasureAll version runs) first second none deciding few one other =
    many_same version runs first second deciding one other
task_same (WriteProgram picture) first second none deciding few one other = one ∙ sym other
task_same (ListProgram picture) first second none deciding few one other = one ∙ sym other
task_same (VerifyCertificate graph solved) first second none deciding few one other =
    certificate_same graph solved first second one other
task_same (MigrateCut cut) first second none deciding few one other = one ∙ sym other
task_same (TryNumber number) first second none deciding few one other =
    run_same (run_of_number number) (TellsTrial number) (told_trial number) (inl refl) first second one other

telling_one : (telling : Telling) (run : RunTask) (first second : Answer) → IsDeciding run.settings.table →
    AnswersTelling telling run first → AnswersTelling telling run second → AreOne first second
telling_one Certificate run first second deciding one other =
    run_one run (TellsOf IsCertificateText) (telling_done IsCertificateText) deciding first second one other
telling_one (CutText version) run first second deciding one other =
    ap status_of (telling_same (CutText version) run first second tt deciding one other)
telling_one (Report json) run first second deciding one other =
    ap status_of (telling_same (Report json) run first second tt deciding one other)
telling_one Declaration run first second deciding one other =
    ap status_of (telling_same Declaration run first second tt deciding one other)

task_one : (task : Task) (first second : Answer) → Decides task → IsFew task → AnswersTask task first →
    AnswersTask task second → AreOne first second
task_one (JudgeSecrets task) first second deciding few one other =
    ap status_of (task_same (JudgeSecrets task) first second tt deciding few one other)
task_one (BoundAll all) first second deciding few one other =
    ap status_of (bound_same all first second (few all refl) one other)
task_one (TellRun telling run) first second deciding few one other =
    telling_one telling run first second deciding one other
task_one (MeasureAll version runs) first second deciding few one other =
    ap status_of (many_same version runs first second deciding one other)
task_one (WriteProgram picture) first second deciding few one other = ap status_of (one ∙ sym other)
task_one (ListProgram picture) first second deciding few one other = ap status_of (one ∙ sym other)
task_one (VerifyCertificate graph solved) first second deciding few one other =
    ap status_of (certificate_same graph solved first second one other)
task_one (MigrateCut cut) first second deciding few one other = ap status_of (one ∙ sym other)
task_one (TryNumber number) first second deciding few one other =
    ap status_of (task_same (TryNumber number) first second tt tt few one other)

-- ---- loads and words

same_ok : (loaded : Result (List (List ℕ)) Refusal) (a b : List (List ℕ)) → Ok a ≡ loaded → Ok b ≡ loaded → a ≡ b
same_ok loaded a b e f = cc

ok_err : (loaded : Result (List (List ℕ)) Refusal) (a : List (List ℕ)) (refusal : Refusal) → Ok a ≡ loaded →
    Err refusal ≡ loaded → ⊥
ok_err loaded a refusal e f = cc

same_err : (loaded : Result (List (List ℕ)) Refusal) (a b : Refusal) → Err a ≡ loaded → Err b ≡ loaded → a ≡ b
same_err loaded a b e f = cc

pub loads_reading : (told : Told) (wants : List Want) →
    IsReading (List (List ℕ)) (λ files. Loads (Some told) wants (Ok files))
    (λ refusal. Loads (Some told) wants (Err refusal))
loads_reading told wants = record {
  one = λ a b is also. same_ok (loaded_from told wants) a b is.1 also.1;
  none = λ a refusal is also. ok_err (loaded_from told wants) a refusal is.1 also.1;
  refused = λ first second is also. same_err (loaded_from told wants) first second is.1 also.1;
}

words_alike : RegionLaws → (Alike : Answer → Answer → Type 0) → ((answer : Answer) → Alike answer answer) →
    (told : Told) (words : List (List ℕ)) (first second : Answer) →
    ((command : Command) (files : List (List ℕ)) (task : Task) → IsCommand words command →
    AreLoaded (Some told) command files → IsTaskOf command files task → AnswersTask task first → AnswersTask task second → Alike first second) →
    ReadsWords (Some told) words first → ReadsWords (Some told) words second → Alike first second
words_alike laws Alike self told words first second step =
    reads_one Command (IsCommand words) (IsUsage words) (AnswersCommand (Some told)) Alike self (words_reading words)
    first second
    (λ command named. reads_one (List (List ℕ)) (λ files. Loads (Some told) (wants_of command) (Ok files))
    (λ refusal. Loads (Some told) (wants_of command) (Err refusal)) (AnswersFiles command) Alike self
    (loads_reading told (wants_of command)) first second
    (λ files loaded. reads_one Task (IsTaskOf command files) (IsFormRefusal command files) AnswersTask Alike self
    (task_reading laws command files) first second (λ task is. step command files task named (sym loaded.1) is)))

-- the task that words ask for
few_task : (told : Told) (words : List (List ℕ)) (command : Command) (files : List (List ℕ)) (task : Task) →
    HaveFewPaths (Some told) words → IsCommand words command → AreLoaded (Some told) command files →
    IsTaskOf command files task → IsFew task
few_task told words command files task few named loaded is = λ all e.
    few command files all named loaded (subst (λ t. IsTaskOf command files t) e is)

words_one : RegionLaws → (told : Told) (words : List (List ℕ)) (first second : Answer) → HaveFewPaths (Some told) words →
    ReadsWords (Some told) words first → ReadsWords (Some told) words second → AreOne first second
words_one laws told words first second few =
    words_alike laws AreOne (λ answer. refl) told words first second
    (λ command files task named loaded is. task_one task first second (task_decides words files command task named is)
    (few_task told words command files task few named loaded is))

words_same : RegionLaws → (told : Told) (words : List (List ℕ)) (first second : Answer) → IsNoGraph words →
    HaveFewPaths (Some told) words → ReadsWords (Some told) words first → ReadsWords (Some told) words second →
    first ≡ second
words_same laws told words first second none few =
    words_alike laws (λ a b. a ≡ b) (λ answer. refl) told words first second
    (λ command files task named loaded is. task_same task first second
    (no_graph words files command task none named is) (task_decides words files command task named is)
    (few_task told words command files task few named loaded is))

-- where the source tells its meanings
pub one_reply : RegionLaws → (source : Option Told) (words : List (List ℕ)) (first second : Reply) →
    is_some source ≡ true → HaveFewPaths source words → Replies source words first → Replies source words second →
    (first.status ≡ second.status) × (IsNoGraph words → first ≡ second)
one_reply laws None words first second tells few one other = absurd (false≢true tells)
one_reply laws (Some told) words first second tells few one other =
    let answers = reads_words (Some told) words one.answer one.answers in
    let also = reads_words (Some told) words other.answer other.answers in (
      ap (λ r. r.status) one.tells
          ∙ (words_one laws told words one.answer other.answer few answers also ∙ ap (λ r. r.status) (sym other.tells)),
      (λ none. one.tells
          ∙ (ap reply_of (words_same laws told words one.answer other.answer none few answers also) ∙ sym other.tells)),
    )
