-- The statuses of answers: 0 or 1 of what a command makes, and of refusals those of their kinds, told by one line.
use Rattle.std.proofs.Common.{◌≡◌, ◌≢◌, ◌⊎◌, ◌≤◌, ◌∙◌, ◌+◌, Option, codes, inl, inr, ℕ, List, [], ◌∷◌, Bool, true, false, Ok, Err, refl, sym, ap, subst, arith, if◌then◌else◌}
use Rattle.flow_base.specs.Loads.{Told}
use Rattle.flow_certificate.specs.declared.verdicts.CertVerdict.{CertVerdict}
use Rattle.flow_certificate.specs.declared.verdicts.CertVerdict.TheVariants.{Verified, Rejected as RejectedBy}
use Rattle.measuring.specs.declared.measured.Measured.{Measured}
use Rattle.command_line.specs.declared.judgings.Judging.{Judging}
use Rattle.command_line.specs.declared.judgings.Judging.TheVariants.{Replay, Masks}
use Rattle.command_line.specs.declared.tellings.Telling.{Telling}
use Rattle.command_line.specs.declared.tellings.Telling.TheVariants.{CutText, Report, Declaration}
use Rattle.command_line.specs.declared.tellings.Telling.TheVariants as telling
use Rattle.command_line.specs.CommandLines.{Command}
use Rattle.every_secret.specs.Bounds.{IsBounded, IsUnclear, TreeAnswer}
use Rattle.command_tasks.specs.declared.refusals.Refusal.{Refusal}
use Rattle.command_tasks.specs.declared.refusals.Refusal.TheVariants.{Usage, Load, Program, Regions, Cut, Source}
use Rattle.command_tasks.specs.declared.refusals.Refusal.TheVariants.{Certificate, Run, Runs, Learn, TooLarge, Memory}
use Rattle.command_tasks.specs.declared.statuses.Status.TheVariants.{Done, Rejected}
use Rattle.command_tasks.specs.FileLimits.{limit_of}
use Rattle.command_tasks.specs.Loading.{Want, IsLoadRefusal}
use Rattle.command_tasks.specs.Names.{shown}
use Rattle.command_tasks.specs.Refusals.{refusal_text}
use Rattle.command_tasks.specs.Tasks.{AllSecretsTask, CheckTask, ManyRunsTask, RunTask, Task, BoundAll, JudgeSecrets}
use Rattle.command_tasks.specs.Tasks.{TellRun, MeasureAll, WriteProgram, ListProgram, VerifyCertificate, MigrateCut}
use Rattle.command_tasks.specs.Tasks.{TryNumber, wants_of}
use Rattle.task_answers.specs.Replies.{Answer, told}
use Rattle.task_answers.specs.Bounding.{AnswersAllSecrets, AnswersBound, bound_of}
use Rattle.task_answers.specs.Checks.{AnswersBy}
use Rattle.task_answers.specs.Many.{AnswersMany}
use Rattle.task_answers.specs.Runs.{AnswersRun}
use Rattle.task_answers.specs.Tellings.{AnswersTelling, IsCertificateText, IsCutOfRun, IsReport, Tells}
use Rattle.task_answers.specs.Trials.{TellsTrial, run_of_number}
use Rattle.task_answers.specs.AnsweredTasks.{AnswersTask}
use Rattle.task_answers.specs.Verdicts.{verdict_reply}
use Rattle.commands.specs.Lines.{IsOneLine}
use Rattle.commands.proofs.OneLine.{Clean, literal, joined, cut_fault, region, program, run_fault, many_fault}
use Rattle.commands.proofs.OneLine.{learn_fault, source_fault, form_fault, name, number}
use Rattle.commands.proofs.FormStatuses.{form_status}
use Rattle.commands.proofs.Readings.{AnswersCommand, AnswersFiles, status_of}

-- ---- refusals

-- the text of a refusal of status 3 or 4 has no line feed within
clean_text : (refusal : Refusal) → 3 ≤ status_of (Err refusal) → status_of (Err refusal) ≤ 4 → Clean (refusal_text refusal)
clean_text Usage above below = absurd (omega (arith, above))
clean_text (Program fault) above below = joined (codes "refused 3 program ") _ (literal (codes "refused 3 program ") refl) (program fault)
clean_text (Regions fault) above below = joined (codes "refused 3 regions ") _ (literal (codes "refused 3 regions ") refl) (region fault)
clean_text (Cut fault) above below = joined (codes "refused 3 cut ") _ (literal (codes "refused 3 cut ") refl) (cut_fault fault)
clean_text (Source fault) above below = joined (codes "refused 3 source ") _ (literal (codes "refused 3 source ") refl) (source_fault fault)
clean_text (Certificate fault) above below =
    joined (codes "refused 3 certificate ") _ (literal (codes "refused 3 certificate ") refl) (form_fault fault)
clean_text (Run fault) above below = joined (codes "refused 4 ") _ (literal (codes "refused 4 ") refl) (run_fault fault)
clean_text (Runs fault) above below = joined (codes "refused 4 ") _ (literal (codes "refused 4 ") refl) (many_fault fault)
clean_text (Learn fault) above below = joined (codes "refused 4 ") _ (literal (codes "refused 4 ") refl) (learn_fault fault)
clean_text (Load name) above below = absurd (omega (arith, below))
clean_text (TooLarge name number) above below = absurd (omega (arith, below))
clean_text Memory above below = absurd (omega (arith, below))

-- ---- what is known of the answer of a command

pub record IsFine (answer : Answer) : Type 0 where
  pub low : status_of answer ≤ 6
  pub other : status_of answer ≢ 2
  pub load : status_of answer ≡ 5 → (name : List ℕ) × (answer ≡ Err (Load name))
  pub line : 2 ≤ status_of answer → IsOneLine (told answer).text

one_line : (refusal : Refusal) → Clean (refusal_text refusal) → IsOneLine (told (Err refusal)).text
one_line refusal clean = record { line = refusal_text refusal; ends = refl; one = clean.none }

by : (answer same : Answer) → answer ≡ same → IsFine same → IsFine answer
by answer same e known = subst (λ a. IsFine a) (sym e) known

-- an answer that is no refusal
made : (answer : Answer) → status_of answer ≤ 1 → IsFine answer
made answer low = record {
  low = omega (arith, low);
  other = λ e. omega (arith, low, e);
  load = λ e. absurd (omega (arith, low, e));
  line = λ high. absurd (omega (arith, low, high));
}

-- a refusal of status 3 or 4
refused : (refusal : Refusal) → 3 ≤ status_of (Err refusal) → status_of (Err refusal) ≤ 4 → IsFine (Err refusal)
refused refusal above below = record {
  low = omega (arith, below);
  other = λ e. omega (arith, above, e);
  load = λ e. absurd (omega (arith, below, e));
  line = λ high. one_line refusal (clean_text refusal above below);
}

loads_refused : (wants : List Want) (refusal : Refusal) → IsLoadRefusal wants refusal → IsFine (Err refusal)
loads_refused [] refusal is = absurd is
loads_refused (w ∷ wants) refusal (inl is) =
    subst (λ r. IsFine (Err r)) (sym is) (record {
      low = omega arith;
      other = λ e. omega (arith, e);
      load = λ e. (shown w.name, refl);
      line = λ high. one_line (Load (shown w.name))
          (joined (codes "refused 5 load ") _ (literal (codes "refused 5 load ") refl) (name w.name));
    })
loads_refused (w ∷ wants) refusal (inr (inl is)) =
    subst (λ r. IsFine (Err r)) (sym is) (record {
      low = omega arith;
      other = λ e. omega (arith, e);
      load = λ e. absurd (omega (arith, e));
      line = λ high. one_line (TooLarge (shown w.name) (limit_of w.kind + 1))
          (joined (codes "refused 6 too-large ") _ (literal (codes "refused 6 too-large ") refl)
          (joined (shown w.name) _ (name w.name)
          (joined (codes " ") _ (literal (codes " ") refl) (number (limit_of w.kind + 1)))));
    })
loads_refused (w ∷ wants) refusal (inr (inr is)) = loads_refused wants refusal is

-- ---- what a command makes

pub low_either : (b : Bool) → status_of (Ok (record { status = if b then Done else Rejected; text = [] })) ≤ 1
low_either true = omega arith
low_either false = omega arith

pub verdict_low : (verdict : CertVerdict) → status_of (Ok (verdict_reply verdict)) ≤ 1
verdict_low (Verified value) = omega arith
verdict_low (RejectedBy fault) = omega arith

low_as : (answer same : Answer) → answer ≡ same → status_of same ≤ 1 → status_of answer ≤ 1
low_as answer same e low = subst (λ a. status_of a ≤ 1) (sym e) low

-- what a task is answered by: a reply of status 0 or 1, or a refusal of status 4
abbrev IsMade : Answer → Type 0
IsMade answer =
    (status_of answer ≤ 1)
    ⊎ ((refusal : Refusal) × (answer ≡ Err refusal) × (status_of (Err refusal) ≡ 4))

run_made : (run : RunTask) (IsText : Measured → List ℕ → Type 0) (answer : Answer) →
    AnswersRun run (Tells IsText) answer → IsMade answer
run_made run IsText answer (inl (refusal, (fault, first, is), e)) =
    inr (refusal, e, ap (λ r. status_of (Err r)) is)
run_made run IsText answer (inr (measured, is, (text, told, e))) = inl (low_as answer _ e (omega arith))

telling_made : (telling : Telling) (run : RunTask) (answer : Answer) → AnswersTelling telling run answer → IsMade answer
telling_made (CutText version) run answer h = run_made run (IsCutOfRun version) answer h
telling_made telling.Certificate run answer h = run_made run IsCertificateText answer h
telling_made (Report json) run answer h = run_made run (IsReport json) answer h
telling_made Declaration run answer (inl (refusal, (fault, first, is), e)) =
    inr (refusal, e, ap (λ r. status_of (Err r)) is)
telling_made Declaration run answer (inr (regions, is, (text, texts, spells, e))) =
    inl (low_as answer _ e (omega arith))

trial_made : (number : ℕ) (answer : Answer) → AnswersRun (run_of_number number) (TellsTrial number) answer →
    IsMade answer
trial_made number answer (inl (refusal, (fault, first, is), e)) = inr (refusal, e, ap (λ r. status_of (Err r)) is)
trial_made number answer (inr (measured, is, e)) = inl (low_as answer _ e (omega arith))

many_made : (version : ℕ) (runs : ManyRunsTask) (answer : Answer) → AnswersMany version runs answer → IsMade answer
many_made version runs answer (inl (refusal, (fault, first, is), e)) = inr (refusal, e, ap (λ r. status_of (Err r)) is)
many_made version runs answer (inr (many, is, (text, told, e))) = inl (low_as answer _ e (omega arith))

check_made : (judging : Judging) (task : CheckTask) (answer : Answer) → AnswersBy judging task answer → IsMade answer
check_made Replay task answer e = inl (low_as answer _ e (low_either _))
check_made (Masks table) task answer (findings, are, e) = inl (low_as answer _ e (low_either _))

bound_made : (all : AllSecretsTask) (known : TreeAnswer) (answer : Answer) → AnswersBound all known answer →
    IsMade answer
bound_made all (IsBounded found) answer (tells, (bits, least, e)) = inl (low_as answer _ e (omega arith))
bound_made all (IsUnclear bits why) answer e = inl (low_as answer _ e (omega arith))

all_made : (all : AllSecretsTask) (answer : Answer) → AnswersAllSecrets all answer → IsMade answer
all_made all answer (inl h) = bound_made all (bound_of all) answer h
all_made all answer (inr (bits, more, e)) = inl (low_as answer _ e (omega arith))

task_made : (task : Task) (answer : Answer) → AnswersTask task answer → IsMade answer
task_made (JudgeSecrets task) answer h = check_made task.settings.judging task answer h
task_made (BoundAll all) answer h = all_made all answer h
task_made (TellRun telling run) answer h = telling_made telling run answer h
task_made (MeasureAll version runs) answer h = many_made version runs answer h
task_made (WriteProgram picture) answer e = inl (low_as answer _ e (omega arith))
task_made (ListProgram picture) answer e = inl (low_as answer _ e (omega arith))
task_made (VerifyCertificate graph solved) answer (verdict, is, e) = inl (low_as answer _ e (verdict_low verdict))
task_made (MigrateCut cut) answer e = inl (low_as answer _ e (omega arith))
task_made (TryNumber number) answer h = trial_made number answer h

fine_made : (answer : Answer) → IsMade answer → IsFine answer
fine_made answer (inl low) = made answer low
fine_made answer (inr (refusal, e, four)) =
    by answer (Err refusal) e (refused refusal (omega (arith, four)) (omega (arith, four)))

low_made : (answer : Answer) → IsMade answer → status_of answer ≤ 4
low_made answer (inl low) = omega (arith, low)
low_made answer (inr (refusal, e, four)) = let same : status_of answer ≡ 4 = ap status_of e ∙ four in omega (arith, same)

-- a task that is made blames no load
pub task_blames_no_load : (task : Task) (answer : Answer) (name : List ℕ) → AnswersTask task answer →
    answer ≡ Err (Load name) → ⊥
task_blames_no_load task answer name answers e =
    let low : status_of (Err (Load name)) ≤ 4 = subst (λ a. status_of a ≤ 4) e (low_made answer (task_made task answer answers)) in
    omega (arith, low)

files_fine : (command : Command) (files : List (List ℕ)) (answer : Answer) → AnswersFiles command files answer →
    IsFine answer
files_fine command files answer (inl (refusal, is, e)) =
    let three = form_status command files refusal is in
    by answer (Err refusal) e (refused refusal (omega (arith, three)) (omega (arith, three)))
files_fine command files answer (inr (task, is, h)) = fine_made answer (task_made task answer h)

pub command_fine : (source : Option Told) (command : Command) (answer : Answer) → AnswersCommand source command answer →
    IsFine answer
command_fine source command answer (inl (refusal, loads, e)) =
    by answer (Err refusal) e (loads_refused (wants_of command) refusal loads.0)
command_fine source command answer (inr (files, loads, h)) = files_fine command files answer h
