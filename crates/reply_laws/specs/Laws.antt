-- What holds of all replies: where the file source tells its meanings, words have one; and which status a command has
-- where its files are loaded and well formed.
use Rattle.std.specs.Prelude.{◌≡◌, ◌⊎◌, ℕ, ◌≤◌, ◌<◌, Bool, true, List, length, Option, None, Some, is_some, Ok}
use Rattle.std.specs.List.{AllByRecursion}
use Rattle.flow_base.specs.declared.outputs.Output.{Output}
use Rattle.flow_base.specs.Loads.{Told}
use Rattle.flow_certificate.specs.Verdicts.{IsVerified}
use Rattle.flow_graph.specs.declared.graphs.Graph.{Graph}
use Rattle.max_flow.specs.declared.answers.Solved.{Solved}
use Rattle.lockstep_replay.specs.Tasks.{Task as JudgedTask, Limits}
use Rattle.measuring.specs.Measures.{HasCause}
use Rattle.run_labels.specs.declared.faults.MeasureFault.{MeasureFault}
use Rattle.run_labels.specs.declared.faults.MeasureFault.TheVariants.{Memory as NoRoomForRun}
use Rattle.many_runs.specs.declared.faults.ManyFault.{ManyFault}
use Rattle.many_runs.specs.declared.faults.ManyFault.TheVariants.{Memory as NoRoomForRuns}
use Rattle.many_runs.specs.Accepting.{HasAccepted}
use Rattle.many_runs.specs.Causes.{HasManyCause}
use Rattle.region_learn.specs.declared.faults.LearnFault.{LearnFault}
use Rattle.region_learn.specs.LearnAnswers.{RefusesToLearn}
use Rattle.taint_check.specs.Tainted.{IsClean, IsVerdict}
use Rattle.every_secret.specs.Bounds.{Found, IsBounded}
use Rattle.every_secret.specs.Paths.{paths_of}
use Rattle.command_line.specs.declared.judgings.Judging.{Judging}
use Rattle.command_line.specs.declared.judgings.Judging.TheVariants.{Replay, Masks}
use Rattle.command_line.specs.declared.settings.RunSettings.{RunSettings}
use Rattle.command_line.specs.declared.tellings.Telling.{Telling}
use Rattle.command_line.specs.declared.tellings.Telling.TheVariants.{Certificate, Declaration}
use Rattle.command_line.specs.CommandLines.{GuestFiles, Command, Tells, IsCommand}
use Rattle.command_tasks.specs.Tasks.{AllSecretsTask, ManyRunsTask, RunTask, Task, JudgeSecrets, TellRun, WriteProgram}
use Rattle.command_tasks.specs.Tasks.{ListProgram, VerifyCertificate, BoundAll, MeasureAll, MigrateCut, TryNumber}
use Rattle.command_tasks.specs.Tasks.{IsTaskOf, wants_of}
use Rattle.command_tasks.specs.Loading.{loaded_from}
use Rattle.task_answers.specs.Bounding.{bound_of, tree_in}
use Rattle.task_answers.specs.Checks.{judged_by, limits_of}
use Rattle.task_answers.specs.Learning.{learnt_run}
use Rattle.task_answers.specs.Many.{setup_in}
use Rattle.task_answers.specs.Runs.{start_of}
use Rattle.task_answers.specs.Trials.{run_of_number}
use Rattle.commands.specs.Replies.{Reply, Replies}

-- ---- one reply

-- the words ask for no certificate of a run: a graph may have more than one maximum flow
abbrev pub IsNoGraph : List (List ℕ) → Type 0
IsNoGraph words =
    (guest : GuestFiles) (secret : List ℕ) (settings : RunSettings)
    → ¬ IsCommand words (Tells Certificate guest secret settings)

-- The source tells its meanings, and these are the files that the command wants: no load of the call fails, and each
-- name is held within its limit.
abbrev pub AreLoaded : Option Told → Command → List (List ℕ) → Type 0
AreLoaded None command files = ⊥
AreLoaded (Some told) command files = loaded_from told (wants_of command) ≡ Ok files

-- there are no more paths than walks may be made
abbrev pub HasFewPaths : AllSecretsTask → Type 0
HasFewPaths all = length (paths_of (tree_in all)) ≤ all.settings.paths

-- so it is where the words ask for a bound
abbrev pub HaveFewPaths : Option Told → List (List ℕ) → Type 0
HaveFewPaths source words =
    (command : Command) (files : List (List ℕ)) (all : AllSecretsTask) → IsCommand words command
    → AreLoaded source command files → IsTaskOf command files (BoundAll all) → HasFewPaths all

-- the status and the text are one, but for a certificate of a run, of which the status is, and for a bound of more paths
-- than walks may be made
abbrev pub OneReply : Type 0
OneReply =
    (source : Option Told) (words : List (List ℕ)) (first second : Reply) → is_some source ≡ true
    → HaveFewPaths source words → Replies source words first → Replies source words second
    → (first.status ≡ second.status) × (IsNoGraph words → first ≡ second)

-- ---- the status of a command

-- 0 exactly where every secret is accepted, and else 1
pub record CompletesCheck (task : JudgedTask) (limits : Limits) (secrets : List (List ℕ)) (status : ℕ) : Type 0 where
  pub known : status ≤ 1
  pub accepted : status ≡ 0 → AllByRecursion (HasAccepted task limits) secrets
  pub done : AllByRecursion (HasAccepted task limits) secrets → status ≡ 0

-- where this is the verdict on it, a secret is clean
abbrev pub HasClean : ℕ → JudgedTask → Limits → List ℕ → Type 0
HasClean table task limits secret =
    (bits : List Bool) × (output : Output) × IsVerdict table task limits secret (IsClean bits output)

-- 0 exactly where every secret is clean, and else 1
pub record CompletesTaint (table : ℕ) (task : JudgedTask) (limits : Limits) (secrets : List (List ℕ)) (status : ℕ) :
    Type 0 where
  pub known : status ≤ 1
  pub clean : status ≡ 0 → AllByRecursion (HasClean table task limits) secrets
  pub done : AllByRecursion (HasClean table task limits) secrets → status ≡ 0

abbrev pub CompletesBy : Judging → JudgedTask → Limits → List (List ℕ) → ℕ → Type 0
CompletesBy Replay task limits secrets status = CompletesCheck task limits secrets status
CompletesBy (Masks table) task limits secrets status = CompletesTaint table task limits secrets status

-- the bound is known
abbrev pub HasBound : AllSecretsTask → Type 0
HasBound all = (found : Found) × (bound_of all ≡ IsBounded found)

-- 0 only where the bound is known, and else 1; so it is 1 where the bound is known only where there are more paths than
-- walks may be made
pub record CompletesBound (all : AllSecretsTask) (status : ℕ) : Type 0 where
  pub known : status ≤ 1
  pub bounded : status ≡ 0 → HasBound all
  pub done : HasBound all → HasFewPaths all → status ≡ 0
  pub more : HasBound all → status ≡ 1 → all.settings.paths < length (paths_of (tree_in all))

-- nothing refuses the run but out of memory, of which nothing is said
abbrev pub HasNoCause : RunTask → Type 0
HasNoCause run =
    (fault : MeasureFault) → HasCause run.settings.table run.guest.regions (start_of run) run.settings.turns fault
    → fault ≡ NoRoomForRun

-- 0 exactly where nothing refuses the run, and else 4
pub record CompletesRun (run : RunTask) (status : ℕ) : Type 0 where
  pub known : (status ≡ 0) ⊎ (status ≡ 4)
  pub measured : status ≡ 0 → HasNoCause run
  pub done : HasNoCause run → status ≡ 0

-- nothing refuses the runs together but out of memory
abbrev pub HaveNoCause : ManyRunsTask → Type 0
HaveNoCause runs = (fault : ManyFault) → HasManyCause (setup_in runs) runs.secrets fault → fault ≡ NoRoomForRuns

-- 0 exactly where nothing refuses the runs together, and else 4
pub record CompletesRuns (runs : ManyRunsTask) (status : ℕ) : Type 0 where
  pub known : (status ≡ 0) ⊎ (status ≡ 4)
  pub measured : status ≡ 0 → HaveNoCause runs
  pub done : HaveNoCause runs → status ≡ 0

-- nothing refuses a declaration
abbrev pub HasDeclaration : RunTask → Type 0
HasDeclaration run = (fault : LearnFault) → ¬ RefusesToLearn (learnt_run run.guest run.secret run.settings.turns) fault

-- 0 exactly where nothing refuses a declaration, and else 4
pub record CompletesLearning (run : RunTask) (status : ℕ) : Type 0 where
  pub known : (status ≡ 0) ⊎ (status ≡ 4)
  pub learnt : status ≡ 0 → HasDeclaration run
  pub done : HasDeclaration run → status ≡ 0

abbrev pub CompletesTelling : Telling → RunTask → ℕ → Type 0
CompletesTelling Declaration run status = CompletesLearning run status
CompletesTelling telling run status = CompletesRun run status

-- 0 exactly where the flow is feasible, the side is a side, and value, flow and side have one number; and else 1
pub record CompletesVerdict (graph : Graph) (solved : Solved) (status : ℕ) : Type 0 where
  pub known : status ≤ 1
  pub verified : status ≡ 0 → IsVerified graph solved solved.value
  pub done : IsVerified graph solved solved.value → status ≡ 0

-- a source that is assembled, a program that is listed and a cut that is migrated are done
abbrev pub Completes : Task → ℕ → Type 0
Completes (JudgeSecrets task) status =
    CompletesBy task.settings.judging (judged_by task.guest task.cut) (limits_of task) task.secrets status
Completes (BoundAll all) status = CompletesBound all status
Completes (TellRun telling run) status = CompletesTelling telling run status
Completes (MeasureAll version runs) status = CompletesRuns runs status
Completes (WriteProgram picture) status = status ≡ 0
Completes (ListProgram picture) status = status ≡ 0
Completes (VerifyCertificate graph solved) status = CompletesVerdict graph solved status
Completes (MigrateCut cut) status = status ≡ 0
Completes (TryNumber number) status = CompletesRun (run_of_number number) status

-- by the files that a command wants, where they are loaded and well formed
abbrev pub RepliesComplete : Type 0
RepliesComplete =
    (source : Option Told) (words files : List (List ℕ)) (command : Command) (task : Task) (reply : Reply)
    → IsCommand words command → AreLoaded source command files → IsTaskOf command files task
    → Replies source words reply → Completes task reply.status
