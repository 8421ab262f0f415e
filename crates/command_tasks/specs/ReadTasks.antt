-- What is read of the files of a command line, and the limits of that.
use Rattle.std.specs.Prelude.{◌≡◌, ◌≤◌, true, ℕ, List, length, All}
use Rattle.cut_file.specs.Pictures.{cut_picture}
use Rattle.elf32_loader.specs.Images.{image_picture}
use Rattle.command_line.specs.CommandLines.{highest_budget, has_table}
use Rattle.command_tasks.specs.declared.guests.Guest.{Guest as ReadGuest}
use Rattle.command_tasks.specs.declared.tasks.AllSecretsTask.{AllSecretsTask as ReadAllSecrets}
use Rattle.command_tasks.specs.declared.tasks.CheckTask.{CheckTask as ReadCheck}
use Rattle.command_tasks.specs.declared.tasks.ManyRunsTask.{ManyRunsTask as ReadManyRuns}
use Rattle.command_tasks.specs.declared.tasks.RunTask.{RunTask as ReadRun}
use Rattle.command_tasks.specs.declared.tasks.Task.{Task as ReadTask}
use Rattle.command_tasks.specs.declared.tasks.Task.TheVariants as tasks
use Rattle.command_tasks.specs.Tasks.{AllSecretsTask, CheckTask, ManyRunsTask, RunTask, Task, JudgeSecrets, TellRun}
use Rattle.command_tasks.specs.Tasks.{WriteProgram, ListProgram, VerifyCertificate, BoundAll, MeasureAll, MigrateCut}
use Rattle.command_tasks.specs.Tasks.{TryNumber}
use Rattle.command_tasks.specs.Guests.{Guest}

abbrev pub guest_in : ReadGuest → Guest
guest_in guest = record {
  program = image_picture guest.image;
  public_input = guest.public_input.now;
  regions = guest.regions.items;
}

abbrev pub check_in : ReadCheck → CheckTask
check_in check = record {
  guest = guest_in check.guest;
  cut = cut_picture check.cut;
  secrets = check.secrets.now;
  settings = check.settings;
}

abbrev pub all_secrets_in : ReadAllSecrets → AllSecretsTask
all_secrets_in all = record { guest = guest_in all.guest; cut = cut_picture all.cut; settings = all.settings }

abbrev pub run_in : ReadRun → RunTask
run_in run = record { guest = guest_in run.guest; secret = run.secret.now; settings = run.settings }

abbrev pub many_runs_in : ReadManyRuns → ManyRunsTask
many_runs_in runs = record { guest = guest_in runs.guest; secrets = runs.secrets.now; settings = runs.settings }

abbrev pub task_in : ReadTask → Task
task_in (tasks.JudgeSecrets check) = JudgeSecrets (check_in check)
task_in (tasks.BoundAll all) = BoundAll (all_secrets_in all)
task_in (tasks.TellRun telling run) = TellRun telling (run_in run)
task_in (tasks.MeasureAll version runs) = MeasureAll version (many_runs_in runs)
task_in (tasks.WriteProgram image) = WriteProgram (image_picture image)
task_in (tasks.ListProgram image) = ListProgram (image_picture image)
task_in (tasks.VerifyCertificate certificate) = VerifyCertificate certificate.graph certificate.solved
task_in (tasks.MigrateCut cut) = MigrateCut (cut_picture cut)
task_in (tasks.TryNumber number) = TryNumber number

-- ---- limits

-- each secret is within its limit
abbrev pub AreShort : List (List ℕ) → Type 0
AreShort secrets = All (λ secret. length secret ≤ 65536) secrets

-- the secrets and the bits are within their limits, and a table is 1, 2 or 3
pub record IsBoundedCheck (check : ReadCheck) : Type 0 where
  pub few : check.settings.budget ≤ highest_budget
  pub secrets : AreShort check.secrets.now
  pub known : has_table check.settings.judging ≡ true

-- the bits are within their limit, a walk may be made, and the table is 1, 2 or 3
pub record IsBoundedAll (all : ReadAllSecrets) : Type 0 where
  pub few : all.settings.budget ≤ highest_budget
  pub some : 1 ≤ all.settings.paths
  pub first : 1 ≤ all.settings.table
  pub last : all.settings.table ≤ 3

-- the secret and the turns are within their limits, and the table is 1, 2 or 3
pub record IsBoundedRun (run : ReadRun) : Type 0 where
  pub secret : length run.secret.now ≤ 65536
  pub turns : run.settings.turns ≤ 20000000
  pub first : 1 ≤ run.settings.table
  pub last : run.settings.table ≤ 3

-- there are 1 to 64 secrets, each within its limit, the turns are within theirs, and the table is 1, 2 or 3
pub record AreBoundedRuns (runs : ReadManyRuns) : Type 0 where
  pub secrets : AreShort runs.secrets.now
  pub some : 1 ≤ length runs.secrets.now
  pub most : length runs.secrets.now ≤ 64
  pub turns : runs.settings.turns ≤ 20000000
  pub first : 1 ≤ runs.settings.table
  pub last : runs.settings.table ≤ 3

-- what is read is within the limits of what answers it
abbrev pub IsLimitedTask : ReadTask → Type 0
IsLimitedTask (tasks.JudgeSecrets check) = IsBoundedCheck check
IsLimitedTask (tasks.BoundAll all) = IsBoundedAll all
IsLimitedTask (tasks.TellRun telling run) = IsBoundedRun run
IsLimitedTask (tasks.MeasureAll version runs) = AreBoundedRuns runs
IsLimitedTask (tasks.WriteProgram image) = length image.segments ≤ 64
IsLimitedTask (tasks.ListProgram image) = Unit {0}
IsLimitedTask (tasks.VerifyCertificate certificate) = Unit {0}
IsLimitedTask (tasks.MigrateCut cut) = Unit {0}
IsLimitedTask (tasks.TryNumber number) = Unit {0}
