-- The numbers of the statuses.
use Rattle.std.specs.Prelude.{ℕ}
use Rattle.command_tasks.specs.declared.statuses.Status.{Status}
use Rattle.command_tasks.specs.declared.statuses.Status.TheVariants.{Done, Rejected, Usage, Malformed, RunRefused}
use Rattle.command_tasks.specs.declared.statuses.Status.TheVariants.{LoadFailed, TooLarge, PutFailed, NoMemory}

abbrev pub status_number : Status → ℕ
status_number Done = 0
status_number Rejected = 1
status_number Usage = 2
status_number Malformed = 3
status_number RunRefused = 4
status_number LoadFailed = 5
status_number TooLarge = 6
status_number PutFailed = 7
status_number NoMemory = 8
