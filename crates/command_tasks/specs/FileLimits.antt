-- How many bytes each file may have.
use Rattle.std.specs.Prelude.{ℕ}
use Rattle.command_tasks.specs.declared.kinds.FileKind.{FileKind}
use Rattle.command_tasks.specs.declared.kinds.FileKind.TheVariants.{Program, PublicInput, Cut, Regions, Secret, Source}
use Rattle.command_tasks.specs.declared.kinds.FileKind.TheVariants.{Certificate}

abbrev pub limit_of : FileKind → ℕ
limit_of Program = 16777216
limit_of PublicInput = 1048576
limit_of Cut = 67108864
limit_of Regions = 65536
limit_of Secret = 65536
limit_of Source = 1048576
limit_of Certificate = 67108864
