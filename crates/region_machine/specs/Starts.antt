-- Where a run begins.
use Rattle.std.specs.Prelude.{ℕ, List}
use Rattle.elf32_loader.specs.Pictures.{Picture}
use Rattle.rv32im_machine.specs.Start.{start}
use Rattle.region_machine.specs.Runs.{Place, fresh}

-- the output has at most 1 MiB
abbrev pub output_limit : ℕ
output_limit = 1048576

-- a program with its public input, started on a secret: the real run
abbrev pub guest : Picture → List ℕ → List ℕ → Place
guest picture public_input secret = fresh (start picture public_input secret output_limit)
