-- The names of commands.
use Rattle.std.specs.Prelude.{◌≡◌, ℕ, List, codes}
use Rattle.command_line.specs.declared.judgings.Judging.{Judging}
use Rattle.command_line.specs.declared.judgings.Judging.TheVariants.{Replay, Masks}
use Rattle.command_line.specs.declared.tellings.Telling.{Telling}
use Rattle.command_line.specs.declared.tellings.Telling.TheVariants.{CutText, Certificate, Report, Declaration}
use Rattle.command_line.specs.CommandLines.{Command, Checks, Bounds, Tells, MeasuresAll, Assembles, Lists, Verifies, Migrates, Tries}
use Rattle.command_line.specs.CommandLines.{IsCommand}

abbrev pub judging_name : Judging → List ℕ
judging_name Replay = codes "check"
judging_name (Masks table) = codes "taint"

abbrev pub telling_name : Telling → List ℕ
telling_name (CutText version) = codes "measure"
telling_name Certificate = codes "graph"
telling_name (Report json) = codes "report"
telling_name Declaration = codes "learn"

abbrev pub name_of : Command → List ℕ
name_of (Checks guest cut secrets settings) = judging_name settings.judging
name_of (Bounds guest cut settings) = codes "bound"
name_of (Tells telling guest secret settings) = telling_name telling
name_of (MeasuresAll version guest secrets settings) = codes "measure-all"
name_of (Assembles source) = codes "asm"
name_of (Lists program) = codes "list"
name_of (Verifies certificate) = codes "verify"
name_of (Migrates cut) = codes "migrate"
name_of (Tries number) = codes "trial"

-- the words are a command line of the command of this name
pub record IsNamed (words : List (List ℕ)) (name : List ℕ) : Type 0 where
  pub command : Command
  pub line : IsCommand words command
  pub named : name ≡ name_of command
