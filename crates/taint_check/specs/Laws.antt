-- The laws of a check with one machine: a secret of which it is clean is accepted, and by tables 1, 2 and 3 it has one
-- verdict.
use Rattle.std.specs.Prelude.{◌≡◌, ℕ, Bool, true, List}
use Rattle.cut_file.specs.Cuts.{CutPicture, is_cut_picture}
use Rattle.elf32_loader.specs.Pictures.{Picture}
use Rattle.enclosure_regions.specs.declared.region_parts.Region.{Region}
use Rattle.flow_base.specs.declared.outputs.Output.{Output}
use Rattle.acceptance_law.specs.MeasuredLaws.{AreInputs}
use Rattle.lockstep_replay.specs.Tasks.{Limits, Task, task_of}
use Rattle.lockstep_replay.specs.Verdicts.{Accepts, First}
use Rattle.taint_check.specs.Tainted.{Finding, IsClean, IsUnclear, IsVerdict}
use Rattle.transfer_rules.specs.Tables.{IsDeciding}

-- Of a program with its public input, its regions and a cut: where the check with one machine is clean, by whatever
-- rules, with these bits and this output, the verdict on the secret is that it is accepted with them.
abbrev pub CleanLaw : Type 0
CleanLaw =
    (table : ℕ) (program : Picture) (public_input : List ℕ) (regions : List Region) (secret : List ℕ) (cut : CutPicture)
    (limits : Limits) (bits : List Bool) (output : Output) → AreInputs program public_input regions secret →
    is_cut_picture cut ≡ true →
    IsVerdict table (task_of program public_input regions cut) limits secret (IsClean bits output) →
    First (task_of program public_input regions cut) limits secret ≡ Accepts bits output

-- a secret of which this is found is accepted with the same bits and the same output, where it is clean
abbrev pub IsAcceptedIfClean : Task → Limits → List ℕ → Finding → Type 0
IsAcceptedIfClean task limits secret (IsClean bits output) = First task limits secret ≡ Accepts bits output
IsAcceptedIfClean task limits secret (IsUnclear why) = Unit {0}

-- by such a table two verdicts on a secret are one, whatever the lists of answers
abbrev pub OneVerdict : Type 0
OneVerdict =
    (table : ℕ) (task : Task) (limits : Limits) (secret : List ℕ) (first second : Finding) → IsDeciding table →
    IsVerdict table task limits secret first → IsVerdict table task limits secret second → first ≡ second
