-- Each secret is accepted with the one cut of all runs, and with its fold.
use Rattle.std.specs.Prelude.{ℕ, List}
use Rattle.std.specs.List.{AllByRecursion}
use Rattle.cut_file.specs.Cuts.{CutPicture}
use Rattle.cut_file.specs.Folds.{IsFold}
use Rattle.cut_file.specs.Pictures.{cut_picture}
use Rattle.elf32_loader.specs.Pictures.{Picture}
use Rattle.enclosure_regions.specs.declared.region_parts.Region.{Region}
use Rattle.flow_base.specs.declared.outputs.Output.{Output}
use Rattle.lockstep_replay.specs.Acceptance.{Accept}
use Rattle.lockstep_replay.specs.Tasks.{Limits, Task, task_of}
use Rattle.many_runs.specs.declared.many.Many.{Many}

-- a secret is accepted, with some output
abbrev pub HasAccepted : Task → Limits → List ℕ → Type 0
HasAccepted task limits secret = (output : Output) × Accept task limits secret output

-- each of the secrets is accepted with the one cut within the one number of bits
abbrev pub AreAcceptedByTheCut : Picture → List ℕ → List Region → List (List ℕ) → ℕ → Many → Type 0
AreAcceptedByTheCut program public_input regions secrets turns many =
    AllByRecursion (HasAccepted (task_of program public_input regions (cut_picture many.cut))
    (record { budget = many.value; turns = turns })) secrets

-- and so they are with each fold of that cut
abbrev pub AreAcceptedByFolds : Picture → List ℕ → List Region → List (List ℕ) → ℕ → Many → Type 0
AreAcceptedByFolds program public_input regions secrets turns many =
    (folded : CutPicture) → IsFold (cut_picture many.cut) folded →
    AllByRecursion (HasAccepted (task_of program public_input regions folded)
    (record { budget = many.value; turns = turns })) secrets
