-- What is found of a guest's run.
use Rattle.std.specs.Prelude.{◌≡◌, ℕ, List, [], Bool, length}
use Rattle.flow_base.specs.declared.outputs.Output.{Output}
use Rattle.elf32_loader.specs.Pictures.{Picture}
use Rattle.elf32_loader.specs.Programs.{IsImage}
use Rattle.cut_file.specs.Cuts.{CutPicture}
use Rattle.cut_file.specs.Texts.{CutText}
use Rattle.lockstep_replay.specs.Tasks.{Limits, task_of}
use Rattle.lockstep_replay.specs.Verdicts.{Judgement, Accepts, First}

-- the most bits that may cross, and the most turns of a run
abbrev pub limits : Limits
limits = record { budget = 1048576; turns = 1000000 }

-- the judgement of a secret, by a program file and the text of a cut
abbrev pub IsJudgement : List ℕ → List ℕ → List ℕ → List ℕ → Judgement → Type 0
IsJudgement program text public_input secret judgement =
    (picture : Picture) × (cut : CutPicture) × IsImage program picture × CutText text cut
    × (judgement ≡ First (task_of picture public_input [] cut) limits secret)

-- the number of bytes and the status are those of the output of a run that is accepted
abbrev pub IsAccepted : List ℕ → List ℕ → ℕ → ℕ → Type 0
IsAccepted public_input secret written status =
    (program : List ℕ) × (text : List ℕ) × (bits : List Bool) × (output : Output)
    × IsJudgement program text public_input secret (Accepts bits output)
    × (written ≡ length output.bytes) × (status ≡ output.status)
