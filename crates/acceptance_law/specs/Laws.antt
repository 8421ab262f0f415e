-- The law that a covered run is accepted.
use Rattle.std.specs.Prelude.{◌≡◌, ℕ, ◌≤◌, List, length}
use Rattle.flow_base.specs.declared.outputs.Output.{Output}
use Rattle.elf32_loader.specs.Pictures.{Picture}
use Rattle.cut_file.specs.Cuts.{CutPicture}
use Rattle.enclosure_regions.specs.declared.region_parts.Region.{Region}
use Rattle.enclosure_regions.specs.Regions.{are_regions}
use Rattle.region_machine.specs.Runs.{Place}
use Rattle.region_machine.specs.Starts.{guest}
use Rattle.lockstep_replay.specs.Acceptance.{HasExited, Accept}
use Rattle.lockstep_replay.specs.Tasks.{task_of, Cross}
use Rattle.run_labels.specs.Answers.{IsSoundAnswer}
use Rattle.run_labels.specs.Runs.{unlabelled, run_after, EachRunAnswer, IsUnrefused}
use Rattle.std.specs.Prelude.{true}
use Rattle.acceptance_law.specs.Sides.{NamedSide}
use Rattle.acceptance_law.specs.Covers.{Covers}
use Rattle.acceptance_law.specs.Inputs.{IsProperGuest}

-- a run that no turn refuses, by sound answers, and that has exited with this output
pub record IsMeasuredRun (regions : List Region) (answers : List (List ℕ)) (start : Place) (output : Output) : Type 0 where
  pub guest : IsProperGuest start.state
  pub sound : EachRunAnswer IsSoundAnswer regions answers (unlabelled start)
  pub unrefused : IsUnrefused regions answers (unlabelled start)
  pub exits : HasExited (run_after regions answers (unlabelled start)).place.state output

-- The run of a program on a secret, in at most so many turns, that a cut of the secret's length covers by some side is
-- accepted with that cut, within every budget that its crossing bits have.
abbrev pub CoveredLaw : Type 0
CoveredLaw =
    (program : Picture) (public_input : List ℕ) (regions : List Region) (secret : List ℕ) (cut : CutPicture)
    (side : NamedSide) (answers : List (List ℕ)) (budget turns : ℕ) (output : Output) →
    are_regions regions ≡ true →
    IsMeasuredRun regions answers (guest program public_input secret) output → length answers ≤ turns →
    length secret ≡ cut.secret_len →
    Covers side regions (run_after regions answers (unlabelled (guest program public_input secret))).events cut →
    length (Cross (task_of program public_input regions cut) secret turns) ≤ budget →
    Accept (task_of program public_input regions cut) (record { budget = budget; turns = turns }) secret output
