-- The law that a measured run is accepted.
use Rattle.std.specs.Prelude.{◌≡◌, ℕ, ◌≤◌, Bool, true, List, length}
use Rattle.cut_file.specs.Cuts.{CutPicture, is_cut_picture}
use Rattle.elf32_loader.specs.Pictures.{Picture, is_image_picture}
use Rattle.enclosure_regions.specs.declared.region_parts.Region.{Region}
use Rattle.enclosure_regions.specs.Regions.{are_regions}
use Rattle.flow_base.specs.declared.outputs.Output.{Output}
use Rattle.flow_graph.specs.declared.graphs.Graph.{Graph}
use Rattle.flow_graph.specs.EventGraphs.{IsGraphOf}
use Rattle.lockstep_replay.specs.Acceptance.{HasExited, Accept}
use Rattle.lockstep_replay.specs.Tasks.{task_of}
use Rattle.max_flow.specs.declared.answers.Half.{Half}
use Rattle.max_flow.specs.Flows.{IsSideOf, side_capacity}
use Rattle.region_machine.specs.Starts.{guest}
use Rattle.run_labels.specs.Answers.{IsSoundAnswer}
use Rattle.run_labels.specs.Runs.{LabelledRun, unlabelled, run_after, EachRunAnswer, IsUnrefused}
use Rattle.acceptance_law.specs.GuestLaws.{HasBytes}
use Rattle.acceptance_law.specs.Inputs.{AreBytes}
use Rattle.acceptance_law.specs.RunCuts.{IsCutOf}
use Rattle.acceptance_law.specs.Sides.{named_side}

-- the run of a program on a secret with its labels, where the rules gave these answers
abbrev pub labelled_run : Picture → List ℕ → List Region → List ℕ → List (List ℕ) → LabelledRun
labelled_run program public_input regions secret answers =
    run_after regions answers (unlabelled (guest program public_input secret))

-- a program with its public input and its regions, and a secret, as files have them
pub record AreInputs (program : Picture) (public_input : List ℕ) (regions : List Region) (secret : List ℕ) :
    Type 0 where
  pub program_valid : is_image_picture program ≡ true
  pub program_bytes : HasBytes program.segments
  pub public_bytes : AreBytes public_input
  pub regions_valid : are_regions regions ≡ true
  pub secret_bytes : AreBytes secret

-- a run that no turn refuses, by sound answers, and that has exited with this output
pub record IsWholeRun (program : Picture) (public_input : List ℕ) (regions : List Region) (secret : List ℕ)
    (answers : List (List ℕ)) (output : Output) : Type 0 where
  pub sound : EachRunAnswer IsSoundAnswer regions answers (unlabelled (guest program public_input secret))
  pub unrefused : IsUnrefused regions answers (unlabelled (guest program public_input secret))
  pub exits : HasExited (labelled_run program public_input regions secret answers).place.state output

-- A run is accepted with the cut of it and of a side of its graph, within the side's capacity and within every limit of
-- turns that it keeps.
abbrev pub MeasuredLaw : Type 0
MeasuredLaw =
    (program : Picture) (public_input : List ℕ) (regions : List Region) (secret : List ℕ) (answers : List (List ℕ))
    (graph : Graph) (halves : List Half) (relays : List Bool) (cut : CutPicture) (turns : ℕ) (output : Output) →
    AreInputs program public_input regions secret → IsWholeRun program public_input regions secret answers output →
    length answers ≤ turns →
    IsGraphOf (labelled_run program public_input regions secret answers).events graph →
    IsSideOf graph halves relays →
    IsCutOf (length secret) (labelled_run program public_input regions secret answers).events
    (named_side graph halves relays) (side_capacity graph halves relays) cut →
    is_cut_picture cut ≡ true →
    Accept (task_of program public_input regions cut)
    (record { budget = side_capacity graph halves relays; turns = turns }) secret output
