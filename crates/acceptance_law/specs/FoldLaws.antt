-- The law that a measured run is accepted with the fold of its cut.
use Rattle.std.specs.Prelude.{◌≡◌, ℕ, ◌≤◌, Bool, true, List, length}
use Rattle.cut_file.specs.Cuts.{CutPicture, is_cut_picture}
use Rattle.cut_file.specs.Folds.{IsFold}
use Rattle.elf32_loader.specs.Pictures.{Picture}
use Rattle.enclosure_regions.specs.declared.region_parts.Region.{Region}
use Rattle.flow_base.specs.declared.outputs.Output.{Output}
use Rattle.flow_graph.specs.declared.graphs.Graph.{Graph}
use Rattle.flow_graph.specs.EventGraphs.{IsGraphOf}
use Rattle.lockstep_replay.specs.Acceptance.{Accept}
use Rattle.lockstep_replay.specs.Tasks.{task_of}
use Rattle.max_flow.specs.declared.answers.Half.{Half}
use Rattle.max_flow.specs.Flows.{IsSideOf, side_capacity}
use Rattle.acceptance_law.specs.MeasuredLaws.{AreInputs, IsWholeRun, labelled_run}
use Rattle.acceptance_law.specs.RunCuts.{IsCutOf}
use Rattle.acceptance_law.specs.Sides.{named_side}

-- A run is accepted with the fold of the cut of it and of a side of its graph, within the same capacity and the same
-- limits of turns as with the cut: at each visit of the run both have the same mask.
abbrev pub FoldedLaw : Type 0
FoldedLaw =
    (program : Picture) (public_input : List ℕ) (regions : List Region) (secret : List ℕ) (answers : List (List ℕ))
    (graph : Graph) (halves : List Half) (relays : List Bool) (cut folded : CutPicture) (turns : ℕ) (output : Output) →
    AreInputs program public_input regions secret → IsWholeRun program public_input regions secret answers output →
    length answers ≤ turns →
    IsGraphOf (labelled_run program public_input regions secret answers).events graph →
    IsSideOf graph halves relays →
    IsCutOf (length secret) (labelled_run program public_input regions secret answers).events
    (named_side graph halves relays) (side_capacity graph halves relays) cut →
    is_cut_picture cut ≡ true → IsFold cut folded →
    Accept (task_of program public_input regions folded)
    (record { budget = side_capacity graph halves relays; turns = turns }) secret output
