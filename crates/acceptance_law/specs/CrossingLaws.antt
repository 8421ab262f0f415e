-- How many bits cross a cut of a run.
use Rattle.std.specs.Prelude.{◌≡◌, ℕ, ◌≤◌, Bool, true, List, length}
use Rattle.std.specs.List.{list_all}
use Rattle.cut_file.specs.Cuts.{CutPicture, has_slot}
use Rattle.elf32_loader.specs.Pictures.{Picture}
use Rattle.enclosure_regions.specs.declared.region_parts.Region.{Region}
use Rattle.enclosure_regions.specs.Regions.{are_regions}
use Rattle.flow_base.specs.declared.outputs.Output.{Output}
use Rattle.flow_graph.specs.declared.graphs.Graph.{Graph}
use Rattle.flow_graph.specs.EventGraphs.{IsGraphOf}
use Rattle.lockstep_replay.specs.Tasks.{task_of, Cross}
use Rattle.max_flow.specs.declared.answers.Half.{Half}
use Rattle.max_flow.specs.Flows.{IsSideOf, side_capacity}
use Rattle.region_machine.specs.Starts.{guest}
use Rattle.run_labels.specs.Runs.{unlabelled, run_after}
use Rattle.acceptance_law.specs.Laws.{IsMeasuredRun}
use Rattle.acceptance_law.specs.RunCuts.{IsCutOf}
use Rattle.acceptance_law.specs.Sides.{named_side}

-- under the cut of a measured run and a side of its graph no more bits cross than the side's capacity
abbrev pub CrossingLaw : Type 0
CrossingLaw =
    (program : Picture) (public_input : List ℕ) (regions : List Region) (secret : List ℕ) (cut : CutPicture)
    (graph : Graph) (halves : List Half) (relays : List Bool) (answers : List (List ℕ))
    (secret_len capacity turns : ℕ) (output : Output) → are_regions regions ≡ true →
    IsMeasuredRun regions answers (guest program public_input secret) output → length answers ≤ turns →
    IsGraphOf (run_after regions answers (unlabelled (guest program public_input secret))).events graph →
    IsSideOf graph halves relays →
    IsCutOf secret_len (run_after regions answers (unlabelled (guest program public_input secret))).events
    (named_side graph halves relays) capacity cut →
    list_all has_slot cut.points ≡ true →
    length (Cross (task_of program public_input regions cut) secret turns) ≤ side_capacity graph halves relays
