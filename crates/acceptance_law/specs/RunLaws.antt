-- The cut of a run has few points, and few runs of masks.
use Rattle.std.specs.Prelude.{◌≡◌, ℕ, ◌+◌, ◌*◌, ◌≤◌, Bool, true, List, length}
use Rattle.cut_file.specs.Cuts.{CutPicture, is_cut_picture}
use Rattle.cut_file.specs.TextLengths.{listed_runs}
use Rattle.flow_graph.specs.declared.events.Event.{Event}
use Rattle.flow_graph.specs.declared.graphs.Graph.{Graph}
use Rattle.flow_graph.specs.EventGraphs.{IsGraphOf}
use Rattle.max_flow.specs.declared.answers.Half.{Half}
use Rattle.max_flow.specs.Flows.{IsSideOf, side_capacity}
use Rattle.acceptance_law.specs.RunCuts.{IsCutOf}
use Rattle.acceptance_law.specs.Sides.{named_side}

-- at most one point for each bit, and two runs for each bit beside one for each point
pub record HasFewRuns (bits : ℕ) (cut : CutPicture) : Type 0 where
  pub points : length cut.points ≤ bits
  pub runs : listed_runs cut.points ≤ 2 * bits + length cut.points

-- the cut of a run and a side of its graph has few runs for the side's capacity
abbrev pub FewRunsLaw : Type 0
FewRunsLaw =
    (secret_len : ℕ) (events : List Event) (graph : Graph) (halves : List Half) (relays : List Bool)
    (cut : CutPicture) → IsGraphOf events graph → IsSideOf graph halves relays →
    IsCutOf secret_len events (named_side graph halves relays) (side_capacity graph halves relays) cut →
    is_cut_picture cut ≡ true → HasFewRuns (side_capacity graph halves relays) cut
