-- What the cut of a run is made of: its graph, the visits of its points and a side.
use Rattle.std.specs.Prelude.{◌≡◌, ◌<◌, ◌^◌, ℕ, List, Bool, true, length}
use Rattle.std.specs.List.{AllByRecursion}
use Rattle.cut_file.specs.declared.cuts.Cut.{Cut}
use Rattle.flow_base.specs.declared.points.Point.{Point}
use Rattle.flow_base.specs.Points.{is_slot}
use Rattle.flow_graph.specs.declared.graphs.Graph.{Graph}
use Rattle.max_flow.specs.declared.answers.Half.{Half}
use Rattle.measuring.specs.declared.kept_visits.KeptVisits.{KeptVisits}
use Rattle.measuring.specs.CutRuns.{HasKeptMasks, points_of}
use Rattle.measuring.specs.Splits.{skipped, split_points}
use Rattle.measuring.specs.Visits.{all_masks}

-- a point can stand in a cut: its slot is one that a turn passes, and it was visited fewer than 2^32 times
pub record FitsCut (visits : KeptVisits) (point : Point) : Type 0 where
  pub slot : is_slot point.slot ≡ true
  pub few : length (all_masks visits point) < 2 ^ 32

-- a cut with the split points of the graph, each with the masks of its visits
pub record CutsGraph (visits : KeptVisits) (graph : Graph) (halves : List Half) (relays : List Bool)
    (secret_len value : ℕ) (cut : Cut) : Type 0 where
  pub version : cut.version ≡ 1
  pub length : cut.secret_len ≡ secret_len
  pub bits : cut.bits ≡ value
  pub skip : cut.skip ≡ skipped graph.relays relays
  pub points : points_of cut.points ≡ split_points cut.skip graph.points halves
  pub masks : AllByRecursion (HasKeptMasks visits) cut.points
