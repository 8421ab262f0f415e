-- Runs of visits as runs of a cut, and the cut's points.
use Rattle.std.specs.Prelude.{◌≡◌, ℕ, List, [], ◌∷◌, bit_or}
use Rattle.flow_base.specs.declared.points.Point.{Point}
use Rattle.cut_file.specs.declared.points.CutPoint.{CutPoint}
use Rattle.cut_file.specs.declared.points.Run.{Run}
use Rattle.cut_file.specs.Masks.{listed_masks}
use Rattle.acceptance_law.specs.RunCuts.{united}
use Rattle.measuring.specs.declared.kept_visits.KeptVisits.{KeptVisits}
use Rattle.measuring.specs.declared.point_visits.VisitRun.{VisitRun}
use Rattle.measuring.specs.Visits.{all_masks}

abbrev pub as_run : VisitRun → Run
as_run run = record { count = run.count; mask = run.mask }

abbrev pub as_runs : List VisitRun → List Run
as_runs [] = []
as_runs (run ∷ runs) = as_run run ∷ as_runs runs

-- the bits that the masks of some of the runs have
abbrev pub united_runs : List Run → ℕ
united_runs [] = 0
united_runs (run ∷ runs) = bit_or run.mask (united_runs runs)

abbrev pub once : ℕ → List Run
once mask = record { count = 1; mask = mask } ∷ []

-- a point of the cut has the masks that are kept of its visits, and after them their union
pub record HasKeptMasks (visits : KeptVisits) (cut_point : CutPoint) : Type 0 where
  pub masks : listed_masks cut_point.runs ≡ all_masks visits cut_point.point
  pub rest : cut_point.rest ≡ once (united (all_masks visits cut_point.point))

abbrev pub points_of : List CutPoint → List Point
points_of [] = []
points_of (cut_point ∷ points) = cut_point.point ∷ points_of points
