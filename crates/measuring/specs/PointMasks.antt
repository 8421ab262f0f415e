-- The masks that are kept of a point's visits.
use Rattle.std.specs.Prelude.{ℕ, List, [], ◌∷◌, ◌++◌}
use Rattle.measuring.specs.declared.point_visits.PointVisits.{PointVisits}
use Rattle.measuring.specs.declared.point_visits.VisitRun.{VisitRun}
use Rattle.measuring.specs.VisitRuns.{run_masks}

abbrev pub all_runs : PointVisits → List VisitRun
all_runs visits = visits.earlier ++ visits.latest ∷ []

-- one for each visit, in order
abbrev pub point_masks : PointVisits → List ℕ
point_masks visits = run_masks (all_runs visits)
