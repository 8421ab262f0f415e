use Rattle.std.proofs.Common.{◌≡◌, ◌++◌, true, length}
use Rattle.std.specs.List.{AllByRecursion, list_all}
use Rattle.cut_file.specs.Cuts.{is_point_of}
use Rattle.measuring.specs.CutRuns.{HasKeptMasks, points_of}
use Rattle.measuring.specs.Cutting.{FitsCut}
use Rattle.measuring.proofs.cut_points.cut_points.Given as goal

abbrev pub invariant-loop-rest : goal.invariant-loop-rest
invariant-loop-rest l = record {
  points : points_of l.made ++ l.rest ≡ l.points;
  masks : AllByRecursion (HasKeptMasks l.visits) l.made;
  valid : list_all (is_point_of 1) l.made ≡ true;
  fits : AllByRecursion (FitsCut l.visits) l.rest;
}

abbrev pub decreases-loop-rest : goal.decreases-loop-rest
decreases-loop-rest l = length l.rest
