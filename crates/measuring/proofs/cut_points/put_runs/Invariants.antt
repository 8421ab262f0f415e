use Rattle.std.proofs.Common.{◌≡◌, ◌<◌, ◌^◌, ◌++◌, true, length}
use Rattle.std.specs.List.{list_all}
use Rattle.cut_file.specs.Cuts.{is_run}
use Rattle.measuring.specs.CutRuns.{as_runs}
use Rattle.measuring.specs.VisitRuns.{is_visit_run, run_masks}
use Rattle.measuring.proofs.cut_points.put_runs.Given as goal

abbrev pub invariant-loop-rest : goal.invariant-loop-rest
invariant-loop-rest l = record {
  put : l.runs ++ as_runs l.rest ≡ l.initial.runs ++ as_runs l.visits;
  valid : list_all is_run l.runs ≡ true;
  some : list_all is_visit_run l.rest ≡ true;
  few : length (run_masks l.rest) < 2 ^ 32;
}

abbrev pub decreases-loop-rest : goal.decreases-loop-rest
decreases-loop-rest l = length l.rest
