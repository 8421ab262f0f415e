-- Runs of visits that have one mask.
use Rattle.std.specs.Prelude.{ℕ, ◌+◌, ◌==◌, ◌&&◌, ◌||◌, nat_le, nat_lt, not, Bool, List, [], ◌∷◌, ◌++◌, replicate}
use Rattle.std.specs.List.{list_all}
use Rattle.cut_file.specs.Cuts.{neighbours_pass}
use Rattle.measuring.specs.declared.point_visits.VisitRun.{VisitRun}

-- the masks of runs, one for each visit
unfoldable pub run_masks : List VisitRun → List ℕ
run_masks [] = []
run_masks (run ∷ runs) = replicate run.count run.mask ++ run_masks runs

abbrev pub is_visit_run : VisitRun → Bool
is_visit_run run = nat_lt 0 run.count

-- two runs cannot be one: their masks differ, or together they have 2^64 visits or more
abbrev pub stay_apart : VisitRun → VisitRun → Bool
stay_apart first second = not (first.mask == second.mask) || nat_le 18446744073709551616 (first.count + second.count)

-- each run has a visit, and no two neighbouring runs can be one
abbrev pub are_visit_runs : List VisitRun → Bool
are_visit_runs runs = list_all is_visit_run runs && neighbours_pass stay_apart runs
