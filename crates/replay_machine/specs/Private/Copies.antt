-- A point of a cut without masks that say nothing: where one mask stands for all later visits, that is said once.
use Rattle.std.specs.Prelude.{ℕ, ◌==◌, List, [], ◌∷◌, if◌then◌else◌}
use Rattle.cut_file.specs.declared.points.CutPoint.{CutPoint}
use Rattle.cut_file.specs.declared.points.Run.{Run}

-- runs without a last one that has the mask
abbrev pub without_last : ℕ → List Run → List Run
without_last mask [] = []
without_last mask (run ∷ []) = if run.mask == mask then [] else run ∷ []
without_last mask (run ∷ (next ∷ runs)) = run ∷ without_last mask (next ∷ runs)

-- the point with these runs, and after them one mask
abbrev pub with_one : CutPoint → List Run → ℕ → CutPoint
with_one cut_point runs mask = record {
  point = cut_point.point;
  runs = runs;
  rest = record { count = 1; mask = mask } ∷ [];
}

-- the point, where its pattern is the list: if it is one run its count is 1, and no listed run goes on as the pattern
abbrev pub trimmed_to : CutPoint → List Run → CutPoint
trimmed_to cut_point [] = cut_point
trimmed_to cut_point (only ∷ []) = with_one cut_point (without_last only.mask cut_point.runs) only.mask
trimmed_to cut_point (first ∷ (second ∷ others)) = cut_point

abbrev pub trimmed : CutPoint → CutPoint
trimmed cut_point = trimmed_to cut_point cut_point.rest
