-- Which regions a side skips and which points it splits, in the order of the graph.
use Rattle.std.specs.Prelude.{ℕ, ◌==◌, ◌&&◌, not, Bool, cond, List, [], ◌∷◌, ◌++◌}
use Rattle.flow_base.specs.declared.points.Point.{Point}
use Rattle.flow_graph.specs.declared.nodes.Node.{Node}
use Rattle.max_flow.specs.declared.answers.Half.{Half}
use Rattle.max_flow.specs.Flows.{has_first, has_second}
use Rattle.acceptance_law.specs.RunCuts.{is_inner}

-- a region whose relay is in the side; 0 is the number of no region
abbrev pub region_if : ℕ → Bool → List ℕ
region_if relay answer = cond (answer && not (relay == 0)) (relay ∷ []) []

abbrev pub skipped : List ℕ → List Bool → List ℕ
skipped [] answers = []
skipped (relay ∷ relays) [] = []
skipped (relay ∷ relays) (answer ∷ answers) = region_if relay answer ++ skipped relays answers

-- the first half is in the side and the second is not, and the point is no inner one of a skipped region
abbrev pub is_cut : List ℕ → Point → Half → Bool
is_cut skip point half = (has_first half && not (has_second half)) && not (is_inner skip point)

abbrev pub point_if : List ℕ → Point → Half → List Point
point_if skip point half = cond (is_cut skip point half) (point ∷ []) []

abbrev pub split_points : List ℕ → List Node → List Half → List Point
split_points skip [] halves = []
split_points skip (node ∷ nodes) [] = []
split_points skip (node ∷ nodes) (half ∷ halves) = point_if skip node.point half ++ split_points skip nodes halves
