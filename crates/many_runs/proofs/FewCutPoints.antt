-- A cut has no more points than the graph that it splits.
use Rattle.std.proofs.Common.{◌≡◌, ℕ, suc, ◌≤◌, ◌∷◌, [], cond, Bool, true, false, List, length, ap, arith, refl, length-append}
use Rattle.cut_file.specs.declared.points.CutPoint.{CutPoint}
use Rattle.flow_base.specs.declared.points.Point.{Point}
use Rattle.flow_graph.specs.declared.nodes.Node.{Node}
use Rattle.max_flow.specs.declared.answers.Half.{Half}
use Rattle.measuring.specs.CutRuns.{points_of}
use Rattle.measuring.specs.Splits.{is_cut, point_if, split_points}

chosen_few : (b : Bool) (point : Point) → length (cond b (point ∷ []) []) ≤ 1
chosen_few true point = omega arith
chosen_few false point = omega arith

split_few : (skip : List ℕ) (nodes : List Node) (halves : List Half) →
    length (split_points skip nodes halves) ≤ length nodes
split_few skip [] halves = omega arith
split_few skip (node ∷ nodes) [] = omega arith
split_few skip (node ∷ nodes) (half ∷ halves) =
    let all = length-append (point_if skip node.point half) (split_points skip nodes halves) in
    let here = chosen_few (is_cut skip node.point half) node.point in
    let rest = split_few skip nodes halves in
    omega (arith, all, here, rest)

points_count : (points : List CutPoint) → length (points_of points) ≡ length points
points_count [] = refl
points_count (point ∷ points) = ap suc (points_count points)

pub points_are_few : (points : List CutPoint) (skip : List ℕ) (nodes : List Node) (halves : List Half) →
    points_of points ≡ split_points skip nodes halves → length nodes ≤ 65536 → length points ≤ 65536
points_are_few points skip nodes halves are few =
    let count = points_count points in
    let same : length (points_of points) ≡ length (split_points skip nodes halves) = ap length are in
    let most = split_few skip nodes halves in
    omega (arith, count, same, most, few)
