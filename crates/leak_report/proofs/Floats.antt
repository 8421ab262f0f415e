-- No number of a report is a float.
use Rattle.std.proofs.Common.{◌≡◌, ℕ, List, [], ◌∷◌, false, map, refl}
use Rattle.serde_json.specs.View.{items_of}
use Rattle.serde_json.specs.Written.{has_float, items_have_float}
use Rattle.cut_file.specs.declared.points.CutPoint.{CutPoint}
use Rattle.flow_graph.specs.declared.nodes.Node.{Node}
use Rattle.measuring.specs.declared.measured.Measured.{Measured}
use Rattle.leak_report.specs.JsonReports.{point_data, report_data, whole}

points_whole : (nodes : List Node) (points : List CutPoint) →
    items_have_float (items_of (map (λ (p : CutPoint). point_data nodes p.point) points)) ≡ false
points_whole nodes [] = refl
points_whole nodes (point ∷ points) = points_whole nodes points

regions_whole : (regions : List ℕ) → items_have_float (items_of (map whole regions)) ≡ false
regions_whole [] = refl
regions_whole (region ∷ regions) = regions_whole regions

pub all_whole : (measured : Measured) → has_float (report_data measured) ≡ false
all_whole measured =
    rw (points_whole measured.graph.points measured.cut.points, regions_whole measured.cut.skip) refl
