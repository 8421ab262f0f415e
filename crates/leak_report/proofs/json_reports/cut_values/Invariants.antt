use Rattle.std.proofs.Common.{◌≡◌, map, take}
use Rattle.serde_json.specs.View.{view}
use Rattle.leak_report.specs.JsonReports.{point_data}
use Rattle.leak_report.proofs.json_reports.cut_values.Given as goal

abbrev pub invariant-loop-cut_point : goal.invariant-loop-cut_point
invariant-loop-cut_point l =
    map view l.values.items
    ≡ map (λ cut_point. point_data l.nodes cut_point.point) (take l.cut_point-index l.points)
