use Rattle.std.proofs.Common.{◌≡◌, ◌∙◌, ap, map}
use Rattle.serde_json.specs.View.{view}
use Rattle.cut_file.specs.declared.points.CutPoint.{CutPoint}
use Rattle.leak_report.specs.JsonReports.{point_data}
use Rattle.leak_report.proofs.MappedLists.{mapped_more}
use Rattle.leak_report.proofs.json_reports.cut_values.Goals as goal

pub loop-cut_point-preserved : goal.loop-cut_point-preserved
loop-cut_point-preserved c =
    let nodes = c.args.nodes.now in
    let points = c.args.points.now in
    let i = c.loop-cut_point.cut_point-index in
    let made : view c.in_ok-value.value ≡ point_data nodes c.cut_point-item.result.point = c.in_ok-value.ensures in
    ap (map view) c.in_ok-push.ensures.ok
    ∙ mapped_more view (λ (p : CutPoint). point_data nodes p.point) c.loop-cut_point.values.items c.in_ok-value.value
    points i c.cut_point-item.result c.loop-cut_point-test.true c.loop-cut_point.invariant
    (made ∙ ap (λ (p : CutPoint). point_data nodes p.point) c.cut_point-item.is)
