use Rattle.std.proofs.Common.{◌∙◌, ◌+◌, ◌++◌, ℕ, List, ap, drop, refl}
use Rattle.cut_file.specs.declared.points.CutPoint.{CutPoint}
use Rattle.leak_report.specs.Reports.{cut_line, cut_lines}
use Rattle.leak_report.proofs.LineLists.{lines_step}
use Rattle.leak_report.proofs.reports.put_points.Goals as goal

pub loop-cut_point-preserved : goal.loop-cut_point-preserved
loop-cut_point-preserved c =
    let nodes = c.args.nodes.now in
    let points = c.args.points.now in
    let i = c.loop-cut_point.cut_point-index in
    ap (λ (l : List ℕ). l ++ cut_lines nodes (drop (i + 1) points)) c.in_ok-put_point.ensures
    ∙ (ap (λ (p : CutPoint). (c.loop-cut_point.text.items ++ cut_line nodes p.point)
    ++ cut_lines nodes (drop (i + 1) points)) c.cut_point-item.is
    ∙ lines_step (λ (p : CutPoint). cut_line nodes p.point) (cut_lines nodes) (λ point more. refl)
    c.loop-cut_point.text.items _ points i c.cut_point-item.result c.loop-cut_point-test.true c.loop-cut_point.invariant)
