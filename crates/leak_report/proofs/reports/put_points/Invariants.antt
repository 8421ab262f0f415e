use Rattle.std.proofs.Common.{◌≡◌, ◌++◌, drop}
use Rattle.leak_report.specs.Reports.{cut_lines}
use Rattle.leak_report.proofs.reports.put_points.Given as goal

abbrev pub invariant-loop-cut_point : goal.invariant-loop-cut_point
invariant-loop-cut_point l =
    l.text.items ++ cut_lines l.nodes (drop l.cut_point-index l.points)
    ≡ l.initial.text.items ++ cut_lines l.nodes l.points
