use Rattle.std.proofs.Common.{◌≡◌, ◌++◌, drop}
use Rattle.leak_report.specs.Reports.{skip_lines}
use Rattle.leak_report.proofs.reports.put_regions.Given as goal

abbrev pub invariant-loop-region : goal.invariant-loop-region
invariant-loop-region l =
    l.text.items ++ skip_lines (drop l.region-index l.regions) ≡ l.initial.text.items ++ skip_lines l.regions
