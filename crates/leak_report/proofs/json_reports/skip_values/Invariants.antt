use Rattle.std.proofs.Common.{◌≡◌, map, take}
use Rattle.serde_json.specs.View.{view}
use Rattle.leak_report.specs.JsonReports.{whole}
use Rattle.leak_report.proofs.json_reports.skip_values.Given as goal

abbrev pub invariant-loop-region : goal.invariant-loop-region
invariant-loop-region l = map view l.values.items ≡ map whole (take l.region-index l.regions)
