use Rattle.std.proofs.Common.{◌≡◌, ◌∙◌, ap, string_bytes, rules}
use Rattle.serde_json.specs.View.{view}
use Rattle.serde_json.specs.Written.{compact_text, has_float}
use Rattle.leak_report.specs.JsonReports.{report_data}
use Rattle.leak_report.proofs.Floats.{all_whole}
use Rattle.leak_report.proofs.json_reports.report_json.Goals as goal

pub returns : goal.returns
returns c =
    let same : view c.in_ok-value.value ≡ report_data c.args.measured.now = c.in_ok-value.ensures in
    let text : string_bytes c.in_ok-compact.compact ≡ compact_text (report_data c.args.measured.now) =
    c.in_ok-compact.ensures.text (ap has_float same ∙ all_whole c.args.measured.now) ∙ ap compact_text same in
    search (rules, text)
