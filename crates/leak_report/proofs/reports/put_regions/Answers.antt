use Rattle.std.proofs.Common.{◌∙◌, ◌+◌, ◌++◌, ℕ, List, ap, drop, refl}
use Rattle.leak_report.specs.Reports.{skip_line, skip_lines}
use Rattle.leak_report.proofs.LineLists.{lines_step}
use Rattle.leak_report.proofs.reports.put_regions.Goals as goal

pub loop-region-preserved : goal.loop-region-preserved
loop-region-preserved c =
    let regions = c.args.regions.now in
    let i = c.loop-region.region-index in
    ap (λ (l : List ℕ). l ++ skip_lines (drop (i + 1) regions)) c.in_ok-put_region.ensures
    ∙ lines_step skip_line skip_lines (λ region more. refl) c.loop-region.text.items _ regions i 0
    c.loop-region-test.true c.loop-region.invariant
