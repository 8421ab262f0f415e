use Rattle.measuring.proofs.Counters.{started}
use Rattle.measuring.proofs.visit_counts.VisitCounts.start.Goals as goal

pub returns-clause-counts : goal.returns-clause-counts
returns-clause-counts c =
    started c.args.self.now.rows.map.entries c.add.new.self.map.entries c.args.page c.in_ok-row.row
    c.in_ok-row.ensures c.requires c.in_ok-index.ensures.puts
