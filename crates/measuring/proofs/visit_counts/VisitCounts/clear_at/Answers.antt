use Rattle.measuring.specs.Counts.{page_of}
use Rattle.measuring.proofs.Counters.{counted_from, value_from}
use Rattle.measuring.proofs.visit_counts.VisitCounts.clear_at.Goals as goal

pub returns-clause-counted : goal.returns-clause-counted
returns-clause-counted c =
    value_from c.args.self.now c.args.point.now c.column_of-column.result c.value-count.result
    c.column_of-column.ensures.column c.requires.counted
    (c.value-count.ensures (page_of c.args.point.now) c.requires.row)

pub returns-clause-cleared : goal.returns-clause-cleared
returns-clause-cleared c =
    counted_from c.args.self.now c.write.new.self c.args.point.now 0 c.column_of-column.result
    c.column_of-column.ensures.column c.requires.counted (c.write.ensures (page_of c.args.point.now) c.requires.row)
