use Rattle.std.proofs.Common.{sym, ap, ◌∙◌, cond}
use Rattle.flow_base.specs.PointOrders.{is_same}
use Rattle.measuring.proofs.Counters.{clear_already, never_counted, same_counts}
use Rattle.measuring.proofs.visit_counts.VisitCounts.clear.Goals as goal

pub returns-then-not-is_counted-clause-counted : goal.returns-then-not-is_counted-clause-counted
returns-then-not-is_counted-clause-counted c =
    sym (never_counted c.args.self.now c.args.point.now (sym c.is_counted.ensures ∙ c.if-not-is_counted.true))

pub returns-then-not-is_counted-clause-cleared : goal.returns-then-not-is_counted-clause-cleared
returns-then-not-is_counted-clause-cleared c =
    clear_already c.args.self.now c.args.point.now
    (never_counted c.args.self.now c.args.point.now (sym c.is_counted.ensures ∙ c.if-not-is_counted.true))

pub returns-clause-counted : goal.returns-clause-counted
returns-clause-counted c =
    c.clear_at.ensures.counted
    ∙ same_counts c.args.self.now c.row_of.new.self c.in_ok-index.ensures.counts c.args.point.now

pub returns-clause-cleared : goal.returns-clause-cleared
returns-clause-cleared c = λ q.
    c.clear_at.ensures.cleared q
    ∙ ap (λ m. cond (is_same c.args.point.now q) 0 m)
    (same_counts c.args.self.now c.row_of.new.self c.in_ok-index.ensures.counts q)
