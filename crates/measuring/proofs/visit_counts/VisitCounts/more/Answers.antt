use Rattle.std.proofs.Common.{ap, sym, cond, nat_lt, ◌∙◌, ◌+◌, ◌&&◌, true}
use Rattle.flow_base.specs.PointOrders.{is_same}
use Rattle.measuring.specs.Counts.{count_of}
use Rattle.measuring.proofs.Counters.{same_counts}
use Rattle.measuring.proofs.visit_counts.VisitCounts.more.Goals as goal

pub returns-clause-more : goal.returns-clause-more
returns-clause-more c = λ q.
    c.raise.ensures.more q
    ∙ ap (λ m. m + cond (is_same c.args.point.now q) (cond c.raise.result 1 0) 0)
    (same_counts c.args.self.now c.row_of.new.self c.in_ok-index.ensures.counts q)

pub returns-clause-told : goal.returns-clause-told
returns-clause-told c =
    c.raise.ensures.told
    ∙ (ap (λ n. true && nat_lt n 4294967295)
    (same_counts c.args.self.now c.row_of.new.self c.in_ok-index.ensures.counts c.args.point.now)
    ∙ ap (λ b. b && nat_lt (count_of c.args.self.now c.args.point.now) 4294967295)
    (sym c.if-not-is_counted.false ∙ c.is_counted.ensures))
