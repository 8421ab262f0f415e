use Rattle.std.proofs.Common.{sym, ap, subst, ◌∙◌}
use Rattle.std.specs.Map.{lookup}
use Rattle.std.proofs.lemmas.Option.{slice_get_within}
use Rattle.flow_base.specs.PointOrders.{is_same}
use Rattle.hinted_map.specs.Maps.{StandsAt}
use Rattle.measuring.specs.Counts.{page_of}
use Rattle.measuring.proofs.Counters.{never_counted, no_row, value_from}
use Rattle.measuring.proofs.visit_counts.VisitCounts.count.Goals as goal

pub returns-then-not-is_counted : goal.returns-then-not-is_counted
returns-then-not-is_counted c =
    sym (never_counted c.args.self.now c.args.point.now (sym c.is_counted.ensures ∙ c.if-not-is_counted.true))

pub value-requires-clause-within : goal.value-requires-clause-within
value-requires-clause-within c =
    slice_get_within c.args.self.now.rows.map.entries c.in-Some.index _ c.in-Some.ensures.at.at

pub returns-in-Some : goal.returns-in-Some
returns-in-Some c =
    value_from c.args.self.now c.args.point.now c.column_of.result c.value.result c.column_of.ensures.column
    (sym c.is_counted.ensures ∙ c.if-not-is_counted.false)
    (c.value.ensures (page_of c.args.point.now) (subst (λ page. StandsAt is_same c.args.self.now.rows.map.entries page
    c.in-Some.index) c.page_of.ensures c.in-Some.ensures.at))

pub returns-in-None : goal.returns-in-None
returns-in-None c =
    sym (no_row c.args.self.now c.args.point.now (ap (λ page. lookup (is_same page) c.args.self.now.rows.map.entries)
    (sym c.page_of.ensures) ∙ c.in-None.ensures.none))
