use Rattle.std.proofs.Common.{◌≡◌, ap, sym, ◌∙◌, ◌+◌, arith, lt-ltb, le-ltb}
use Rattle.measuring.specs.Counts.{count_of, page_of}
use Rattle.measuring.proofs.Counters.{counted_from, one_more, value_from}
use Rattle.measuring.proofs.visit_counts.VisitCounts.raise.Goals as goal

pub returns-in-Some-clause-more : goal.returns-in-Some-clause-more
returns-in-Some-clause-more c =
    one_more c.args.self.now c.write.new.self c.args.point.now c.in-Some.count
    (c.in-Some.ensures.1 ∙ ap (λ n. n + 1) (value_from c.args.self.now c.args.point.now c.column_of-column.result
    c.value.result c.column_of-column.ensures.column c.requires.counted
    (c.value.ensures (page_of c.args.point.now) c.requires.row)))
    (counted_from c.args.self.now c.write.new.self c.args.point.now c.in-Some.count c.column_of-column.result
    c.column_of-column.ensures.column c.requires.counted (c.write.ensures (page_of c.args.point.now) c.requires.row))

pub returns-in-Some-clause-told : goal.returns-in-Some-clause-told
returns-in-Some-clause-told c =
    let value : c.value.result ≡ count_of c.args.self.now c.args.point.now =
    value_from c.args.self.now c.args.point.now c.column_of-column.result
    c.value.result c.column_of-column.ensures.column c.requires.counted
    (c.value.ensures (page_of c.args.point.now) c.requires.row) in
    sym (lt-ltb _ _ (omega (arith, value, c.in-Some.ensures.0, c.in-Some.ensures.1)))

pub returns-in-None-clause-told : goal.returns-in-None-clause-told
returns-in-None-clause-told c =
    let value : c.value.result ≡ count_of c.args.self.now c.args.point.now =
    value_from c.args.self.now c.args.point.now c.column_of-column.result
    c.value.result c.column_of-column.ensures.column c.requires.counted
    (c.value.ensures (page_of c.args.point.now) c.requires.row) in
    sym (le-ltb _ _ (omega (arith, value, c.in-None.ensures)))
