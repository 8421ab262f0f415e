use Rattle.hinted_map.proofs.Places.{value_at}
use Rattle.measuring.proofs.Counters.{written}
use Rattle.measuring.proofs.visit_counts.VisitCounts.write.Goals as goal

pub returns : goal.returns
returns c = λ page stands.
    written c.args.self.now.rows.map.entries _ page c.index_mut.result.now c.set.new.self c.args.column c.args.count
    c.requires.column
    (value_at c.args.self.now.rows.map.entries page c.args.index c.index_mut.result.now stands c.index_mut.ensures.value)
    c.set.ensures (stands.written c.set.new.self)
