use Rattle.max_flow.proofs.Graphs.{heads_few, tails_few}
use Rattle.max_flow.proofs.building.ends_of.Goals as goal

pub push_ends-requires-clause-tails : goal.push_ends-requires-clause-tails
push_ends-requires-clause-tails c = rw (c.as_slice.ensures, c.len-count.ensures)
    (tails_few c.args.graph.now c.requires.points)

pub push_ends-requires-clause-heads : goal.push_ends-requires-clause-heads
push_ends-requires-clause-heads c = rw (c.as_slice.ensures, c.len-count.ensures)
    (heads_few c.args.graph.now c.requires.points)
