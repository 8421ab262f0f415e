use Rattle.std.proofs.Common.{refl, arith}
use Rattle.max_flow.proofs.LastNodeTakenOut.{stack_less}
use Rattle.max_flow.proofs.deepening.restart.Goals as goal

pub loop-tree-preserved : goal.loop-tree-preserved
loop-tree-preserved c =
    rw (c.pop.ensures.places, c.pop.ensures.arrivals, c.pop.ensures.rooms, c.pop.ensures.queue)
    (stack_less c.args.nodes c.loop-tree.tree.places.items c.loop-tree.tree.arrivals.items
    c.loop-tree.tree.rooms.items
    c.loop-tree.tree.queue.items _ c.loop-tree.invariant
    (record { more = omega (arith, c.count.ensures); last = refl }))
