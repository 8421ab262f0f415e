use Rattle.std.proofs.Common.{length}
use Rattle.max_flow.specs.Private.Deepening.{IsStack}
use Rattle.max_flow.proofs.deepening.restart.Given as goal

abbrev pub invariant-loop-tree : goal.invariant-loop-tree
invariant-loop-tree l = IsStack l.nodes l.tree.places.items l.tree.arrivals.items l.tree.rooms.items l.tree.queue.items

abbrev pub decreases-loop-tree : goal.decreases-loop-tree
decreases-loop-tree l = length l.tree.queue.items
