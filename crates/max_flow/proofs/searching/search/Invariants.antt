use Rattle.std.proofs.Common.{◌≤◌, ◌-◌, length}
use Rattle.max_flow.specs.Private.Searching.{IsScanned}
use Rattle.max_flow.specs.Private.Solving.{net_of, IsTree}
use Rattle.max_flow.proofs.searching.search.Given as goal

abbrev pub invariant-loop-next : goal.invariant-loop-next
invariant-loop-next l = record {
  tree : IsTree (net_of l.network) l.flows l.tree;
  scanned : IsScanned (net_of l.network) l.flows l.tree.places.items l.next;
  within : l.next ≤ length l.tree.queue.items;
}

abbrev pub decreases-loop-next : goal.decreases-loop-next
decreases-loop-next l = l.network.nodes - l.next
