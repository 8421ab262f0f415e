use Rattle.std.proofs.Common.{◌≡◌, ◌≤◌, ◌<◌, ◌-◌, length, slice_index}
use Rattle.max_flow.specs.Private.Searching.{HasGrown, HasLeft}
use Rattle.max_flow.specs.Private.Solving.{net_of, IsTree}
use Rattle.max_flow.proofs.scanning.scan_leaving.Given as goal

abbrev pub invariant-loop-cursor : goal.invariant-loop-cursor
invariant-loop-cursor l = record {
  tree : IsTree (net_of l.network) l.flows l.tree;
  grown : HasGrown l.initial.tree.places.items (length l.initial.tree.queue.items) l.tree.places.items
      (length l.tree.queue.items);
  left : HasLeft (net_of l.network) l.flows l.tree.places.items l.at l.cursor;
  within : l.cursor ≤ length l.network.tails.items;
  here : 0 < l.cursor → slice_index l.network.tails.items (l.cursor - 1) ≡ l.at;
}

abbrev pub decreases-loop-cursor : goal.decreases-loop-cursor
decreases-loop-cursor l = l.cursor
