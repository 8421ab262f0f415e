use Rattle.std.proofs.Common.{slice_index}
use Rattle.max_flow.specs.Private.Networks.{source_flow}
use Rattle.max_flow.specs.Private.Searching.{IsWalking, IsRaising}
use Rattle.max_flow.specs.Private.Solving.{net_of}
use Rattle.max_flow.proofs.augmenting.augment.Given as goal

abbrev pub invariant-loop-at : goal.invariant-loop-at
invariant-loop-at l = record {
  walking : IsWalking (net_of l.network) l.flows l.tree.places.items l.tree.arrivals.items l.tree.rooms.items
      (source_flow (net_of l.network) l.initial.flows) l.at l.amount;
  raising : IsRaising (net_of l.network) l.flows l.tree.places.items (source_flow (net_of l.network) l.initial.flows) l.at
      l.amount;
}

abbrev pub decreases-loop-at : goal.decreases-loop-at
decreases-loop-at l = slice_index l.tree.places.items l.at
