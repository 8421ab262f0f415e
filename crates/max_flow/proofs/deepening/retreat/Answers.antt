use Rattle.std.proofs.Common.{◌-◌, ◌<◌, ◌≤◌, length, slice_index, refl, arith}
use Rattle.max_flow.specs.Private.Solving.{net_of}
use Rattle.max_flow.proofs.LastNodeTakenOut.{IsTop, stack_of, stack_less, found_less, top_more}
use Rattle.max_flow.proofs.deepening.retreat.Goals as goal

pub returns : goal.returns
returns c =
    let some : 0 < c.args.network.now.nodes = let two : 2 ≤ c.args.network.now.nodes = c.requires.network.net.some in
    omega arith in
    let stack = stack_of (net_of c.args.network.now) c.args.flows.now c.args.tree.now.places.items
    c.args.tree.now.arrivals.items c.args.tree.now.rooms.items c.args.tree.now.queue.items c.requires.walk.tree_is
    c.requires.walk.root in
    let top : IsTop c.args.tree.now.places.items c.args.tree.now.queue.items (slice_index c.args.tree.now.queue.items
    (length c.args.tree.now.queue.items - 1)) = record {
      more = top_more c.args.network.now.nodes c.args.tree.now.places.items c.args.tree.now.arrivals.items
          c.args.tree.now.rooms.items c.args.tree.now.queue.items c.args.at some stack
          c.requires.last c.requires.some;
      last = refl;
    } in
    let less = stack_less c.args.network.now.nodes c.args.tree.now.places.items c.args.tree.now.arrivals.items
    c.args.tree.now.rooms.items c.args.tree.now.queue.items (slice_index c.args.tree.now.queue.items
    (length c.args.tree.now.queue.items - 1)) stack top in
    record {
      count = c.requires.walk.count;
      tree_is =
          rw (c.pop.ensures.places, c.pop.ensures.arrivals, c.pop.ensures.rooms, c.pop.ensures.queue)
          (found_less (net_of c.args.network.now) c.args.flows.now c.args.tree.now.places.items
          c.args.tree.now.arrivals.items c.args.tree.now.rooms.items c.args.tree.now.queue.items
          (slice_index c.args.tree.now.queue.items (length c.args.tree.now.queue.items - 1)) c.requires.walk.tree_is
          c.requires.walk.root top);
      root = rw c.pop.ensures.places less.root;
    }
