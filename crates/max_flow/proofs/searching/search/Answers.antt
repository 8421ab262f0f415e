use Rattle.std.proofs.Common.{subst, arith}
use Rattle.max_flow.specs.Private.Searching.{IsStart}
use Rattle.max_flow.specs.Private.Solving.{net_of}
use Rattle.max_flow.proofs.SearchSteps.{found_first}
use Rattle.max_flow.proofs.ScannedQueueIsClosed.{scanned_none}
use Rattle.max_flow.proofs.searching.search.Goals as goal

pub loop-next-init : goal.loop-next-init
loop-next-init c = record {
  tree = found_first (net_of c.args.network.now) c.args.flows.now _ _ _ _ c.requires.network.net
      (subst (λ n. IsStart n c.begin.new.self.places.items c.begin.new.self.arrivals.items
      c.begin.new.self.rooms.items c.begin.new.self.queue.items) c.nodes.ensures c.in_ok-begin.ensures);
  scanned = scanned_none (net_of c.args.network.now) c.args.flows.now c.begin.new.self.places.items;
  within = omega arith;
}
