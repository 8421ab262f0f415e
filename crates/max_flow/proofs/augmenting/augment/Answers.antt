use Rattle.std.proofs.Common.{◌≢◌}
use Rattle.max_flow.specs.Private.Networks.{source_flow}
use Rattle.max_flow.specs.Private.Solving.{net_of}
use Rattle.max_flow.proofs.WalksBack.{walking_first, walking_on, walked_flow, walked_value}
use Rattle.max_flow.proofs.Amounts.{raising_first, raising_on}
use Rattle.max_flow.proofs.augmenting.augment.Goals as goal

pub loop-at-init : goal.loop-at-init
loop-at-init c = record {
  walking = rw c.room-amount.ensures (walking_first (net_of c.args.network.now) c.args.flows.now _ _ _
      c.args.tree.now.queue.items c.requires.network.net c.requires.flow.flow_is c.requires.flow.bounded c.requires.tree
      c.requires.found);
  raising = raising_first (net_of c.args.network.now) c.args.flows.now c.args.tree.now.places.items
      (source_flow (net_of c.args.network.now) c.args.flows.now) 1 c.room-amount.result c.requires.flow.most;
}

pub loop-at-preserved : goal.loop-at-preserved
loop-at-preserved c =
    let ne : c.loop-at.at ≢ 0 = λ e. c.loop-at-test.true e in
    record {
      walking = rw (c.push-at.ensures.flows, c.push-at.ensures.end, c.arrival.ensures)
          (walking_on (net_of c.args.network.now) c.loop-at.flows _ _ _ _ c.loop-at.at c.room-amount.result
          c.requires.network.net c.loop-at.invariant.walking ne);
      raising = rw (c.push-at.ensures.flows, c.push-at.ensures.end, c.arrival.ensures)
          (raising_on (net_of c.args.network.now) c.loop-at.flows _ _ _ _ c.loop-at.at c.room-amount.result
          c.loop-at.invariant.walking ne c.loop-at.invariant.raising);
    }

pub returns-clause-flow : goal.returns-clause-flow
returns-clause-flow c = record {
  flow_is = walked_flow (net_of c.args.network.now) c.loop-at.flows _ _ _ _ c.loop-at.at c.room-amount.result
      c.requires.network.net c.loop-at-test.false c.loop-at.invariant.walking;
  bounded = c.loop-at.invariant.walking.bounded;
  value_is = walked_value (net_of c.args.network.now) c.loop-at.flows _ _ _ _ c.loop-at.at c.room-amount.result
      c.requires.network.net c.loop-at-test.false c.loop-at.invariant.walking;
  most = c.loop-at.invariant.raising.most;
}
