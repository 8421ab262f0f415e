use Rattle.std.proofs.Common.{◌-◌, ◌^◌, ◌<◌, subst, arith}
use Rattle.max_flow.specs.Private.Networks.{source_flow}
use Rattle.max_flow.specs.Private.Searching.{IsStart}
use Rattle.max_flow.specs.Private.Solving.{net_of}
use Rattle.max_flow.proofs.SearchSteps.{found_first}
use Rattle.max_flow.proofs.FirstAndLastFlows.{own_value, value_on, value_small}
use Rattle.max_flow.proofs.deepening.add_walks.Goals as goal

pub augment-total-requires-clause-flow : goal.augment-total-requires-clause-flow
augment-total-requires-clause-flow c = own_value (net_of c.args.network.now) c.loop.flows _ c.loop.invariant.flow

pub overflow_add-total : goal.overflow_add-total
overflow_add-total c =
    let small : source_flow (net_of c.args.network.now) c.augment-total.new.flows < 2 ^ 64 - 1 =
    value_small (net_of c.args.network.now) c.augment-total.new.flows c.requires.network.net c.requires.small
    c.augment-total.ensures.flow.flow_is in
    omega (arith, small, c.augment-total.ensures.flow.value_is, c.loop.invariant.flow.value_is)

pub loop-preserved-then-at-eq1 : goal.loop-preserved-then-at-eq1
loop-preserved-then-at-eq1 c =
    let t = c.restart.new.tree in
    let start : IsStart c.args.network.now.nodes t.places.items t.arrivals.items t.rooms.items t.queue.items =
    subst (λ n. IsStart n t.places.items t.arrivals.items t.rooms.items t.queue.items) c.nodes.ensures
    c.restart.ensures in
    record {
      flow = value_on (net_of c.args.network.now) c.loop.flows c.augment-total.new.flows _ _ _
          c.loop.invariant.flow c.augment-total.ensures.flow (omega arith);
      walk = record {
        count = c.augment-total.ensures.flow.bounded.count;
        tree_is = found_first (net_of c.args.network.now) c.augment-total.new.flows t.places.items t.arrivals.items
            t.rooms.items t.queue.items c.requires.network.net start;
        root = start.source;
      };
      current = c.loop.invariant.current;
    }

pub loop-preserved-then-branch : goal.loop-preserved-then-branch
loop-preserved-then-branch c = record {
  flow = c.loop.invariant.flow;
  walk = c.in_ok-advance_leaving.ensures.walk;
  current = c.advance_leaving.ensures.current;
}

pub loop-preserved-then-branch-2 : goal.loop-preserved-then-branch-2
loop-preserved-then-branch-2 c = record {
  flow = c.loop.invariant.flow;
  walk = c.in_ok-advance_entering.ensures.walk;
  current = c.advance_entering.ensures.current;
}

pub loop-preserved : goal.loop-preserved
loop-preserved c = record {
  flow = c.loop.invariant.flow;
  walk = c.retreat.ensures;
  current = c.advance_entering.ensures.current;
}
