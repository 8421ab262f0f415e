use Rattle.std.proofs.Common.{◌<◌, ◌-◌, ◌^◌, arith, subst}
use Rattle.max_flow.specs.Private.Networks.{source_flow}
use Rattle.max_flow.specs.Private.Searching.{IsStart}
use Rattle.max_flow.specs.Private.Solving.{net_of}
use Rattle.max_flow.proofs.SearchSteps.{found_first}
use Rattle.max_flow.proofs.FirstAndLastFlows.{own_value, value_on, value_small}
use Rattle.max_flow.proofs.deepening.deepen.Goals as goal

pub add_walks-requires-clause-flow : goal.add_walks-requires-clause-flow
add_walks-requires-clause-flow c =
    own_value (net_of c.args.network.now) c.augment-first.new.flows _ c.augment-first.ensures.flow

pub add_walks-requires-clause-walk : goal.add_walks-requires-clause-walk
add_walks-requires-clause-walk c =
    let t = c.begin.new.self in
    record {
      count = c.augment-first.ensures.flow.bounded.count;
      tree_is = found_first (net_of c.args.network.now) c.augment-first.new.flows t.places.items t.arrivals.items
          t.rooms.items t.queue.items c.requires.network.net
          (subst (λ n. IsStart n t.places.items t.arrivals.items t.rooms.items t.queue.items) c.nodes.ensures
          c.in_ok-begin.ensures);
      root = c.in_ok-begin.ensures.source;
    }

pub overflow_add-result : goal.overflow_add-result
overflow_add-result c =
    let small : source_flow (net_of c.args.network.now) c.add_walks.new.flows < 2 ^ 64 - 1 =
    value_small (net_of c.args.network.now) c.add_walks.new.flows c.requires.network.net c.requires.small
    c.in_ok-more.ensures.flow.flow_is in
    omega (arith, small, c.in_ok-more.ensures.flow.value_is, c.augment-first.ensures.flow.value_is)

pub returns-clause-flow : goal.returns-clause-flow
returns-clause-flow c =
    value_on (net_of c.args.network.now) c.augment-first.new.flows c.add_walks.new.flows _ _ _
    c.augment-first.ensures.flow c.in_ok-more.ensures.flow (omega arith)

pub returns-clause-some : goal.returns-clause-some
returns-clause-some c = omega (arith, c.augment-first.ensures.some)
