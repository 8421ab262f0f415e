use Rattle.std.proofs.Common.{◌<◌, ◌-◌, ◌^◌, arith}
use Rattle.max_flow.specs.Private.Networks.{source_flow}
use Rattle.max_flow.specs.Private.Solving.{net_of}
use Rattle.max_flow.proofs.FirstAndLastFlows.{own_value, value_on, value_small}
use Rattle.max_flow.proofs.raising.raise.Goals as goal

pub deepen-requires-clause-flow : goal.deepen-requires-clause-flow
deepen-requires-clause-flow c =
    own_value (net_of c.args.network.now) c.loop-alloc.flows _ c.loop-alloc.invariant.flow_of

pub overflow_add-value : goal.overflow_add-value
overflow_add-value c =
    let small : source_flow (net_of c.args.network.now) c.deepen.new.flows < 2 ^ 64 - 1 =
    value_small (net_of c.args.network.now) c.deepen.new.flows c.requires.network.net c.requires.small
    c.in_ok-value.ensures.flow.flow_is in
    omega (arith, small, c.in_ok-value.ensures.flow.value_is, c.loop-alloc.invariant.flow_of.value_is)

pub loop-alloc-preserved : goal.loop-alloc-preserved
loop-alloc-preserved c = record {
  flow_of = value_on (net_of c.args.network.now) c.loop-alloc.flows c.deepen.new.flows _ _ _
      c.loop-alloc.invariant.flow_of c.in_ok-value.ensures.flow (omega arith);
  tree_is = c.in_ok-search.ensures.tree;
  shut = c.in_ok-search.ensures.closed;
}

pub returns : goal.returns
returns c = record {
  flow_is = c.loop-alloc.invariant.flow_of.flow_is;
  value_is = c.loop-alloc.invariant.flow_of.value_is;
  most = c.loop-alloc.invariant.flow_of.most;
  tree_is = c.loop-alloc.invariant.tree_is;
  sink = omega arith;
  shut = c.loop-alloc.invariant.shut (omega arith);
}
