use Rattle.std.proofs.Common.{◌+◌}
use Rattle.max_flow.specs.Private.Balances.{IsFlowOfValue}
use Rattle.max_flow.specs.Private.Networks.{source_flow}
use Rattle.max_flow.specs.Private.Solving.{net_of}
use Rattle.max_flow.specs.Private.Deepening.{HasCurrentArcs, IsWalk}
use Rattle.max_flow.proofs.deepening.add_walks.Given as goal

abbrev pub invariant-loop : goal.invariant-loop
invariant-loop l = record {
  flow : IsFlowOfValue (net_of l.network) l.flows (source_flow (net_of l.network) l.initial.flows + l.total);
  walk : IsWalk (net_of l.network) l.flows l.tree;
  current : HasCurrentArcs l.network l.graph;
}
