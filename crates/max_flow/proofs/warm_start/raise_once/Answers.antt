use Rattle.std.proofs.Common.{arith}
use Rattle.max_flow.specs.Private.Solving.{net_of}
use Rattle.max_flow.proofs.FirstAndLastFlows.{own_value, value_on}
use Rattle.max_flow.proofs.warm_start.raise_once.Goals as goal

pub deepen-requires-clause-flow : goal.deepen-requires-clause-flow
deepen-requires-clause-flow c = own_value (net_of c.args.network.now) c.args.flows.now 0 c.requires.none

pub returns-clause-value : goal.returns-clause-value
returns-clause-value c =
    value_on (net_of c.args.network.now) c.args.flows.now c.deepen.new.flows 0 _ _ c.requires.none
    c.in_ok-value.ensures.flow (omega arith)
