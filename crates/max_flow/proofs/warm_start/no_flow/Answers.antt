use Rattle.max_flow.specs.Private.Solving.{net_of}
use Rattle.max_flow.proofs.FirstAndLastFlows.{none_of_value}
use Rattle.max_flow.proofs.warm_start.no_flow.Goals as goal

pub returns : goal.returns
returns c = none_of_value (net_of c.args.network.now) c.in_ok-flows.flows.items (rw c.edges.ensures at c.in_ok-flows.ensures)
