use Rattle.max_flow.specs.Private.Solving.{net_of}
use Rattle.max_flow.proofs.FirstAndLastFlows.{raised_side, raised_capacity, raised_least}
use Rattle.max_flow.proofs.raising.solve_network.Goals as goal

pub returns-clause-count : goal.returns-clause-count
returns-clause-count c = c.in_ok-value.ensures.tree_is.places_count

pub returns-clause-side : goal.returns-clause-side
returns-clause-side c = raised_side (net_of c.args.network.now) c.raise.new.flows c.in_ok-value.field-0.value
    c.in_ok-value.field-0.tree c.requires.network.net c.requires.small c.in_ok-value.ensures

pub returns-clause-capacity : goal.returns-clause-capacity
returns-clause-capacity c = raised_capacity (net_of c.args.network.now) c.raise.new.flows c.in_ok-value.field-0.value
    c.in_ok-value.field-0.tree c.requires.network.net c.requires.small c.in_ok-value.ensures

pub returns-clause-least : goal.returns-clause-least
returns-clause-least c = raised_least (net_of c.args.network.now) c.raise.new.flows c.in_ok-value.field-0.value
    c.in_ok-value.field-0.tree c.requires.network.net c.in_ok-value.ensures
