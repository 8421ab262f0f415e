use Rattle.flow_graph.proofs.LinkOrders.{named_by_ends, arcs_by_ends}
use Rattle.flow_graph.proofs.link_orders.links_are_ordered.Goals as goal

pub returns-clause-named : goal.returns-clause-named
returns-clause-named c = named_by_ends

pub returns-clause-arcs : goal.returns-clause-arcs
returns-clause-arcs c = arcs_by_ends
