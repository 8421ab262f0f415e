use Rattle.flow_graph.proofs.SameLinksSameRelays.{relays_ascend}
use Rattle.flow_graph.proofs.finishing.relays_of.Goals as goal

pub returns-clause-ascend : goal.returns-clause-ascend
returns-clause-ascend c = rw c.in_ok-list.ensures.items
    (relays_ascend c.in_ok-set.set.keys c.in_ok-list.ensures.ordered)
