use Rattle.location_collapse.proofs.ExceedingEvents.{graph_exceeds}
use Rattle.location_collapse.proofs.laws.graphs_exceed.Goals as goal

pub returns : goal.returns
returns c = graph_exceeds
