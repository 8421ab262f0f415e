use Rattle.std.proofs.Common.{◌≡◌, true, length}
use Rattle.std.specs.List.{list_all}
use Rattle.max_flow.specs.Flows.{is_small}
use Rattle.flow_graph.specs.EventGraphs.{capacity_at}
use Rattle.leak_report.proofs.capacities.capacity_of.Given as goal

abbrev pub invariant-loop-rest : goal.invariant-loop-rest
invariant-loop-rest l = record {
  small : list_all is_small l.rest ≡ true;
  same : capacity_at l.rest l.point ≡ capacity_at l.nodes l.point;
}

abbrev pub decreases-loop-rest : goal.decreases-loop-rest
decreases-loop-rest l = length l.rest
