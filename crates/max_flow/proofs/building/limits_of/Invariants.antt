use Rattle.std.proofs.Common.{◌≡◌, ◌++◌, map, length}
use Rattle.std.specs.Prelude.{IsTrue}
use Rattle.std.specs.List.{list_all}
use Rattle.max_flow.specs.Flows.{is_small}
use Rattle.max_flow.proofs.building.limits_of.Given as goal

abbrev pub invariant-loop-rest : goal.invariant-loop-rest
invariant-loop-rest l = record {
  all : l.limits ++ map (λ node. node.capacity) l.rest ≡ map (λ node. node.capacity) l.points;
  small : IsTrue (list_all is_small l.rest);
}

abbrev pub decreases-loop-rest : goal.decreases-loop-rest
decreases-loop-rest l = length l.rest
