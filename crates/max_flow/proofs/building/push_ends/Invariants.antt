use Rattle.std.proofs.Common.{◌≡◌, ◌++◌, map, take}
use Rattle.max_flow.specs.Building.{tail_of, head_of}
use Rattle.max_flow.proofs.building.push_ends.Given as goal

abbrev pub invariant-loop-link : goal.invariant-loop-link
invariant-loop-link l = record {
  tails : l.ends.tails ≡ l.initial.ends.tails ++ map (λ link. tail_of l.count link.source) (take l.link-index l.links);
  heads : l.ends.heads ≡ l.initial.ends.heads ++ map (λ link. head_of l.count link.target) (take l.link-index l.links);
}
