use Rattle.std.proofs.Common.{◌≡◌, ◌==◌, length, IsTrue}
use Rattle.std.specs.List.{find, list_all}
use Rattle.enclosure_regions.specs.Regions.{is_region}
use Rattle.region_machine.proofs.kinds.find_entered.Given as goal

abbrev pub decreases-loop-rest : goal.decreases-loop-rest
decreases-loop-rest l = length l.rest

abbrev pub invariant-loop-rest : goal.invariant-loop-rest
invariant-loop-rest l = record {
  rules : IsTrue (list_all is_region l.rest);
  same : find (λ region. region.enter == l.pc) l.rest ≡ find (λ region. region.enter == l.pc) l.regions;
}
