use Rattle.std.proofs.Common.{◌≡◌, ◌+◌, [], length, IsTrue}
use Rattle.serde_json.specs.View.{items_view}
use Rattle.enclosure_regions.specs.Reading.{regions_onto}
use Rattle.enclosure_regions.specs.Regions.{are_regions}
use Rattle.enclosure_regions.proofs.item_lists.regions_of.Given as goal

abbrev pub decreases-loop-rest : goal.decreases-loop-rest
decreases-loop-rest l = length l.rest

abbrev pub invariant-loop-rest : goal.invariant-loop-rest
invariant-loop-rest l = record {
  counted : length l.found + length l.rest ≡ length l.items;
  rules : IsTrue (are_regions l.found);
  same : regions_onto l.found (items_view l.rest) ≡ regions_onto [] (items_view l.items);
}
