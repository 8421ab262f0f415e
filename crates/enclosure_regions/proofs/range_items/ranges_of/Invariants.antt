use Rattle.std.proofs.Common.{◌≡◌, [], length, IsTrue}
use Rattle.std.specs.List.{list_all}
use Rattle.serde_json.specs.View.{items_view}
use Rattle.enclosure_regions.specs.RangeItems.{ranges_onto}
use Rattle.enclosure_regions.specs.Regions.{is_range}
use Rattle.enclosure_regions.proofs.range_items.ranges_of.Given as goal

abbrev pub decreases-loop-rest : goal.decreases-loop-rest
decreases-loop-rest l = length l.rest

abbrev pub invariant-loop-rest : goal.invariant-loop-rest
invariant-loop-rest l = record {
  same : ranges_onto l.found (items_view l.rest) ≡ ranges_onto [] (items_view l.items);
  ranges : IsTrue (list_all is_range l.found);
}
