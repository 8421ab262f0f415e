use Rattle.std.proofs.Common.{◌≡◌, map, take}
use Rattle.serde_json.specs.View.{view}
use Rattle.region_learn.specs.RegionTexts.{range_data}
use Rattle.region_learn.proofs.writing.range_values.Given as goal

abbrev pub invariant-loop-range : goal.invariant-loop-range
invariant-loop-range l = map view l.values.items ≡ map range_data (take l.range-index l.ranges)
