use Rattle.std.proofs.Common.{◌≡◌, map, take}
use Rattle.serde_json.specs.View.{view}
use Rattle.region_learn.specs.RegionTexts.{region_data}
use Rattle.region_learn.proofs.writing.region_values.Given as goal

abbrev pub invariant-loop-region : goal.invariant-loop-region
invariant-loop-region l = map view l.values.items ≡ map region_data (take l.region-index l.regions)
