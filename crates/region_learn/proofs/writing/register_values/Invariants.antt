use Rattle.std.proofs.Common.{◌≡◌, map, take}
use Rattle.serde_json.specs.View.{view}
use Rattle.region_learn.specs.RegionTexts.{register_data}
use Rattle.region_learn.proofs.writing.register_values.Given as goal

abbrev pub invariant-loop-register : goal.invariant-loop-register
invariant-loop-register l = map view l.values.items ≡ map register_data (take l.register-index l.registers)
