use Rattle.std.proofs.Common.{◌≡◌, map, take}
use Rattle.region_learn.specs.Written.{bare}
use Rattle.region_learn.proofs.learning.bare_items.Given as goal

abbrev pub invariant-loop-region : goal.invariant-loop-region
invariant-loop-region l = l.items ≡ map bare (take l.region-index l.regions)
