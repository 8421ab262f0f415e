use Rattle.std.proofs.Common.{◌≡◌, take}
use Rattle.enclosure_regions.proofs.copying.copy_items.Given as goal

abbrev pub invariant-loop-region : goal.invariant-loop-region
invariant-loop-region l = l.copies ≡ take l.region-index l.all
