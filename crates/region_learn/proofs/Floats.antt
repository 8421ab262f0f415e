-- No number of a region is a float.
use Rattle.std.proofs.Common.{◌≡◌, ℕ, List, [], ◌∷◌, Option, Some, None, false, map, refl}
use Rattle.serde_json.specs.View.{items_of}
use Rattle.serde_json.specs.Data.{Members}
use Rattle.serde_json.specs.Written.{has_float, items_have_float, members_have_float}
use Rattle.enclosure_regions.specs.declared.region_parts.Range.{Range}
use Rattle.enclosure_regions.specs.declared.region_parts.Region.{Region}
use Rattle.region_learn.specs.RegionTexts.{range_data, region_data, register_data, regions_data, with_base}

registers_whole : (registers : List ℕ) → items_have_float (items_of (map register_data registers)) ≡ false
registers_whole [] = refl
registers_whole (register ∷ registers) = registers_whole registers

base_whole : (base : Option ℕ) (rest : Members) → members_have_float rest ≡ false →
    members_have_float (with_base base rest) ≡ false
base_whole None rest h = h
base_whole (Some register) rest h = h

ranges_whole : (ranges : List Range) → items_have_float (items_of (map range_data ranges)) ≡ false
ranges_whole [] = refl
ranges_whole (range ∷ ranges) = rw (base_whole range.base _ refl, ranges_whole ranges) refl

one_whole : (region : Region) → has_float (region_data region) ≡ false
one_whole region = rw (registers_whole region.keep, registers_whole region.outs, ranges_whole region.ranges) refl

each_whole : (regions : List Region) → items_have_float (items_of (map region_data regions)) ≡ false
each_whole [] = refl
each_whole (region ∷ regions) = rw (one_whole region, each_whole regions) refl

pub all_whole : (regions : List Region) → has_float (regions_data regions) ≡ false
all_whole regions = rw (each_whole regions) refl
