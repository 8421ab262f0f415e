-- The text that is written for regions reads as their data.
use Rattle.std.proofs.Common.{◌≡◌, ◌≤◌, ℕ, List, [], ◌∷◌, ◌++◌, Option, Some, None, map, codes, IsUtf8}
use Rattle.std.proofs.Common.{subst, sym, arith}
use Rattle.json.specs.Lex.{tokens}
use Rattle.json.specs.Print.{print}
use Rattle.serde_json.specs.Data.{Data, Members, member, no_members, depth, items_depth, members_depth}
use Rattle.serde_json.specs.Read.{max_depth, read}
use Rattle.serde_json.specs.View.{items_of}
use Rattle.serde_json.specs.Written.{IsInOrder}
use Rattle.enclosure_regions.specs.Reading.{ReadsAs}
use Rattle.enclosure_regions.specs.declared.region_parts.Range.{Range}
use Rattle.enclosure_regions.specs.declared.region_parts.Region.{Region}
use Rattle.region_learn.specs.RegionTexts.{range_data, region_data, register_data, regions_data, whole, with_base}
use Rattle.region_learn.proofs.LineFeed.{line_feed_reads}

-- ---- how deep the data of regions nests

registers_shallow : (registers : List ℕ) → items_depth (items_of (map register_data registers)) ≤ 0
registers_shallow [] = omega arith
registers_shallow (register ∷ registers) = omega (arith, registers_shallow registers)

base_shallow : (base : Option ℕ) (rest : Members) → members_depth rest ≤ 0 →
    members_depth (with_base base rest) ≤ 0
base_shallow None rest h = h
base_shallow (Some register) rest h = omega (arith, h)

one_range_shallow : (range : Range) → depth (range_data range) ≤ 1
one_range_shallow range =
    let rest = member (codes "length") (whole range.length) (member (codes "offset") (whole range.offset) no_members) in
    let shallow : members_depth rest ≤ 0 = omega arith in
    omega (arith, base_shallow range.base rest shallow)

ranges_shallow : (ranges : List Range) → items_depth (items_of (map range_data ranges)) ≤ 1
ranges_shallow [] = omega arith
ranges_shallow (range ∷ ranges) = omega (arith, one_range_shallow range, ranges_shallow ranges)

one_region_shallow : (region : Region) → depth (region_data region) ≤ 3
one_region_shallow region =
    omega (arith, registers_shallow region.keep, registers_shallow region.outs, ranges_shallow region.ranges)

each_shallow : (regions : List Region) → items_depth (items_of (map region_data regions)) ≤ 3
each_shallow [] = omega arith
each_shallow (region ∷ regions) = omega (arith, one_region_shallow region, each_shallow regions)

pub regions_shallow : (regions : List Region) → depth (regions_data regions) ≤ max_depth
regions_shallow regions = omega (arith, each_shallow regions)

-- ---- what is written reads back

-- s is the compact text of d, the data of the regions
pub written_reads : (s : List ℕ) (d : Data) (regions : List Region) → d ≡ regions_data regions → IsUtf8 s →
    s ≡ print (tokens s) → IsInOrder s d → (depth d ≤ max_depth → read s ≡ Some d) →
    ReadsAs (s ++ codes "\n") (regions_data regions)
written_reads s d regions same utf8 compact order back =
    subst (ReadsAs (s ++ codes "\n")) same
    (line_feed_reads s d compact order
    (utf8, back (subst (λ e. depth e ≤ max_depth) (sym same) (regions_shallow regions))))
