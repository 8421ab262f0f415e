-- Regions as the text of a region file: one object of JSON whose keys ascend, without blanks, and a line feed. An address
-- is 0x and eight digits in lower case, a register is x and its number.
use Rattle.std.specs.Prelude.{ℕ, List, ◌++◌, codes, map, Option, Some, None}
use Rattle.std.specs.Fmt.{decimal}
use Rattle.serde_json.specs.Data.{Data, unsigned, number, string, array, object, Members, member, no_members}
use Rattle.serde_json.specs.View.{items_of}
use Rattle.serde_json.specs.Written.{compact_text}
use Rattle.flow_base.specs.HexWords.{hex_word}
use Rattle.enclosure_regions.specs.declared.region_parts.Range.{Range}
use Rattle.enclosure_regions.specs.declared.region_parts.Region.{Region}

abbrev pub whole : ℕ → Data
whole n = number (unsigned n)

abbrev pub address_data : ℕ → Data
address_data address = string (hex_word address)

abbrev pub register_data : ℕ → Data
register_data register = string (codes "x" ++ decimal register)

abbrev pub registers_data : List ℕ → Data
registers_data registers = array (items_of (map register_data registers))

-- in front of the members of a range: its base, if it has one
abbrev pub with_base : Option ℕ → Members → Members
with_base None members = members
with_base (Some register) members = member (codes "base") (register_data register) members

abbrev pub range_data : Range → Data
range_data range =
    object (with_base range.base (member (codes "length") (whole range.length)
    (member (codes "offset") (whole range.offset) no_members)))

abbrev pub ranges_data : List Range → Data
ranges_data ranges = array (items_of (map range_data ranges))

abbrev pub region_data : Region → Data
region_data region =
    object (member (codes "enter") (address_data region.enter)
    (member (codes "id") (whole region.id)
    (member (codes "keep") (registers_data region.keep)
    (member (codes "leave") (address_data region.leave)
    (member (codes "outs") (registers_data region.outs)
    (member (codes "ranges") (ranges_data region.ranges) no_members))))))

abbrev pub regions_data : List Region → Data
regions_data regions = object (member (codes "regions") (array (items_of (map region_data regions))) no_members)

abbrev pub regions_text : List Region → List ℕ
regions_text regions = compact_text (regions_data regions) ++ codes "\n"
