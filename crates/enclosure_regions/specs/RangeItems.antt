-- The ranges of a region file.
use Rattle.std.specs.Prelude.{ℕ, ◌&&◌, ◌||◌, nat_le, Bool, List, [], ◌∷◌, ◌++◌, codes, length, sum_by, Option, Some}
use Rattle.std.specs.Prelude.{None, option_map, option_and_then, if◌then◌else◌}
use Rattle.std.specs.Str.{bytes_eq}
use Rattle.serde_json.specs.Data.{Data, null, boolean, number, string, array, object, Items, no_items, item}
use Rattle.serde_json.specs.Find.{as_array, get}
use Rattle.enclosure_regions.specs.declared.region_parts.Range.{Range}
use Rattle.enclosure_regions.specs.Shapes.{has_keys, number_within, register_at, word_at}

abbrev pub is_range_key : List ℕ → Bool
is_range_key key = bytes_eq key (codes "base") || (bytes_eq key (codes "offset") || bytes_eq key (codes "length"))

-- a register name, or null, or left out
abbrev pub base_at : Data → Option (Option ℕ)
base_at null = Some None
base_at (boolean b) = option_map Some (register_at (boolean b))
base_at (number n) = option_map Some (register_at (number n))
base_at (string s) = option_map Some (register_at (string s))
base_at (array items) = option_map Some (register_at (array items))
base_at (object members) = option_map Some (register_at (object members))

abbrev pub base_if : Option Data → Option (Option ℕ)
base_if None = Some None
base_if (Some d) = base_at d

-- an offset, 0 where it is left out
abbrev pub offset_if : Option Data → Option ℕ
offset_if None = Some 0
offset_if (Some d) = word_at d

abbrev pub length_if : Option Data → Option ℕ
length_if d = option_and_then (number_within 1 65536) d

-- a range of these parts, where each is there
abbrev pub with_length : Option ℕ → ℕ → Option ℕ → Option Range
with_length base offset None = None
with_length base offset (Some count) = Some (record { base = base; offset = offset; length = count })

abbrev pub with_offset : Option ℕ → Option ℕ → Option ℕ → Option Range
with_offset base None count = None
with_offset base (Some offset) count = with_length base offset count

abbrev pub with_base : Option (Option ℕ) → Option ℕ → Option ℕ → Option Range
with_base None offset count = None
with_base (Some base) offset count = with_offset base offset count

-- an object with a length and, if wanted, an offset and a base
abbrev pub range_at : Data → Option Range
range_at d =
    if has_keys is_range_key d
    then with_base (base_if (get (codes "base") d)) (offset_if (get (codes "offset") d))
    (length_if (get (codes "length") d))
    else None

-- the ranges of the items after those found
abbrev pub ranges_onto : List Range → Items → Option (List Range)
ranges_onto found no_items = Some found
ranges_onto found (item d items) = option_and_then (λ range. ranges_onto (found ++ range ∷ []) items) (range_at d)

-- at most 64 ranges, of at most 65,536 bytes together
abbrev pub few : List Range → Option (List Range)
few ranges =
    if nat_le (length ranges) 64 && nat_le (sum_by (λ range. range.length) ranges) 65536 then Some ranges else None

abbrev pub ranges_at : Data → Option (List Range)
ranges_at d = option_and_then few (option_and_then (ranges_onto []) (as_array d))

-- ranges that may be left out
abbrev pub ranges_if : Option Data → Option (List Range)
ranges_if None = Some []
ranges_if (Some d) = ranges_at d
