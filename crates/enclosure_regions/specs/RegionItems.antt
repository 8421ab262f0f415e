-- The regions of a region file as they are written.
use Rattle.std.specs.Prelude.{ℕ, ◌&&◌, ◌||◌, Bool, List, codes, Option, Some, None, option_and_then, if◌then◌else◌}
use Rattle.std.specs.List.{list_all}
use Rattle.std.specs.Str.{bytes_eq}
use Rattle.serde_json.specs.Data.{Data}
use Rattle.serde_json.specs.Find.{get}
use Rattle.enclosure_regions.specs.declared.region_parts.Region.{Region}
use Rattle.enclosure_regions.specs.RangeItems.{ranges_if}
use Rattle.enclosure_regions.specs.Regions.{are_ranges, is_code_address, is_register}
use Rattle.enclosure_regions.specs.Shapes.{has_keys, number_within, place_at, registers_if}
use Rattle.flow_base.specs.Points.{is_region_number}

abbrev pub is_region_key : List ℕ → Bool
is_region_key key =
    bytes_eq key (codes "id") || (bytes_eq key (codes "enter") || (bytes_eq key (codes "leave")
    || (bytes_eq key (codes "outs") || (bytes_eq key (codes "keep") || bytes_eq key (codes "ranges")))))

abbrev pub id_if : Option Data → Option ℕ
id_if d = option_and_then (number_within 1 65535) d

abbrev pub place_if : Option Data → Option ℕ
place_if d = option_and_then place_at d

-- what is known of a region as it is written
abbrev pub is_written : Region → Bool
is_written region =
    is_region_number region.id
    && (is_code_address region.enter && (is_code_address region.leave && (list_all is_register region.outs
    && (list_all is_register region.keep && are_ranges region.ranges))))

infixl 10 ◌>>=◌
abbrev pub ◌>>=◌ : {A B : Type 0} → Option A → (A → Option B) → Option B
o >>= f = option_and_then f o

-- an object with a number, two addresses and, if wanted, registers and ranges; the registers in the order of the file
unfoldable pub written_in : Data → Option Region
written_in d =
    if has_keys is_region_key d
    then (do
      id ← id_if (get (codes "id") d)
      enter ← place_if (get (codes "enter") d)
      leave ← place_if (get (codes "leave") d)
      outs ← registers_if (get (codes "outs") d)
      keep ← registers_if (get (codes "keep") d)
      ranges ← ranges_if (get (codes "ranges") d)
      Some (record { id = id; enter = enter; leave = leave; outs = outs; keep = keep; ranges = ranges }))
    else None

-- the part of it after the number and the addresses
unfoldable pub lists_in : ℕ → ℕ → ℕ → Data → Option Region
lists_in id enter leave d = do
  outs ← registers_if (get (codes "outs") d)
  keep ← registers_if (get (codes "keep") d)
  ranges ← ranges_if (get (codes "ranges") d)
  Some (record { id = id; enter = enter; leave = leave; outs = outs; keep = keep; ranges = ranges })

-- what is known of that part
abbrev pub are_lists : Region → Bool
are_lists region =
    list_all is_register region.outs && (list_all is_register region.keep && are_ranges region.ranges)
