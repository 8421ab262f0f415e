-- The marks by which an address at which no region is entered is known.
use Rattle.std.specs.Prelude.{List, Bool}
use Rattle.enclosure_regions.specs.declared.region_parts.Region.{Region}
use Rattle.region_machine.specs.AddressMarks.{has_mark}

-- the enter address of the region is marked
abbrev pub is_marked : List Bool → Region → Bool
is_marked marks region = has_mark marks region.enter
