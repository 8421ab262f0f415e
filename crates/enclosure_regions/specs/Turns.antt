-- What kind of turn a guest with regions makes, and where the ranges of a region start.
use Rattle.std.specs.Prelude.{ℕ, ◌+◌, ◌%◌, ◌^◌, ◌==◌, Bool, false, List, slice_get, slice_index, Option, Some, None}
use Rattle.std.specs.Prelude.{if◌then◌else◌}
use Rattle.std.specs.List.{position_from}
use Rattle.enclosure_regions.specs.declared.region_parts.Range.{Range}
use Rattle.enclosure_regions.specs.declared.region_parts.Region.{Region}
use Rattle.enclosure_regions.specs.declared.turn_kinds.TurnKind.{TurnKind}
use Rattle.enclosure_regions.specs.declared.turn_kinds.TurnKind.TheVariants.{Enter, Leave, Step}

-- a region, if any, is left at this address
abbrev pub is_left_at : Option Region → ℕ → Bool
is_left_at None pc = false
is_left_at (Some region) pc = region.leave == pc

abbrev pub entry_at : Option ℕ → TurnKind
entry_at None = Step
entry_at (Some place) = Enter place

-- the leave where a region is entered and pc is its leave address; the entry where none is entered and pc is an enter
-- address; else a step
abbrev pub turn_kind : List Region → Option ℕ → ℕ → TurnKind
turn_kind regions (Some place) pc = if is_left_at (slice_get regions place) pc then Leave else Step
turn_kind regions None pc = entry_at (position_from (λ region. region.enter == pc) 0 regions)

-- the value of a base register, or 0
abbrev pub base_value : List ℕ → Option ℕ → ℕ
base_value registers None = 0
base_value registers (Some register) = slice_index registers register

-- where a range starts: at the value of its base register, if any, plus its offset, modulo 2^32
abbrev pub start_of : List ℕ → Range → ℕ
start_of registers range = (base_value registers range.base + range.offset) % 2 ^ 32
