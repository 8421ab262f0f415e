-- A monitor of a run: what it holds and what it answers.
use Rattle.std.specs.Prelude.{ℕ, ◌<◌, nat_lt, Bool, true, List, replicate, length, slice_get, Option, Some, None}
use Rattle.std.specs.Prelude.{option_map, option_and_then, Result, Ok, Err}
use Rattle.enclosure_regions.specs.declared.region_parts.Range.{Range}
use Rattle.enclosure_regions.specs.declared.region_parts.Region.{Region}
use Rattle.enclosure_regions.specs.declared.break_kinds.Break.{Break}
use Rattle.enclosure_regions.specs.declared.turn_kinds.TurnKind.{TurnKind}
use Rattle.enclosure_regions.specs.declared.turn_kinds.TurnKind.TheVariants.{Enter, Leave, Step}
use Rattle.enclosure_regions.specs.Breaks.{range_break}
use Rattle.enclosure_regions.specs.Turns.{start_of}

-- the regions; the place of the entered region, if any, counted from 0; the place of the region entered last, 0 before
-- the first entry; and the registers at the last entry, all 0 before it
pub record Watch : Type 0 where
  pub regions : List Region
  pub entered : Option ℕ
  pub last : ℕ
  pub registers : List ℕ

-- nothing is entered yet
abbrev pub new_watch : List Region → Watch
new_watch regions = record { regions = regions; entered = None; last = 0; registers = replicate 32 0 }

-- at the entry of the region at a place
abbrev pub after_entry : Watch → ℕ → List ℕ → Watch
after_entry watch place registers = record watch { entered = Some place; last = place; registers = registers }

-- after the leave
abbrev pub after_leave : Watch → Watch
after_leave watch = record watch { entered = None }

-- the region at a place, if any
abbrev pub region_at : List Region → Option ℕ → Option Region
region_at regions place = option_and_then (λ place. slice_get regions place) place

-- the entered region
abbrev pub entered_region : Watch → Option Region
entered_region watch = region_at watch.regions watch.entered

-- a range of the region entered last, counted from 0
abbrev pub last_range : Watch → ℕ → Option Range
last_range watch range = option_and_then (λ region. slice_get region.ranges range) (slice_get watch.regions watch.last)

-- where that range starts
abbrev pub last_start : Watch → ℕ → Option ℕ
last_start watch range = option_map (start_of watch.registers) (last_range watch range)

-- refused where there is a break
abbrev pub unless_break : Option Break → Result (Unit {0}) Break
unless_break None = Ok tt
unless_break (Some fault) = Err fault

-- what the entered region, if any, breaks
abbrev pub break_of : Watch → (Region → Option Break) → Result (Unit {0}) Break
break_of watch test = unless_break (option_and_then test (entered_region watch))

-- the answer to an entry of the region at a place
abbrev pub entry_answer : Watch → ℕ → List ℕ → ℕ → Result (Unit {0}) Break
entry_answer watch place registers base =
    unless_break (option_and_then (λ region. range_break region registers base) (slice_get watch.regions place))

-- the entered region, if any, is one of the list
abbrev pub is_one_of : List Region → Option ℕ → Bool
is_one_of regions None = true
is_one_of regions (Some place) = nat_lt place (length regions)

-- an entry is that of a region of the list
abbrev pub EntersOneOf : List Region → TurnKind → Type 0
EntersOneOf regions (Enter place) = place < length regions
EntersOneOf regions Leave = Unit {0}
EntersOneOf regions Step = Unit {0}
