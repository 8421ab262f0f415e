-- Which turn a replay makes: it skips a region in place of its run, and tests of what breaks a region the ranges alone.
use Rattle.std.specs.Prelude.{ℕ, List, Option, Some, None, if◌then◌else◌}
use Rattle.rv32im_machine.specs.State.{State}
use Rattle.rv32im_machine.specs.Language.{Walk, turn_walk}
use Rattle.rv32im_machine.specs.Rows.{walk_of}
use Rattle.enclosure_regions.specs.declared.region_parts.Region.{Region}
use Rattle.enclosure_regions.specs.Breaks.{outside_range}
use Rattle.region_machine.specs.Enclosures.{Enclosures, Kind, Enters, Leaves, Steps, is_skipped, kind_of}
use Rattle.region_machine.specs.Guests.{entry, leave, skip}
use Rattle.replay_machine.specs.declared.outsides.Outside.{Outside as TheOutside}

-- the turn of a region's entry in a replay: it skips the region, or enters it
abbrev pub entry_walk : Enclosures → Region → State → Walk
entry_walk enclosures region state =
    if is_skipped enclosures region then turn_walk state (skip region state.store.registers state.control)
    else turn_walk state (entry region state.control)

abbrev pub replay_kind_walk : Enclosures → Kind → State → Walk
replay_kind_walk enclosures (Enters region) state = entry_walk enclosures region state
replay_kind_walk enclosures (Leaves region) state = turn_walk state (leave region state.store.kept state.control)
replay_kind_walk enclosures (Steps region) state = walk_of state

-- the turn of a replay: a skip, an entry, a leave or a step
abbrev pub replay_walk : Enclosures → State → Walk
replay_walk enclosures state = replay_kind_walk enclosures (kind_of enclosures.regions state.control) state

-- ---- the ranges

-- a range, counted from 0, of the region with this number
abbrev pub Outside : Type 0
Outside = TheOutside

abbrev pub outside_of : Region → Option ℕ → Option Outside
outside_of region None = None
outside_of region (Some range) = Some (record { region = region.id; range = range })

abbrev pub kind_outside_range : Kind → State → Option Outside
kind_outside_range (Enters region) state =
    outside_of region (outside_range region state.store.registers state.setting.base)
kind_outside_range (Leaves region) state = None
kind_outside_range (Steps region) state = None

-- the first range that is not inside guest memory at the entry, where the turn is an entry
abbrev pub range_outside : List Region → State → Option Outside
range_outside regions state = kind_outside_range (kind_of regions state.control) state
