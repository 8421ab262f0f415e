-- What a turn of a guest with regions needs: the ranges whose bytes pass lie inside guest memory.
use Rattle.std.specs.Prelude.{◌≡◌, ℕ, List, Bool, true, Option, Some, None, option_copied}
use Rattle.std.specs.List.{list_all}
use Rattle.flow_base.specs.Guests.{is_inside}
use Rattle.rv32im_machine.specs.State.{State}
use Rattle.enclosure_regions.specs.declared.region_parts.Range.{Range}
use Rattle.enclosure_regions.specs.declared.region_parts.Region.{Region}
use Rattle.enclosure_regions.specs.Regions.{is_region}
use Rattle.enclosure_regions.specs.Turns.{start_of}
use Rattle.region_machine.specs.declared.kinds.GuestTurn.{GuestTurn}
use Rattle.region_machine.specs.declared.kinds.GuestTurn.TheVariants.{Enters as SeenEnters, Leaves as SeenLeaves}
use Rattle.region_machine.specs.declared.kinds.GuestTurn.TheVariants.{Steps as SeenSteps}
use Rattle.region_machine.specs.Enclosures.{Kind, Enters, Leaves, Steps, region_numbered}

-- the kind of turn that is seen
abbrev pub seen : GuestTurn → Kind
seen (SeenEnters region) = Enters region.now
seen (SeenLeaves region) = Leaves region.now
seen (SeenSteps region) = Steps (option_copied region)

-- the region of the turn, if there is one, keeps the rules of a region
abbrev pub has_rules : Kind → Bool
has_rules (Enters region) = is_region region
has_rules (Leaves region) = is_region region
has_rules (Steps None) = true
has_rules (Steps (Some region)) = is_region region

-- each range is inside guest memory, whose lowest address is the base, where these are the registers at the entry
abbrev pub are_inside : List Range → List ℕ → ℕ → Bool
are_inside ranges registers base =
    list_all (λ range. is_inside base (start_of registers range) range.length) ranges

-- if the turn is a leave, the ranges are inside where these registers were kept
abbrev pub can_leave : Kind → List ℕ → ℕ → Bool
can_leave (Enters region) kept base = true
can_leave (Leaves region) kept base = are_inside region.ranges kept base
can_leave (Steps region) kept base = true

-- the same at an entry, by the registers
abbrev pub can_skip : Kind → List ℕ → ℕ → Bool
can_skip (Enters region) registers base = are_inside region.ranges registers base
can_skip (Leaves region) registers base = true
can_skip (Steps region) registers base = true

abbrev pub may_leave_of : Option Region → List ℕ → ℕ → Bool
may_leave_of None kept base = true
may_leave_of (Some region) kept base = are_inside region.ranges kept base

-- the ranges of the entered region, if there is one, are inside guest memory, so that it can be left
abbrev pub may_leave : List Region → State → Bool
may_leave regions state =
    may_leave_of (region_numbered regions state.control.region) state.store.kept state.setting.base

-- what outputs that pass, registers that are put back and places that are cleared leave as they are
abbrev pub Stays : State → State → Type 0
Stays before after =
    (after.setting ≡ before.setting) × (after.control ≡ before.control) × (after.store.kept ≡ before.store.kept)
