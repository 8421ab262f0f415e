-- What breaks a region in a turn of a guest.
use Rattle.std.specs.Prelude.{ℕ, List, Option, Some, None}
use Rattle.flow_base.specs.declared.points.Slot.{Slot}
use Rattle.flow_base.specs.declared.points.Slot.TheVariants.{First as FirstSlot, Second as SecondSlot, Address, Result}
use Rattle.flow_base.specs.declared.points.Slot.TheVariants.{Decision, Number, Arg0, Arg1, Arg2, SecretIn, ByteOut}
use Rattle.flow_base.specs.declared.points.Slot.TheVariants.{Status, OutReg, OutRange}
use Rattle.rv32im_machine.specs.declared.language.Place.{Place}
use Rattle.rv32im_machine.specs.declared.language.Place.TheVariants.{Register, Byte, First, Second}
use Rattle.rv32im_machine.specs.declared.language.Aim.{Aim}
use Rattle.rv32im_machine.specs.declared.language.Aim.TheVariants.{Put, Decide, Give}
use Rattle.rv32im_machine.specs.declared.language.Passing.{Passing}
use Rattle.rv32im_machine.specs.State.{State}
use Rattle.rv32im_machine.specs.Language.{Walk, Looked, Passed, Moved, Saved, Restored, Ended}
use Rattle.rv32im_machine.specs.Rows.{walk_of}
use Rattle.enclosure_regions.specs.declared.region_parts.Region.{Region}
use Rattle.enclosure_regions.specs.declared.break_kinds.Break.{Break}
use Rattle.enclosure_regions.specs.Breaks.{register_break, byte_break, call_break, keep_break, range_break}
use Rattle.region_machine.specs.Enclosures.{Kind, Enters, Leaves, Steps, kind_of}
use Rattle.std.specs.Option.{option_or}

-- a write to a place by the instruction at pc; the ranges start where the registers at the entry say
abbrev pub place_break : Region → List ℕ → ℕ → Place → Option Break
place_break region registers pc (Register register) = register_break region pc register
place_break region registers pc (Byte address) = byte_break region registers pc address
place_break region registers pc First = None
place_break region registers pc Second = None

-- a call passes its number first
abbrev pub slot_break : Region → ℕ → Slot → Option Break
slot_break region pc Number = call_break region pc
slot_break region pc FirstSlot = None
slot_break region pc SecondSlot = None
slot_break region pc Address = None
slot_break region pc Result = None
slot_break region pc Decision = None
slot_break region pc Arg0 = None
slot_break region pc Arg1 = None
slot_break region pc Arg2 = None
slot_break region pc SecretIn = None
slot_break region pc ByteOut = None
slot_break region pc Status = None
slot_break region pc (OutReg register) = None
slot_break region pc (OutRange range) = None

-- what passes breaks the region where it is put into a place that is not declared, and where it decides about a call
abbrev pub aim_break : Region → List ℕ → ℕ → Slot → Aim → Option Break
aim_break region registers pc slot (Put place) = place_break region registers pc place
aim_break region registers pc slot Decide = slot_break region pc slot
aim_break region registers pc slot (Give place) = None

abbrev pub passing_break : Region → List ℕ → ℕ → Passing → Option Break
passing_break region registers pc passing = aim_break region registers pc passing.point.slot passing.aim

-- the first break by a turn in which every value goes on as it is
unfoldable pub walk_break : Region → List ℕ → ℕ → Walk → Option Break
walk_break region registers pc (Looked seen value walk) = walk_break region registers pc walk
walk_break region registers pc (Passed passing go) =
    option_or (passing_break region registers pc passing) (walk_break region registers pc (go passing.value))
walk_break region registers pc (Moved place shape source value walk) =
    option_or (place_break region registers pc place) (walk_break region registers pc walk)
walk_break region registers pc (Saved walk) = walk_break region registers pc walk
walk_break region registers pc (Restored registers' walk back) = walk_break region registers pc walk
walk_break region registers pc (Ended state) = None

-- an entry is broken by a range that is not inside guest memory, a leave by a kept register that has changed, and a
-- step inside a region by a call or by a write of what the region does not declare
abbrev pub kind_break : Kind → State → Option Break
kind_break (Enters region) state = range_break region state.store.registers state.setting.base
kind_break (Leaves region) state = keep_break region state.store.kept state.store.registers
kind_break (Steps (Some region)) state = walk_break region state.store.kept state.control.pc (walk_of state)
kind_break (Steps None) state = None

-- Breaks: the first break of a region in the turn of a state, if there is one
abbrev pub Breaks : List Region → State → Option Break
Breaks regions state = kind_break (kind_of regions state.control) state
