-- What the instructions inside the regions of a run write, whatever the regions declare.
use Rattle.std.specs.Prelude.{ℕ, zero, suc, ◌==◌, ◌&&◌, ◌||◌, Bool, true, false, List, [], Some}
use Rattle.flow_base.specs.declared.points.Slot.{Slot}
use Rattle.flow_base.specs.declared.points.Slot.TheVariants.{Number}
use Rattle.rv32im_machine.specs.declared.language.Place.{Place as MachinePlace}
use Rattle.rv32im_machine.specs.declared.language.Place.TheVariants.{Register, Byte as MachineByte}
use Rattle.rv32im_machine.specs.declared.language.Aim.{Aim}
use Rattle.rv32im_machine.specs.declared.language.Aim.TheVariants.{Put, Decide, Give}
use Rattle.rv32im_machine.specs.State.{State}
use Rattle.rv32im_machine.specs.Language.{Walk, Looked, Passed, Moved, Saved, Restored, Ended}
use Rattle.rv32im_machine.specs.Folds.{real_end}
use Rattle.rv32im_machine.specs.Rows.{walk_of}
use Rattle.enclosure_regions.specs.declared.region_parts.Region.{Region}
use Rattle.enclosure_regions.specs.declared.break_kinds.Place.{Place}
use Rattle.enclosure_regions.specs.declared.break_kinds.Place.TheVariants.{Reg, Byte}
use Rattle.enclosure_regions.specs.Breaks.{has_changed}
use Rattle.region_machine.specs.Enclosures.{Kind, Enters, Leaves, Steps, kind_of}
use Rattle.region_machine.specs.Guests.{guest_walk}

-- ---- the run

-- a region by its number and its addresses alone
abbrev pub bare : Region → Region
bare region = record region { outs = []; keep = []; ranges = [] }

-- regions, the state in which a guest starts, and how many turns it makes at most
pub record Run : Type 0 where
  pub regions : List Region
  pub start : State
  pub turns : ℕ

-- the state after so many turns; whether a turn breaks a region is not asked
unfoldable pub state_after : List Region → ℕ → State → State
state_after regions zero start = start
state_after regions (suc turns) start = real_end (guest_walk regions (state_after regions turns start))

-- one of the first so many turns is made from a state that passes a test
unfoldable pub some_turn : (State → Bool) → List Region → ℕ → State → Bool
some_turn test regions zero start = false
some_turn test regions (suc turns) start = some_turn test regions turns start || test (state_after regions turns start)

-- ---- writes

abbrev pub is_written_place : Place → MachinePlace → Bool
is_written_place (Reg register) (Register other) = other == register
is_written_place (Byte address) (MachineByte other) = other == address
is_written_place place other = false

abbrev pub puts_into : Place → Aim → Bool
puts_into place (Put other) = is_written_place place other
puts_into place Decide = false
puts_into place (Give other) = false

-- a turn in which every value goes on as it is writes to a place, be it the value that is there
unfoldable pub walk_writes : Place → Walk → Bool
walk_writes place (Looked seen value walk) = walk_writes place walk
walk_writes place (Passed passing go) = puts_into place passing.aim || walk_writes place (go passing.value)
walk_writes place (Moved other shape source value walk) = is_written_place place other || walk_writes place walk
walk_writes place (Saved walk) = walk_writes place walk
walk_writes place (Restored registers walk back) = walk_writes place walk
walk_writes place (Ended state) = false

-- the turn is an instruction inside the region with a number
abbrev pub is_step_in : ℕ → Kind → Bool
is_step_in number (Steps (Some region)) = region.id == number
is_step_in number kind = false

-- the turn of a state is an instruction inside the region with a number and writes to a place
abbrev pub writes_in : List Region → ℕ → Place → State → Bool
writes_in regions number place state =
    is_step_in number (kind_of regions state.control) && walk_writes place (walk_of state)

-- Written: an instruction inside the region with a number writes to the place in one of the first so many turns
abbrev pub Written : Run → ℕ → Place → Bool
Written run number place = some_turn (writes_in run.regions number place) run.regions run.turns run.start

-- ---- registers at the leave

abbrev pub is_leave_of : ℕ → Kind → Bool
is_leave_of number (Enters region) = false
is_leave_of number (Leaves region) = region.id == number
is_leave_of number (Steps inside) = false

-- the turn of a state leaves the region with a number while a register has not its value at the entry
abbrev pub leaves_changed : List Region → ℕ → ℕ → State → Bool
leaves_changed regions number register state =
    is_leave_of number (kind_of regions state.control)
    && has_changed state.store.kept state.store.registers register

-- the region with a number is left in one of the first so many turns while the register has not its value at the entry
abbrev pub Changed : Run → ℕ → ℕ → Bool
Changed run number register = some_turn (leaves_changed run.regions number register) run.regions run.turns run.start

-- ---- calls

-- a call passes its number first
abbrev pub is_number_slot : Slot → Bool
is_number_slot Number = true
is_number_slot slot = false

-- a turn in which every value goes on as it is is a call
unfoldable pub walk_calls : Walk → Bool
walk_calls (Looked seen value walk) = walk_calls walk
walk_calls (Passed passing go) = is_number_slot passing.point.slot || walk_calls (go passing.value)
walk_calls (Moved other shape source value walk) = walk_calls walk
walk_calls (Saved walk) = walk_calls walk
walk_calls (Restored registers walk back) = walk_calls walk
walk_calls (Ended state) = false
