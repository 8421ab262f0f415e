-- The turns of a guest with regions: the rows of an entry, a leave and a skip, and which turn a state makes.
use Rattle.std.specs.Prelude.{ℕ, zero, suc, ◌+◌, List, [], ◌∷◌, Option, Some, None}
use Rattle.flow_base.specs.declared.points.Point.{Point}
use Rattle.flow_base.specs.declared.points.Slot.{Slot}
use Rattle.flow_base.specs.declared.points.Slot.TheVariants.{OutReg, OutRange}
use Rattle.rv32im_machine.specs.declared.language.Place.TheVariants.{Register, Byte}
use Rattle.rv32im_machine.specs.declared.language.Source.TheVariants.{Constant}
use Rattle.rv32im_machine.specs.declared.language.Shape.TheVariants.{Copied}
use Rattle.rv32im_machine.specs.declared.language.Seen.TheVariants.{Base}
use Rattle.rv32im_machine.specs.State.{Control, State, entered, moved_to}
use Rattle.rv32im_machine.specs.Language.{Turn, Looks, Gives, Moves, Saves, Restores, Ends, Walk, turn_walk}
use Rattle.rv32im_machine.specs.Rows.{walk_of}
use Rattle.enclosure_regions.specs.declared.region_parts.Range.{Range}
use Rattle.enclosure_regions.specs.declared.region_parts.Region.{Region}
use Rattle.enclosure_regions.specs.Turns.{start_of}
use Rattle.region_machine.specs.Enclosures.{Kind, Enters, Leaves, Steps, kind_of}

-- ---- the entry

abbrev pub looks_at : Option ℕ → Turn → Turn
looks_at None turn = turn
looks_at (Some register) turn = Looks (Base register) (λ value. turn)

-- a look at each base register of the ranges, in order
unfoldable pub looks : List Range → Turn → Turn
looks [] turn = turn
looks (range ∷ ranges) turn = looks_at range.base (looks ranges turn)

-- the base registers are looked at and every register is kept
abbrev pub entry : Region → Control → Turn
entry region control = looks region.ranges (Saves (Ends (entered region.id control)))

-- ---- the outputs

-- the point of an output has the region's number and its leave address
abbrev pub output_point : Region → Slot → Point
output_point region slot = record { region = region.id; address = region.leave; slot = slot }

unfoldable pub gives_registers : Region → List ℕ → Turn → Turn
gives_registers region [] turn = turn
gives_registers region (register ∷ registers) turn =
    Gives (output_point region (OutReg register)) (Register register) (gives_registers region registers turn)

-- so many bytes from an address on, those of the range with this number
unfoldable pub gives_bytes : Region → ℕ → ℕ → ℕ → Turn → Turn
gives_bytes region number address zero turn = turn
gives_bytes region number address (suc count) turn =
    Gives (output_point region (OutRange number)) (Byte address) (gives_bytes region number (address + 1) count turn)

-- the ranges start where the registers at the entry say; the first of these has this number
unfoldable pub gives_ranges : Region → List ℕ → ℕ → List Range → Turn → Turn
gives_ranges region registers number [] turn = turn
gives_ranges region registers number (range ∷ ranges) turn =
    gives_bytes region number (start_of registers range) range.length
    (gives_ranges region registers (number + 1) ranges turn)

-- the output registers and then the bytes of the ranges pass their points, ascending, and what goes on is put back
abbrev pub gives : Region → List ℕ → Turn → Turn
gives region registers turn = gives_registers region region.outs (gives_ranges region registers 0 region.ranges turn)

-- ---- the leave

-- a replay puts the kept registers back, and then the outputs pass; the region is left
abbrev pub leave : Region → List ℕ → Control → Turn
leave region registers control = Restores region.keep (gives region registers (Ends (entered 0 control)))

-- ---- the skip

unfoldable pub clears_registers : List ℕ → Turn → Turn
clears_registers [] turn = turn
clears_registers (register ∷ registers) turn =
    Moves (Register register) Copied (Constant 0) (clears_registers registers turn)

unfoldable pub clears_bytes : ℕ → ℕ → Turn → Turn
clears_bytes address zero turn = turn
clears_bytes address (suc count) turn = Moves (Byte address) Copied (Constant 0) (clears_bytes (address + 1) count turn)

unfoldable pub clears_ranges : List ℕ → List Range → Turn → Turn
clears_ranges registers [] turn = turn
clears_ranges registers (range ∷ ranges) turn =
    clears_bytes (start_of registers range) range.length (clears_ranges registers ranges turn)

-- every output becomes 0, and then the outputs pass; the replay goes on at the leave address
abbrev pub skip : Region → List ℕ → Control → Turn
skip region registers control =
    clears_registers region.outs (clears_ranges registers region.ranges
    (gives region registers (Ends (moved_to region.leave control))))

-- ---- which turn a state makes

abbrev pub kind_walk : Kind → State → Walk
kind_walk (Enters region) state = turn_walk state (entry region state.control)
kind_walk (Leaves region) state = turn_walk state (leave region state.store.kept state.control)
kind_walk (Steps region) state = walk_of state

-- the turn of a guest: an entry, a leave or a step
abbrev pub guest_walk : List Region → State → Walk
guest_walk regions state = kind_walk (kind_of regions state.control) state
