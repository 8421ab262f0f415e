-- What breaks a region, each as a function of the region and of registers and addresses.
use Rattle.std.specs.Prelude.{ℕ, ◌+◌, ◌==◌, ◌&&◌, ◌||◌, nat_le, nat_lt, not, Bool, List, slice_index, Option, Some}
use Rattle.std.specs.Prelude.{None, option_map, if◌then◌else◌}
use Rattle.std.specs.List.{find, list_any, position_from}
use Rattle.flow_base.specs.Guests.{is_inside}
use Rattle.enclosure_regions.specs.declared.region_parts.Region.{Region}
use Rattle.enclosure_regions.specs.declared.break_kinds.Break.{Break}
use Rattle.enclosure_regions.specs.declared.break_kinds.Break.TheVariants.{UndeclaredWrite, KeepBroken, CallInRegion}
use Rattle.enclosure_regions.specs.declared.break_kinds.Break.TheVariants.{RangeOutside}
use Rattle.enclosure_regions.specs.declared.break_kinds.Place.TheVariants.{Reg, Byte}
use Rattle.enclosure_regions.specs.Turns.{start_of}
use Rattle.flow_base.specs.Listed.{is_listed}

-- ---- writes

-- the region declares a register among its outputs or its kept registers; a write to x0 is none
abbrev pub declares_register : Region → ℕ → Bool
declares_register region register =
    (register == 0) || (is_listed region.outs register || is_listed region.keep register)

-- a range that starts there has the byte
abbrev pub has_byte : ℕ → ℕ → ℕ → Bool
has_byte start count address = nat_le start address && nat_lt address (start + count)

-- a range of the region, by the registers at its entry, has the byte
abbrev pub declares_byte : Region → List ℕ → ℕ → Bool
declares_byte region registers address =
    list_any (λ range. has_byte (start_of registers range) range.length address) region.ranges

-- the write of a register or of a byte by the instruction at pc, inside the region
abbrev pub register_break : Region → ℕ → ℕ → Option Break
register_break region pc register =
    if declares_register region register then None else Some (UndeclaredWrite region.id pc (Reg register))

abbrev pub byte_break : Region → List ℕ → ℕ → ℕ → Option Break
byte_break region registers pc address =
    if declares_byte region registers address then None else Some (UndeclaredWrite region.id pc (Byte address))

-- ---- the leave

-- a register whose values at the entry and now differ
abbrev pub has_changed : List ℕ → List ℕ → ℕ → Bool
has_changed before after register = not (slice_index before register == slice_index after register)

-- the lowest kept register whose values at the entry and now differ; the kept registers ascend
abbrev pub changed_register : Region → List ℕ → List ℕ → Option ℕ
changed_register region before after = find (λ register. has_changed before after register) region.keep

abbrev pub register_changed : Region → List ℕ → List ℕ → ℕ → Break
register_changed region before after register =
    KeepBroken region.id register (slice_index before register) (slice_index after register)

abbrev pub keep_break : Region → List ℕ → List ℕ → Option Break
keep_break region before after =
    option_map (register_changed region before after) (changed_register region before after)

-- ---- calls

-- each call inside the region
abbrev pub call_break : Region → ℕ → Option Break
call_break region pc = Some (CallInRegion region.id pc)

-- ---- the entry

-- the first range that is not inside guest memory, counted from 0
abbrev pub outside_range : Region → List ℕ → ℕ → Option ℕ
outside_range region registers base =
    position_from (λ range. not (is_inside base (start_of registers range) range.length)) 0 region.ranges

abbrev pub range_break : Region → List ℕ → ℕ → Option Break
range_break region registers base =
    option_map (λ range. RangeOutside region.id range) (outside_range region registers base)
