-- Regions of a program, and the rules that a list of them keeps.
use Rattle.std.specs.Prelude.{ℕ, ◌%◌, ◌^◌, ◌==◌, ◌&&◌, nat_le, nat_lt, not, Bool, true, List, [], ◌∷◌, length, map}
use Rattle.std.specs.Prelude.{sum_by, Option, Some, None}
use Rattle.std.specs.List.{list_all}
use Rattle.enclosure_regions.specs.declared.region_parts.Range.{Range}
use Rattle.enclosure_regions.specs.declared.region_parts.Region.{Region}
use Rattle.flow_base.specs.Listed.{is_listed}
use Rattle.flow_base.specs.Points.{is_region_number}

-- each number of the list is greater than the one before it, and the first greater than this one
abbrev pub ascends_above : ℕ → List ℕ → Bool
ascends_above lowest [] = true
ascends_above lowest (number ∷ numbers) = nat_lt lowest number && ascends_above number numbers

-- no number stands twice
abbrev pub are_distinct : List ℕ → Bool
are_distinct [] = true
are_distinct (number ∷ numbers) = not (is_listed numbers number) && are_distinct numbers

-- the registers that a region may name are x1 to x31
abbrev pub is_register : ℕ → Bool
is_register register = nat_le 1 register && nat_le register 31

-- registers, ascending
abbrev pub are_registers : List ℕ → Bool
are_registers registers = list_all is_register registers && ascends_above 0 registers

-- no register of the one list stands in the other
abbrev pub are_apart : List ℕ → List ℕ → Bool
are_apart outs keep = list_all (λ register. not (is_listed keep register)) outs

abbrev pub is_base_register : Option ℕ → Bool
is_base_register None = true
is_base_register (Some register) = is_register register

-- a range has from 1 to 65,536 bytes
abbrev pub is_range : Range → Bool
is_range range =
    is_base_register range.base
    && (nat_lt range.offset (2 ^ 32) && (nat_le 1 range.length && nat_le range.length 65536))

-- at most 64 ranges, of at most 65,536 bytes together
abbrev pub are_ranges : List Range → Bool
are_ranges ranges =
    list_all is_range ranges && (nat_le (length ranges) 64 && nat_le (sum_by (λ range. range.length) ranges) 65536)

-- the address of an instruction
abbrev pub is_code_address : ℕ → Bool
is_code_address address = nat_lt address (2 ^ 32) && (address % 4 == 0)

abbrev pub is_region : Region → Bool
is_region region =
    is_region_number region.id
    && (is_code_address region.enter && (is_code_address region.leave && (not (region.enter == region.leave)
    && (are_registers region.outs && (are_registers region.keep && (are_apart region.outs region.keep
    && are_ranges region.ranges))))))

abbrev pub ids_of : List Region → List ℕ
ids_of regions = map (λ region. region.id) regions

abbrev pub enters_of : List Region → List ℕ
enters_of regions = map (λ region. region.enter) regions

-- at most 256 regions, whose numbers and whose enter addresses are distinct
abbrev pub are_regions : List Region → Bool
are_regions regions =
    nat_le (length regions) 256
    && (list_all is_region regions && (are_distinct (ids_of regions) && are_distinct (enters_of regions)))
