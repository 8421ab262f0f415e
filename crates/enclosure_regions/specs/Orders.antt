-- Registers in order, and registers that stand twice.
use Rattle.std.specs.Prelude.{ℕ, ◌+◌, ◌==◌, nat_le, Bool, List, [], ◌∷◌, count_by, Option}
use Rattle.std.specs.List.{filter, find}
use Rattle.enclosure_regions.specs.declared.region_parts.Region.{Region}
use Rattle.flow_base.specs.Listed.{is_listed}

-- the registers that a region may name
unfoldable pub all_registers : List ℕ
all_registers =
    1 ∷ 2 ∷ 3 ∷ 4 ∷ 5 ∷ 6 ∷ 7 ∷ 8 ∷ 9 ∷ 10 ∷ 11 ∷ 12 ∷ 13 ∷ 14 ∷ 15 ∷ 16 ∷ 17 ∷ 18 ∷ 19 ∷ 20 ∷ 21 ∷ 22 ∷ 23 ∷ 24
    ∷ 25 ∷ 26 ∷ 27 ∷ 28 ∷ 29 ∷ 30 ∷ 31 ∷ []

-- those of them that stand in a list, ascending
abbrev pub in_order : List ℕ → List ℕ
in_order registers = filter (λ register. is_listed registers register) all_registers

-- how often a register stands in a list
abbrev pub times : List ℕ → ℕ → ℕ
times registers register = count_by (λ other. other == register) registers

-- a register stands twice in two lists together
abbrev pub stands_twice : List ℕ → List ℕ → ℕ → Bool
stands_twice outs keep register = nat_le 2 (times outs register + times keep register)

-- the lowest register that does
abbrev pub lowest_twice : List ℕ → List ℕ → Option ℕ
lowest_twice outs keep = find (stands_twice outs keep) all_registers

-- a region with its registers in order
abbrev pub ordered : Region → Region
ordered region = record region { outs = in_order region.outs; keep = in_order region.keep }
