-- The least declaration of the regions of a run.
use Rattle.std.specs.Prelude.{◌≡◌, ◌≤◌, ℕ, ◌+◌, ◌&&◌, not, Bool, List, [], ◌∷◌, map, None}
use Rattle.std.specs.List.{AllByRecursion, filter, list_any}
use Rattle.enclosure_regions.specs.declared.region_parts.Range.{Range}
use Rattle.enclosure_regions.specs.declared.region_parts.Region.{Region}
use Rattle.enclosure_regions.specs.declared.break_kinds.Place.TheVariants.{Reg, Byte}
use Rattle.enclosure_regions.specs.Breaks.{has_byte}
use Rattle.enclosure_regions.specs.Orders.{all_registers}
use Rattle.region_learn.specs.Written.{Run, Written, Changed, bare}

-- one of the ranges, which have no base, has the byte at an address
abbrev pub have_byte : List Range → ℕ → Bool
have_byte ranges address = list_any (λ range. has_byte range.offset range.length address) ranges

-- ranges without a base, each of a byte at least, ascending from a lowest address on; between two of them is a byte of
-- neither, so each is of greatest length
abbrev pub AreSpread : ℕ → List Range → Type 0
AreSpread lowest [] = Unit {0}
AreSpread lowest (range ∷ ranges) =
    (range.base ≡ None) × (lowest ≤ range.offset) × (1 ≤ range.length)
    × AreSpread (range.offset + range.length + 1) ranges

-- the written registers that had their value of the entry at every leave
abbrev pub is_kept : Run → ℕ → ℕ → Bool
is_kept run number register = Written run number (Reg register) && not (Changed run number register)

-- the other written registers
abbrev pub is_out : Run → ℕ → ℕ → Bool
is_out run number register = Written run number (Reg register) && Changed run number register

-- what a region declares is what the run writes inside it
pub record IsLearnt (run : Run) (region : Region) : Type 0 where
  pub keep : region.keep ≡ filter (is_kept run region.id) all_registers
  pub outs : region.outs ≡ filter (is_out run region.id) all_registers
  pub spread : AreSpread 0 region.ranges
  pub bytes : (address : ℕ) → have_byte region.ranges address ≡ Written run region.id (Byte address)

-- Learnt: the regions of the run, each with the least declaration
pub record Learnt (run : Run) (regions : List Region) : Type 0 where
  pub same : map bare regions ≡ run.regions
  pub each : AllByRecursion (IsLearnt run) regions
