-- What holds of all region files: each has one answer.
use Rattle.std.specs.Prelude.{◌≡◌, ℕ, List}
use Rattle.enclosure_regions.specs.declared.region_parts.Region.{Region}
use Rattle.enclosure_regions.specs.declared.region_faults.RegionFault.{RegionFault}
use Rattle.enclosure_regions.specs.Reading.{FirstRegionFault, Spells}

-- a file spells one list of regions at most
abbrev pub FilesAreOne : Type 0
FilesAreOne = (file : List ℕ) (first second : List Region) → Spells file first → Spells file second → first ≡ second

-- a file has one first fault at most
abbrev pub FaultsAreOne : Type 0
FaultsAreOne =
    (file : List ℕ) (first second : RegionFault)
    → FirstRegionFault file first → FirstRegionFault file second → first ≡ second

-- a file that spells regions has none
abbrev pub SpelledHaveNoFault : Type 0
SpelledHaveNoFault =
    (file : List ℕ) (regions : List Region) (fault : RegionFault) → Spells file regions → ¬ FirstRegionFault file fault
