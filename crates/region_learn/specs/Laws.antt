-- What holds of all runs.
use Rattle.std.specs.Prelude.{◌≡◌, List}
use Rattle.enclosure_regions.specs.declared.region_parts.Region.{Region}
use Rattle.region_learn.specs.Learnt.{Learnt}
use Rattle.region_learn.specs.Written.{Run}

-- a run has one least declaration at most
abbrev pub OneDeclaration : Type 0
OneDeclaration =
    (run : Run) (first second : List Region) → Learnt run first → Learnt run second → first ≡ second
