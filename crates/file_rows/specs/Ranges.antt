-- The text of a range, in decimal numbers.
use Rattle.std.specs.Prelude.{ℕ, List, Option, Some, None, ◌++◌, codes}
use Rattle.std.specs.Fmt.{decimal}
use Rattle.enclosure_regions.specs.declared.region_parts.Range.{Range}

abbrev pub base_text : Option ℕ → List ℕ
base_text (Some base) = codes "x" ++ (decimal base ++ codes " ")
base_text None = codes ""

abbrev pub range_text : Range → List ℕ
range_text range = base_text range.base ++ (decimal range.offset ++ (codes " " ++ decimal range.length))
