use Rattle.std.proofs.Common.{◌≡◌, ◌++◌, ℕ, drop}
use Rattle.std.specs.Prelude.{map}
use Rattle.cut_file.specs.declared.lines.Line.TheVariants.{Skip}
use Rattle.cut_file.specs.Texts.{lines_text}
use Rattle.cut_file.proofs.writing.put_regions.Given as goal

abbrev pub invariant-loop-region : goal.invariant-loop-region
invariant-loop-region l =
    (version : ℕ) → l.text.items ++ lines_text version (map Skip (drop l.region-index l.regions)) ≡ l.fn.text.items
    ++ lines_text version (map Skip l.regions)
