use Rattle.std.proofs.Common.{◌≡◌, ◌++◌, drop}
use Rattle.std.specs.Prelude.{map}
use Rattle.cut_file.specs.declared.lines.Line.TheVariants.{Point}
use Rattle.cut_file.specs.Texts.{lines_text}
use Rattle.cut_file.proofs.writing.put_points.Given as goal

abbrev pub invariant-loop-point : goal.invariant-loop-point
invariant-loop-point l =
    l.text.items ++ lines_text l.version (map Point (drop l.point-index l.points)) ≡ l.fn.text.items
    ++ lines_text l.version (map Point l.points)
