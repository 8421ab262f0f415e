use Rattle.std.proofs.Common.{◌≡◌, ◌++◌, map, take}
use Rattle.std.specs.String.{string_bytes}
use Rattle.graph_rows.specs.Rows.{half_letter}
use Rattle.graph_rows.proofs.flows.rows.push_points.Given as goal

abbrev pub invariant-loop-half : goal.invariant-loop-half
invariant-loop-half l = string_bytes l.text ≡ string_bytes l.initial.text ++ map half_letter
    (take l.half-index l.points)
