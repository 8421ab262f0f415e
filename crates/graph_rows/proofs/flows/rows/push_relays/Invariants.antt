use Rattle.std.proofs.Common.{◌≡◌, ◌++◌, map, take}
use Rattle.std.specs.String.{string_bytes}
use Rattle.graph_rows.specs.Rows.{relay_letter}
use Rattle.graph_rows.proofs.flows.rows.push_relays.Given as goal

abbrev pub invariant-loop-inside : goal.invariant-loop-inside
invariant-loop-inside l = string_bytes l.text ≡ string_bytes l.initial.text ++ map relay_letter
    (take l.inside-index l.relays)
