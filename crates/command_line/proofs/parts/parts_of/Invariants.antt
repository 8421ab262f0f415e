use Rattle.std.proofs.Common.{◌≡◌, map, string_bytes, drop}
use Rattle.command_line.specs.Parts.{parts_of, parts_onto}
use Rattle.command_line.specs.Words.{parts_in}
use Rattle.command_line.proofs.parts.parts_of.Given as goal

abbrev pub invariant-loop-word : goal.invariant-loop-word
invariant-loop-word l =
    parts_onto (parts_in l.parts) (map string_bytes (drop l.word-index l.words)) ≡ parts_of (map string_bytes l.words)
