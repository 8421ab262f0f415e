use Rattle.std.proofs.Common.{◌≡◌, map, take}
use Rattle.base_rows.specs.Rows.{spelled_byte}
use Rattle.base_rows.proofs.texts.bytes_of.Given as goal

abbrev pub invariant-loop-byte : goal.invariant-loop-byte
invariant-loop-byte l = l.text.items ≡ map spelled_byte (take l.byte-index l.row)
