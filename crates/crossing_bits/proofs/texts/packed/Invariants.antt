use Rattle.std.proofs.Common.{◌≡◌}
use Rattle.crossing_bits.specs.HexText.{first_bytes}
use Rattle.crossing_bits.proofs.texts.packed.Given as goal

abbrev pub invariant-loop-index : goal.invariant-loop-index
invariant-loop-index l = l.bytes.items ≡ first_bytes l.index l.bits
