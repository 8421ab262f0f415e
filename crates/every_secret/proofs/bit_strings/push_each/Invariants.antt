use Rattle.std.proofs.Common.{◌≡◌, ◌++◌, take}
use Rattle.every_secret.proofs.bit_strings.push_each.Given as goal

abbrev pub invariant-loop-bit : goal.invariant-loop-bit
invariant-loop-bit l = record {
  bits : l.string.bits ≡ l.fn.string.bits ++ take l.bit-index l.bits;
  taken : l.string.taken ≡ l.fn.string.taken;
}
