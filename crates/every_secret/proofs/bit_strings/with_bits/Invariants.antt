use Rattle.std.proofs.Common.{◌≡◌, ◌++◌, length}
use Rattle.every_secret.proofs.bit_strings.with_bits.Given as goal

abbrev pub decreases-loop-part : goal.decreases-loop-part
decreases-loop-part l = length l.part

abbrev pub invariant-loop-part : goal.invariant-loop-part
invariant-loop-part l = record {
  bits : l.string.bits ++ l.part ≡ l.bits;
  taken : l.string.taken ≡ 0;
}
