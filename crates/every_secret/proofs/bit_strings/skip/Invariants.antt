use Rattle.std.proofs.Common.{◌≡◌, ◌+◌}
use Rattle.every_secret.proofs.bit_strings.skip.Given as goal

abbrev pub invariant-loop : goal.invariant-loop
invariant-loop l = record {
  bits : l.bits.bits ≡ l.fn.bits.bits;
  taken : l.bits.taken ≡ l.fn.bits.taken + l.counter;
}
