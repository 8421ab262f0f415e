use Rattle.std.proofs.Common.{◌≡◌, ◌≤◌, ◌-◌, ◌++◌, replicate, false}
use Rattle.every_secret.proofs.visits.lengthen.Given as goal

abbrev pub invariant-loop : goal.invariant-loop
invariant-loop l = record {
  within : l.counter - l.left ≤ l.count - l.left;
  taken : l.bits.taken ≡ l.initial.bits.taken;
  grown : l.bits.bits ≡ l.initial.bits.bits ++ replicate (l.counter - l.left) false;
}
