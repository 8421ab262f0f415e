use Rattle.std.proofs.Common.{arith}
use Rattle.std.proofs.Math.Nat.{pow-le-pow_right}
use Rattle.every_secret.proofs.numbers.power.Goals as goal

pub returns-then-bits-ge64-clause-none : goal.returns-then-bits-ge64-clause-none
returns-then-bits-ge64-clause-none c = pow-le-pow_right {n = 2} (omega arith) {i = 64} {j = c.args.bits} (omega arith)
