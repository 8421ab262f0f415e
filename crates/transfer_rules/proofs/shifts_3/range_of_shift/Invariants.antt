use Rattle.std.proofs.Common.{◌≡◌}
use Rattle.rv32im_decode.specs.Operations.{op_result}
use Rattle.transfer_rules.specs.Shifts3.{in_some}
use Rattle.transfer_rules.specs.Table1.{flipped}
use Rattle.transfer_rules.specs.Table2.{least, greatest}
use Rattle.transfer_rules.proofs.shifts_3.range_of_shift.Given as goal

abbrev pub invariant-loop-amount : goal.invariant-loop-amount
invariant-loop-amount l = record {
  ones : l.ones ≡ in_some l.operands (λ n. op_result l.shift (greatest l.operands.v1 l.operands.m1) n) l.amount;
  zeros : l.zeros ≡ in_some l.operands (λ n. flipped (op_result l.shift (least l.operands.v1 l.operands.m1) n)) l.amount;
}
