use Rattle.std.proofs.Common.{◌≡◌, ℕ, arith, rules, sym, ap, ap₂, ◌∙◌}
use Rattle.std.specs.Prelude.{bit_and}
use Rattle.rv32im_decode.specs.Operations.{op_result}
use Rattle.transfer_rules.specs.Shifts3.{in_some}
use Rattle.transfer_rules.specs.Table1.{flipped}
use Rattle.transfer_rules.specs.Table2.{least, greatest}
use Rattle.transfer_rules.proofs.ShiftRanges.{one_amount, amounts_none, taken_step, skipped_step}
use Rattle.transfer_rules.proofs.shifts_3.range_of_shift.Goals as goal
use Rattle.transfer_rules.proofs.shifts_3.range_of_shift.Goals.{then-may_shift_by, else-may_shift_by}

pub returns-then-m2-eq0 : goal.returns-then-m2-eq0
returns-then-m2-eq0 c =
    c.result.ensures ∙ one_amount c.args.operands c.args.shift (search rules) c.requires c.if-m2-eq0.true

pub loop-amount-init : goal.loop-amount-init
loop-amount-init c =
    let o = c.args.operands in
    record {
      ones = sym (amounts_none o (λ n. op_result c.args.shift (greatest o.v1 o.m1) n));
      zeros = sym (amounts_none o (λ n. flipped (op_result c.args.shift (least o.v1 o.m1) n)));
    }

pub loop-amount-preserved : goal.loop-amount-preserved
loop-amount-preserved c =
    let o = c.args.operands in
    let most = λ (n : ℕ). op_result c.args.shift (greatest o.v1 o.m1) n in
    let fewest = λ (n : ℕ). flipped (op_result c.args.shift (least o.v1 o.m1) n) in
    elim c.if-may_shift_by.branch [
      | then-may_shift_by w ↦ record {
        ones = w.ones-is ∙ taken_step o most c.loop-amount.amount c.loop-amount.ones w.result-ones.result
            (sym c.may_shift_by.ensures ∙ w.if-may_shift_by.true) c.loop-amount.invariant.ones w.result-ones.ensures;
        zeros = w.zeros-is ∙ taken_step o fewest c.loop-amount.amount c.loop-amount.zeros _
            (sym c.may_shift_by.ensures ∙ w.if-may_shift_by.true) c.loop-amount.invariant.zeros
            (ap flipped w.result-then-may_shift_by.ensures);
      }
      | else-may_shift_by w ↦ record {
        ones = w.ones-is ∙ skipped_step o most c.loop-amount.amount c.loop-amount.ones
            (sym c.may_shift_by.ensures ∙ w.if-may_shift_by.false) c.loop-amount.invariant.ones;
        zeros = w.zeros-is ∙ skipped_step o fewest c.loop-amount.amount c.loop-amount.zeros
            (sym c.may_shift_by.ensures ∙ w.if-may_shift_by.false) c.loop-amount.invariant.zeros;
      }
    ]

pub returns : goal.returns
returns c =
    let o = c.args.operands in
    let all : c.loop-amount.amount ≡ 32 = omega arith in
    ap₂ bit_and
    (c.loop-amount.invariant.ones
    ∙ ap (in_some o (λ n. op_result c.args.shift (greatest o.v1 o.m1) n)) all)
    (c.loop-amount.invariant.zeros
    ∙ ap (in_some o (λ n. flipped (op_result c.args.shift (least o.v1 o.m1) n))) all)
