use Rattle.std.proofs.Common.{[], sym, arith}
use Rattle.crossing_bits.proofs.Places.{patched_by_zero, half_bound, patched_step_even, patched_empty}
use Rattle.every_secret.proofs.visits.+cleared.Goals as goal

pub returns-then-mask-eq0 : goal.returns-then-mask-eq0
returns-then-mask-eq0 t c = rw c.if-mask-eq0.true (sym (patched_by_zero c.args.value [] (omega arith)))

pub overflow_mul-result : goal.overflow_mul-result
overflow_mul-result t c =
    omega (arith, c.cleared-rest.ensures, half_bound c.args.value c.args.mask [] (omega arith) (omega arith))

pub overflow_add-result : goal.overflow_add-result
overflow_add-result t c =
    omega (arith, c.cleared-rest.ensures, half_bound c.args.value c.args.mask [] (omega arith) (omega arith))

pub returns-then-mask-eq0-2 : goal.returns-then-mask-eq0-2
returns-then-mask-eq0-2 t c =
    rw c.cleared-rest.ensures
    (sym (patched_step_even c.args.value c.args.mask [] (omega arith) (omega arith) c.if-mask-eq0-2.true))

pub overflow_mul-result-2 : goal.overflow_mul-result-2
overflow_mul-result-2 t c =
    omega (arith, c.cleared-rest.ensures, half_bound c.args.value c.args.mask [] (omega arith) (omega arith))

pub returns : goal.returns
returns t c =
    rw c.cleared-rest.ensures
    (patched_empty c.args.value c.args.mask [] (omega arith) (omega arith) c.if-mask-eq0-2.false (omega arith))
