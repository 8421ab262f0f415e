use Rattle.std.proofs.Common.{arith}
use Rattle.transfer_rules.proofs.Bounds.{between, le_by_bits}
use Rattle.piece_cells.proofs.telling.tell_less.Goals as goal

pub returns-then-most-eq0 : goal.returns-then-most-eq0
returns-then-most-eq0 c = λ one other p h k less.
    let most = between c.args.second.mask c.args.second.value other (omega arith) (omega arith) k in
    absurd (omega (arith, le_by_bits _ _ most.to, c.greatest-most.ensures, c.if-most-eq0.true, less))

pub returns : goal.returns
returns c = λ one other p h k less.
    let most = between c.args.second.mask c.args.second.value other (omega arith) (omega arith) k in
    c.both.ensures one other
    (c.told.ensures one p h (c.above.ensures one (omega (arith, le_by_bits _ _ most.to, c.greatest-most.ensures, less)))) k
