use Rattle.std.proofs.Common.{arith}
use Rattle.transfer_rules.proofs.Bounds.{between, le_by_bits}
use Rattle.piece_cells.proofs.telling.tell_not_less.Goals as goal

pub returns : goal.returns
returns c = λ one other p h k within.
    let most = between c.args.first.mask c.args.first.value one (omega arith) (omega arith) h in
    c.both.ensures one other h
    (c.told.ensures other p k (c.above.ensures other (omega (arith, le_by_bits _ _ most.to, c.greatest.ensures, within))))
