use Rattle.std.proofs.Common.{◌<◌, arith}
use Rattle.transfer_rules.proofs.Bounds.{between, le_by_bits}
use Rattle.piece_cells.proofs.telling.may_be_negative.Goals as goal

pub returns : goal.returns
returns c = λ word has is.
    let most = between c.args.bits.mask c.args.bits.value word (omega arith) (omega arith) has in
    let below : c.greatest.result < 2147483648 = grind (arith, is) in
    omega (arith, le_by_bits _ _ most.to, c.greatest.ensures, below)
