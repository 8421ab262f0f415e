use Rattle.std.proofs.Common.{arith}
use Rattle.piece_cells.proofs.Tellings.{told_agrees, none_contradicts}
use Rattle.piece_cells.proofs.telling.told.Goals as goal

pub returns-then-bits-values-ne0 : goal.returns-then-bits-values-ne0
returns-then-bits-values-ne0 c = λ word fits has under.
    c.if-bits-values-ne0.true
    (none_contradicts c.args.bits.mask c.args.under c.args.bits.value c.args.values word (omega arith) (omega arith) has under)

pub returns : goal.returns
returns c = λ word fits has under.
    told_agrees c.args.bits.mask c.args.under c.args.bits.value c.args.values word
    (omega arith) (omega arith) (omega arith) (omega arith) has under
