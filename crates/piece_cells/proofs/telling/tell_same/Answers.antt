use Rattle.std.proofs.Common.{arith}
use Rattle.piece_cells.proofs.Tellings.{under_known}
use Rattle.piece_cells.proofs.telling.tell_same.Goals as goal

pub returns : goal.returns
returns c = λ word p h k.
    c.both.ensures word word
    (c.told.ensures word p h (under_known c.args.second.mask c.args.second.value word (omega arith) k))
    (c.told-2.ensures word p k (under_known c.args.first.mask c.args.first.value word (omega arith) h))
