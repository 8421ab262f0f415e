use Rattle.std.proofs.Common.{arith}
use Rattle.piece_cells.proofs.Covers.{covers_first, covers_second}
use Rattle.piece_cells.proofs.covering.cover.Goals as goal

pub returns-clause-first : goal.returns-clause-first
returns-clause-first c = λ word.
    covers_first c.args.first.mask c.args.second.mask c.args.first.value c.args.second.value word
    (omega arith) (omega arith) (omega arith) (omega arith)

pub returns-clause-second : goal.returns-clause-second
returns-clause-second c = λ word.
    covers_second c.args.first.mask c.args.second.mask c.args.first.value c.args.second.value word
    (omega arith) (omega arith) (omega arith) (omega arith)
