use Rattle.std.proofs.Common.{eq-eqb, arith}
use Rattle.piece_cells.proofs.Covers.{none_differs}
use Rattle.piece_cells.proofs.cells.Bits.has.Goals as goal

pub returns : goal.returns
returns c = λ has. eq-eqb _ 0 (none_differs c.args.self.mask c.args.self.value c.args.word (omega arith) (omega arith) (omega arith) has)
