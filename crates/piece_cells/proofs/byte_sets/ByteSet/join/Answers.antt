use Rattle.piece_cells.proofs.ByteSets.{join_first, join_second}
use Rattle.piece_cells.proofs.byte_sets.ByteSet.join.Goals as goal

pub returns-clause-first : goal.returns-clause-first
returns-clause-first c = join_first c.args.self.now.words c.args.other.words

pub returns-clause-second : goal.returns-clause-second
returns-clause-second c = join_second c.args.self.now.words c.args.other.words
