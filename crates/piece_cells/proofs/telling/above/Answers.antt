-- What is at most the limit has no bit above it.
use Rattle.std.proofs.Common.{rules}
use Rattle.piece_cells.proofs.Tellings.{above_limit}
use Rattle.piece_cells.proofs.telling.above.Goals as goal

pub returns-else-zeros-eq32 : goal.returns-else-zeros-eq32
returns-else-zeros-eq32 c = λ word within. above_limit c.args.limit word (search rules) within
