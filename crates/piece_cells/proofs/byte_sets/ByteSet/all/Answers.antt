use Rattle.piece_cells.proofs.ByteSets.{all_hold}
use Rattle.piece_cells.proofs.byte_sets.ByteSet.all.Goals as goal

pub returns : goal.returns
returns c = all_hold
