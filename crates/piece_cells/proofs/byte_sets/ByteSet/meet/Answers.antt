use Rattle.piece_cells.proofs.ByteSets.{meet_holds}
use Rattle.piece_cells.proofs.byte_sets.ByteSet.meet.Goals as goal

pub returns : goal.returns
returns c = meet_holds c.args.self.now.words c.args.other.words
