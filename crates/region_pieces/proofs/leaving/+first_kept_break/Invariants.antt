use Rattle.std.proofs.Common.{length}
use Rattle.region_pieces.proofs.leaving.+first_kept_break.Given as goal

abbrev pub decreases-first_kept_break : goal.decreases-first_kept_break
decreases-first_kept_break g l = length l.registers.now
