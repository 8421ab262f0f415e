use Rattle.std.proofs.Common.{length}
use Rattle.kept_states.proofs.bytes.mix_bytes.Given as goal

abbrev pub decreases-loop-part : goal.decreases-loop-part
decreases-loop-part l = length l.part
