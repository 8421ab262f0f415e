use Rattle.shadow_masks.proofs.Steps.{sets_bytes_next}
use Rattle.shadow_masks.proofs.shadows.Shadow.set_range.Goals as goal

pub loop-offset-preserved : goal.loop-offset-preserved
loop-offset-preserved c = sets_bytes_next c.loop-offset.invariant c.in_ok-set_byte.ensures.ok
