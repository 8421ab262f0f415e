use Rattle.shadow_masks.proofs.Steps.{sets_bytes_after}
use Rattle.shadow_masks.proofs.shadows.Shadow.set_bytes_apart.Goals as goal

pub loop-offset-preserved : goal.loop-offset-preserved
loop-offset-preserved c = sets_bytes_after _ c.listed.ensures.label c.loop-offset.invariant c.in_ok-set_byte.ensures.ok
