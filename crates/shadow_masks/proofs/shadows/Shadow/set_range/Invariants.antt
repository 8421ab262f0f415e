use Rattle.shadow_masks.specs.Shades.{SetsRange}
use Rattle.shadow_masks.proofs.shadows.Shadow.set_range.Given as goal

abbrev pub invariant-loop-offset : goal.invariant-loop-offset
invariant-loop-offset l = SetsRange l.address l.offset l.label l.fn.self l.self
