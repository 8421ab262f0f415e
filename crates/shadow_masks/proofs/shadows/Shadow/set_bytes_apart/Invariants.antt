use Rattle.shadow_masks.specs.Pages.{listed_label}
use Rattle.shadow_masks.specs.Shades.{SetsBytes}
use Rattle.shadow_masks.proofs.shadows.Shadow.set_bytes_apart.Given as goal

abbrev pub invariant-loop-offset : goal.invariant-loop-offset
invariant-loop-offset l = SetsBytes l.address l.offset (listed_label l.labels) l.fn.self l.self
