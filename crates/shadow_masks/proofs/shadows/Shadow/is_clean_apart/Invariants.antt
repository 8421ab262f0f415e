use Rattle.shadow_masks.specs.Pages.{AreClean}
use Rattle.shadow_masks.specs.Shades.{byte_label}
use Rattle.shadow_masks.proofs.shadows.Shadow.is_clean_apart.Given as goal

abbrev pub invariant-loop-offset : goal.invariant-loop-offset
invariant-loop-offset l = AreClean (byte_label l.self) l.address l.offset
