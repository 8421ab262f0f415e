use Rattle.shadow_masks.specs.Pages.{AreClean, page_label}
use Rattle.shadow_masks.proofs.pages.Page.is_clean.Given as goal

abbrev pub invariant-loop-offset : goal.invariant-loop-offset
invariant-loop-offset l = AreClean (page_label l.self) l.place l.offset
