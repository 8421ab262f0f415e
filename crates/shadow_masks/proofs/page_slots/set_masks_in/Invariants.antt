use Rattle.shadow_masks.specs.Pages.{label_in, SetsPlaces}
use Rattle.shadow_masks.specs.Pieces.{listed_mask}
use Rattle.shadow_masks.proofs.page_slots.set_masks_in.Given as goal

abbrev pub invariant-loop-offset : goal.invariant-loop-offset
invariant-loop-offset l = SetsPlaces l.place l.offset (listed_mask l.masks) (label_in l.fn.page) (label_in l.page)
