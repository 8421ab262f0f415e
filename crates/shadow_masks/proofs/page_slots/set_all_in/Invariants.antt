use Rattle.shadow_masks.specs.Pages.{label_in, listed_label, SetsPlaces}
use Rattle.shadow_masks.proofs.page_slots.set_all_in.Given as goal

abbrev pub invariant-loop-offset : goal.invariant-loop-offset
invariant-loop-offset l = SetsPlaces l.place l.offset (listed_label l.labels) (label_in l.fn.page) (label_in l.page)
