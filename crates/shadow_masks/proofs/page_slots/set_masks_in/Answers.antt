use Rattle.shadow_masks.specs.Pages.{label_in}
use Rattle.shadow_masks.specs.Pieces.{listed_mask}
use Rattle.shadow_masks.proofs.Steps.{sets_places_next}
use Rattle.shadow_masks.proofs.page_slots.set_masks_in.Goals as goal

pub loop-offset-preserved : goal.loop-offset-preserved
loop-offset-preserved c =
    sets_places_next c.args.place c.loop-offset.offset (listed_mask c.args.masks.now) (label_in c.args.page.now)
    (label_in c.loop-offset.page) (label_in c.set_in.new.page) c.label_of_mask.result c.label_of_mask.ensures.label
    c.loop-offset.invariant c.in_ok-set_in.ensures.ok
