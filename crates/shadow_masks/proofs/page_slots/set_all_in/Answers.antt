use Rattle.shadow_masks.specs.Pages.{label_in, listed_label}
use Rattle.shadow_masks.proofs.Steps.{sets_places_next}
use Rattle.shadow_masks.proofs.page_slots.set_all_in.Goals as goal

pub loop-offset-preserved : goal.loop-offset-preserved
loop-offset-preserved c =
    sets_places_next c.args.place c.loop-offset.offset (listed_label c.args.labels.now) (label_in c.args.page.now)
    (label_in c.loop-offset.page) (label_in c.set_in.new.page) c.listed.result c.listed.ensures.label
    c.loop-offset.invariant c.in_ok-set_in.ensures.ok
