use Rattle.std.proofs.Common.{◌∙◌}
use Rattle.shadow_masks.proofs.Steps.{clean_are_register_labels, each_clean, is_new}
use Rattle.shadow_masks.proofs.shadows.Shadow.new_in.Goals as goal

pub invariant_of-result : goal.invariant_of-result
invariant_of-result c = (
  clean_are_register_labels _ (each_clean _ c.clean_labels.ensures),
  clean_are_register_labels _ (each_clean _ c.clean_labels-2.ensures),
  c.give_back_pages.ensures.length ∙ c.place.invariant.2,
  c.requires,
  c.fill.ensures.len ∙ c.place.invariant.4,
  λ number unset. c.give_back_pages.ensures.none number,
)

pub returns : goal.returns
returns c =
    is_new c.args.base _ _ _ (each_clean _ c.clean_labels.ensures) (each_clean _ c.clean_labels-2.ensures)
    c.give_back_pages.ensures.none
