use Rattle.shadow_masks.proofs.Steps.{clean_are_register_labels, each_clean, is_new}
use Rattle.shadow_masks.proofs.shadows.Shadow.new.Goals as goal

pub invariant_of-result : goal.invariant_of-result
invariant_of-result c = (
  clean_are_register_labels _ (each_clean _ c.clean_labels.ensures),
  clean_are_register_labels _ (each_clean _ c.clean_labels-2.ensures),
  c.in_ok-no_pages.ensures.length,
  c.requires,
  c.in_ok-none_set.ensures,
  λ number unset. c.in_ok-no_pages.ensures.none number,
)

pub returns : goal.returns
returns c =
    is_new c.args.base _ _ _ (each_clean _ c.clean_labels.ensures) (each_clean _ c.clean_labels-2.ensures)
    c.in_ok-no_pages.ensures.none
