use Rattle.std.proofs.Common.{ap, ◌∙◌}
use Rattle.shadow_masks.specs.Shades.{Shades}
use Rattle.shadow_masks.proofs.Pieces.{is_cleared}
use Rattle.shadow_masks.proofs.Steps.{clean_are_register_labels, each_clean}
use Rattle.shadow_masks.proofs.shadows.Shadow.clear.Goals as goal

pub invariant_of-self : goal.invariant_of-self
invariant_of-self c = (
  clean_are_register_labels _ (each_clean _ c.clean_labels-registers.ensures),
  clean_are_register_labels _ (each_clean _ c.clean_labels-kept.ensures),
  c.clear_pages.ensures.length ∙ c.self.invariant.2,
  c.self.invariant.3,
  c.self.invariant.4,
  λ number unset. c.clear_pages.ensures.none number (c.self.invariant.5 number unset),
)

pub returns : goal.returns
returns c =
    is_cleared c.args.self.now.base _ (ap (λ (s : Shades). s.base) c.self.view_is) (each_clean _ c.clean_labels-registers.ensures)
    (each_clean _ c.clean_labels-kept.ensures) c.clear_pages.ensures.clean
