use Rattle.std.proofs.Common.{◌≡◌, ◌<◌, ℕ, None, length}
use Rattle.shadow_masks.specs.Labels.{clean}
use Rattle.shadow_masks.specs.Pages.{label_in}
use Rattle.shadow_masks.specs.Shades.{page_at}
use Rattle.shadow_masks.proofs.mask_pieces.clear_pages.Given as goal

abbrev pub invariant-loop-number : goal.invariant-loop-number
invariant-loop-number l =
    (length l.pages.items ≡ length l.fn.pages.items)
    × ((number : ℕ) → number < l.number → (place : ℕ) → label_in (page_at l.pages.items number) place ≡ clean)
    × ((number : ℕ) → page_at l.fn.pages.items number ≡ None → page_at l.pages.items number ≡ None)
