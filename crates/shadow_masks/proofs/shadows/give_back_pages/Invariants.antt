use Rattle.std.proofs.Common.{◌≡◌, ◌<◌, ℕ, None, length}
use Rattle.shadow_masks.specs.Shades.{page_at}
use Rattle.shadow_masks.proofs.shadows.give_back_pages.Given as goal

abbrev pub invariant-loop-number : goal.invariant-loop-number
invariant-loop-number l =
    (length l.pages.items ≡ length l.fn.pages.items)
    × ((number : ℕ) → number < l.number → page_at l.pages.items number ≡ None)
