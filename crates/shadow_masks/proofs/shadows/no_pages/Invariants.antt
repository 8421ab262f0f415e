use Rattle.std.proofs.Common.{◌≡◌, ℕ, None, length}
use Rattle.shadow_masks.specs.Shades.{page_at}
use Rattle.shadow_masks.proofs.shadows.no_pages.Given as goal

abbrev pub invariant-loop : goal.invariant-loop
invariant-loop l = (length l.pages.items ≡ l.counter) × ((number : ℕ) → page_at l.pages.items number ≡ None)
