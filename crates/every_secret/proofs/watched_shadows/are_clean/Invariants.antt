use Rattle.std.proofs.Common.{◌≡◌, ◌<◌, ℕ}
use Rattle.shadow_masks.specs.Labels.{clean}
use Rattle.shadow_masks.specs.Shades.{register_label}
use Rattle.every_secret.proofs.watched_shadows.are_clean.Given as goal

abbrev pub invariant-loop-register : goal.invariant-loop-register
invariant-loop-register l = (register : ℕ) → register < l.register → register_label l.shadow register ≡ clean
