use Rattle.std.proofs.Common.{◌≡◌, ◌+◌, false}
use Rattle.kept_states.specs.Keeping.{mask_byte}
use Rattle.kept_states.specs.Laids.{AreZeros}
use Rattle.kept_states.proofs.quiet_pages.is_one_set.Given as goal

abbrev pub invariant-loop-place : goal.invariant-loop-place
invariant-loop-place l = l.set ≡ false → AreZeros (mask_byte l.shadow) l.page (l.page + l.place)
