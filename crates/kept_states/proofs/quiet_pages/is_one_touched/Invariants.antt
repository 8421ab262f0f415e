use Rattle.std.proofs.Common.{◌≡◌, ◌+◌, false}
use Rattle.kept_states.specs.Keeping.{memory_byte}
use Rattle.kept_states.specs.Laids.{AreZeros}
use Rattle.kept_states.proofs.quiet_pages.is_one_touched.Given as goal

abbrev pub invariant-loop-place : goal.invariant-loop-place
invariant-loop-place l = l.touched ≡ false → AreZeros (memory_byte l.machine) l.page (l.page + l.place)
