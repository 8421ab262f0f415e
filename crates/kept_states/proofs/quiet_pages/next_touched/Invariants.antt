use Rattle.std.proofs.Common.{◌-◌, ◌≤◌}
use Rattle.kept_states.specs.Keeping.{memory_byte}
use Rattle.kept_states.specs.Laids.{AreZeros}
use Rattle.kept_states.proofs.quiet_pages.next_touched.Given as goal

abbrev pub invariant-loop-page : goal.invariant-loop-page
invariant-loop-page l = record {
  from : l.from ≤ l.page;
  most : l.page ≤ 4096;
  zeros : AreZeros (memory_byte l.machine) l.from l.page;
}

abbrev pub decreases-loop-page : goal.decreases-loop-page
decreases-loop-page l = 4096 - l.page
