use Rattle.std.proofs.Common.{◌≡◌, ◌-◌, ◌*◌, ◌≤◌, length, take}
use Rattle.rv32im_machine.specs.Standing.{with_memory}
use Rattle.kept_states.specs.Keeping.{memory_byte}
use Rattle.kept_states.specs.Laids.{LaidBelow}
use Rattle.kept_states.proofs.settling.settle_memory.Given as goal

abbrev pub invariant-loop-page : goal.invariant-loop-page
invariant-loop-page l = record {
  done : l.done ≤ length l.laids;
  most : l.page ≤ 4096;
  below : LaidBelow l.pieces (take l.done l.laids) (l.page * 16) (memory_byte l.machine);
  same : l.machine ≡ with_memory l.machine.store.memory l.fn.machine;
}

abbrev pub decreases-loop-page : goal.decreases-loop-page
decreases-loop-page l = 4096 - l.page
