use Rattle.std.proofs.Common.{◌≡◌, ◌+◌, ◌*◌, ◌≤◌, length, take}
use Rattle.rv32im_machine.specs.Standing.{with_memory}
use Rattle.kept_states.specs.Keeping.{memory_byte}
use Rattle.kept_states.specs.Laids.{LaidBelow}
use Rattle.kept_states.proofs.settling.settle_page.Given as goal

abbrev pub invariant-loop-place : goal.invariant-loop-place
invariant-loop-place l = record {
  laid : l.laid ≤ length l.laids;
  below : LaidBelow l.pieces (take l.laid l.laids) (l.page * 16 + l.place) (memory_byte l.machine);
  same : l.machine ≡ with_memory l.machine.store.memory l.fn.machine;
}
