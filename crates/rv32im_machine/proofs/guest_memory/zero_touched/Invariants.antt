use Rattle.std.proofs.Common.{◌≡◌, ◌*◌, length}
use Rattle.flow_base.specs.Guests.{memory_size}
use Rattle.rv32im_machine.specs.GuestMemory.{AreZeroBelow, AreZeroUntouched}
use Rattle.rv32im_machine.proofs.guest_memory.zero_touched.Given as goal

abbrev pub invariant-loop-page : goal.invariant-loop-page
invariant-loop-page l = record {
  length : length l.bytes ≡ memory_size;
  untouched : AreZeroUntouched l.touched l.bytes;
  below : AreZeroBelow (l.page * 4096) l.bytes;
}
