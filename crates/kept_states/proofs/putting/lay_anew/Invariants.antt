use Rattle.std.proofs.Common.{◌≡◌, ◌≤◌, length, drop}
use Rattle.rv32im_machine.specs.Standing.{with_memory}
use Rattle.kept_states.specs.Keeping.{AreLaid}
use Rattle.kept_states.proofs.putting.lay_anew.Given as goal

abbrev pub invariant-loop-index : goal.invariant-loop-index
invariant-loop-index l = record {
  inside : l.index ≤ length l.laids;
  memory : AreLaid l.pieces (drop l.index l.laids) l.machine.store.memory;
  same : l.machine ≡ with_memory l.machine.store.memory l.fn.machine;
}

abbrev pub decreases-loop-index : goal.decreases-loop-index
decreases-loop-index l = l.index
