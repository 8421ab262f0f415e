use Rattle.std.proofs.Common.{◌≡◌, IsTrue, length}
use Rattle.elf32_loader.specs.Segments.{are_inside}
use Rattle.rv32im_machine.specs.Start.{laid}
use Rattle.rv32im_machine.proofs.starting.lay_segments.Given as goal

abbrev pub invariant-loop-rest : goal.invariant-loop-rest
invariant-loop-rest l = record {
  inside : IsTrue (are_inside l.base l.rest);
  laid : laid l.base l.rest l.memory ≡ laid l.base l.segments l.initial.memory;
}

abbrev pub decreases-loop-rest : goal.decreases-loop-rest
decreases-loop-rest l = length l.rest
