use Rattle.std.proofs.Common.{◌≡◌, ◌≤◌, IsTrue, length}
use Rattle.std.specs.Prelude.{max}
use Rattle.elf32_loader.specs.Segments.{are_inside}
use Rattle.rv32im_machine.specs.Start.{top_of}
use Rattle.rv32im_machine.proofs.starting.highest_end.Given as goal

abbrev pub invariant-loop-rest : goal.invariant-loop-rest
invariant-loop-rest l = record {
  inside : IsTrue (are_inside l.base l.rest);
  below : l.top ≤ 0xfffff000;
  top : max l.top (top_of l.rest) ≡ top_of l.segments;
}

abbrev pub decreases-loop-rest : goal.decreases-loop-rest
decreases-loop-rest l = length l.rest
