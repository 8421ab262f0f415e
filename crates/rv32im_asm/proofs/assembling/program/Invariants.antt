use Rattle.std.proofs.Common.{◌≡◌, ◌+◌, ◌≤◌, length, take, drop, Some, Ok}
use Rattle.rv32im_asm.specs.Assembling.{followed, known_places, readings}
use Rattle.rv32im_asm.specs.Lines.{lines_of}
use Rattle.rv32im_asm.specs.Sizes.{total_size}
use Rattle.rv32im_asm.proofs.assembling.program.Given as goal

abbrev pub decreases-loop-rest : goal.decreases-loop-rest
decreases-loop-rest l = length l.rest

abbrev pub invariant-loop-rest : goal.invariant-loop-rest
invariant-loop-rest l = record {
  left : drop l.index (lines_of l.source) ≡ lines_of l.rest;
  here : total_size (take l.index (lines_of l.source)) ≡ Some l.here;
  program : followed (Ok l.program.items)
      (readings (known_places (lines_of l.source)) (lines_of l.source) l.index (lines_of l.rest))
      ≡ readings (known_places (lines_of l.source)) (lines_of l.source) 0 (lines_of l.source);
  size : length l.program.items ≤ l.here;
  fits : l.here ≤ 1048576;
  bound : l.index + length l.rest ≤ length l.source;
}
