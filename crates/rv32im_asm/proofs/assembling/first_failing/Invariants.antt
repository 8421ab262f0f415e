use Rattle.std.proofs.Common.{◌≡◌, ◌+◌, ◌≤◌, length, take, drop, Some}
use Rattle.rv32im_asm.specs.Assembling.{first_failing}
use Rattle.rv32im_asm.specs.Private.Labels.{places_in}
use Rattle.rv32im_asm.specs.Lines.{lines_of}
use Rattle.rv32im_asm.specs.Sizes.{total_size}
use Rattle.rv32im_asm.proofs.assembling.first_failing.Given as goal

abbrev pub decreases-loop-rest : goal.decreases-loop-rest
decreases-loop-rest l = length l.rest

abbrev pub invariant-loop-rest : goal.invariant-loop-rest
invariant-loop-rest l = record {
  left : drop l.index (lines_of l.source) ≡ lines_of l.rest;
  here : total_size (take l.index (lines_of l.source)) ≡ Some l.here;
  first : first_failing (places_in l.labels) (lines_of l.source) l.index (lines_of l.rest)
      ≡ first_failing (places_in l.labels) (lines_of l.source) 0 (lines_of l.source);
  fits : l.here ≤ 1048576;
  bound : l.index + length l.rest ≤ length l.source;
}
