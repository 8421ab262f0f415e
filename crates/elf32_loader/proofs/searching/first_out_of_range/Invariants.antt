use Rattle.std.proofs.Common.{ℕ, ◌<◌}
use Rattle.elf32_loader.specs.FaultTable.{IsRangeFaultAt}
use Rattle.elf32_loader.proofs.searching.first_out_of_range.Given as goal

abbrev pub invariant-loop-index : goal.invariant-loop-index
invariant-loop-index l = (k : ℕ) → k < l.index → ¬ IsRangeFaultAt l.file l.base k
