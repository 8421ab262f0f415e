use Rattle.std.proofs.Common.{ℕ, ◌<◌}
use Rattle.elf32_loader.specs.FaultTable.{Overlaps}
use Rattle.elf32_loader.proofs.searching.second_of_overlap.Given as goal

abbrev pub invariant-loop-second : goal.invariant-loop-second
invariant-loop-second l = (k : ℕ) → k < l.second → ¬ Overlaps l.file l.first k
