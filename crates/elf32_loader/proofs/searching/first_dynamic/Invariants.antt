use Rattle.std.proofs.Common.{ℕ, ◌<◌}
use Rattle.elf32_loader.specs.FaultTable.{IsDynamicAt}
use Rattle.elf32_loader.proofs.searching.first_dynamic.Given as goal

abbrev pub invariant-loop-index : goal.invariant-loop-index
invariant-loop-index l = (k : ℕ) → k < l.index → ¬ IsDynamicAt l.file k
