use Rattle.std.proofs.Common.{ℕ, ◌<◌}
use Rattle.elf32_loader.specs.FaultTable.{IsEntryIn}
use Rattle.elf32_loader.proofs.searching.is_entry_loaded.Given as goal

abbrev pub invariant-loop-index : goal.invariant-loop-index
invariant-loop-index l = (k : ℕ) → k < l.index → ¬ IsEntryIn l.file k
