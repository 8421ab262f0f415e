use Rattle.std.proofs.Common.{ℕ, ◌<◌}
use Rattle.elf32_loader.specs.FaultTable.{Overlaps}
use Rattle.elf32_loader.proofs.searching.first_overlap.Given as goal

abbrev pub invariant-loop-first : goal.invariant-loop-first
invariant-loop-first l = (k : ℕ) → k < l.first → ¬ ((b : ℕ) × Overlaps l.file k b)
