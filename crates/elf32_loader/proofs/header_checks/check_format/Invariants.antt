use Rattle.std.proofs.Common.{ℕ, ◌<◌}
use Rattle.elf32_loader.specs.FaultTable.{IsOtherByte}
use Rattle.elf32_loader.proofs.header_checks.check_format.Given as goal

abbrev pub invariant-loop-place : goal.invariant-loop-place
invariant-loop-place l = (k : ℕ) → k < l.place → ¬ IsOtherByte l.file k
