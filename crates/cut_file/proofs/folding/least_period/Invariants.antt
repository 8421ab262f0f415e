use Rattle.std.proofs.Common.{◌≡◌, ◌<◌, ℕ, false}
use Rattle.cut_file.specs.Folds.{is_period}
use Rattle.cut_file.proofs.folding.least_period.Given as goal

abbrev pub invariant-loop-count : goal.invariant-loop-count
invariant-loop-count l = (fewer : ℕ) → fewer < l.count → is_period l.masks fewer ≡ false
