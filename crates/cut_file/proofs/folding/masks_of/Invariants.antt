use Rattle.std.proofs.Common.{◌≡◌, ◌++◌, drop}
use Rattle.cut_file.specs.Masks.{listed_masks}
use Rattle.cut_file.proofs.folding.masks_of.Given as goal

abbrev pub invariant-loop-run : goal.invariant-loop-run
invariant-loop-run l = l.masks.items ++ listed_masks (drop l.run-index l.runs) ≡ listed_masks l.runs
