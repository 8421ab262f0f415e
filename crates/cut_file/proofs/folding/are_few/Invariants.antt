use Rattle.std.proofs.Common.{◌≡◌, drop, length, nat_le}
use Rattle.cut_file.specs.Masks.{listed_masks}
use Rattle.cut_file.proofs.folding.are_few.Given as goal

abbrev pub invariant-loop-run : goal.invariant-loop-run
invariant-loop-run l =
    nat_le (length (listed_masks (drop l.run-index l.runs))) l.left ≡ nat_le (length (listed_masks l.runs)) l.most
