use Rattle.std.proofs.Common.{◌≡◌, ◌≤◌, ◌+◌, drop, length}
use Rattle.cut_file.specs.Masks.{listed_masks}
use Rattle.cut_file.proofs.MaskLists.{mask_in}
use Rattle.cut_file.proofs.masks.listed_mask.Given as goal

-- the masks that are left give at the visits that are left what all give at the visit
abbrev pub invariant-loop-run : goal.invariant-loop-run
invariant-loop-run l = record {
  first : 1 ≤ l.left;
  count : length (listed_masks (drop l.run-index l.runs)) + l.visit ≡ length (listed_masks l.runs) + l.left;
  same : mask_in (drop l.run-index l.runs) l.left 0 ≡ mask_in l.runs l.visit 0;
}
