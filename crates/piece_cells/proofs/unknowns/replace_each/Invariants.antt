use Rattle.std.proofs.Common.{◌≡◌, ℕ, ◌<◌, ◌≤◌, get_or}
use Rattle.piece_cells.specs.Cells.{Bytes, IsIn, Renames}
use Rattle.piece_cells.specs.declared.unknowns.Known.{Known}
use Rattle.piece_cells.proofs.unknowns.replace_each.Given as goal

abbrev pub invariant-loop-at : goal.invariant-loop-at
invariant-loop-at l =
    ((k : ℕ) (d : Known) → l.at ≤ k → get_or l.known k d ≡ get_or l.fn.known k d)
    × ((before now : Bytes) → Renames l.unknown l.set before now → (k : ℕ) (d : Known) → k < l.at →
    IsIn before (get_or l.fn.known k d) → IsIn now (get_or l.known k d))
