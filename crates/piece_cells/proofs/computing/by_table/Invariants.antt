use Rattle.std.proofs.Common.{◌≡◌, ℕ, ◌<◌, length, get_or}
use Rattle.piece_cells.proofs.computing.by_table.Given as goal

abbrev pub invariant-loop-at : goal.invariant-loop-at
invariant-loop-at l =
    (length l.words ≡ 256)
    × ((k : ℕ) → k < l.at → get_or l.words k 0 ≡ get_or l.values.items k 0)
