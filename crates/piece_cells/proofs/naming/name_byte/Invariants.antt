use Rattle.std.proofs.Common.{◌≡◌, ℕ, ◌<◌, length, get_or}
use Rattle.piece_cells.specs.Cells.{HasBits, Holds}
use Rattle.piece_cells.proofs.naming.name_byte.Given as goal

abbrev pub invariant-loop-at : goal.invariant-loop-at
invariant-loop-at l =
    (length l.words ≡ 256)
    × ((k : ℕ) → k < l.at → get_or l.words k 0 ≡ k)
    × ((k : ℕ) → k < l.at → HasBits l.bits k → Holds l.set k)
