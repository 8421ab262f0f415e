use Rattle.std.proofs.Common.{ℕ, ◌<◌, get_or}
use Rattle.piece_cells.specs.Cells.{HasBits, Holds}
use Rattle.piece_cells.proofs.deciding.agreeing.Given as goal

abbrev pub invariant-loop-at : goal.invariant-loop-at
invariant-loop-at l =
    (k : ℕ) → k < l.at → Holds l.set k → HasBits l.bits (get_or l.table.values k 0) → Holds l.bytes k
