use Rattle.std.proofs.Common.{ℕ, ◌<◌, get_or}
use Rattle.piece_cells.specs.Cells.{HasSomeBits, Holds}
use Rattle.piece_cells.proofs.covering.bits_over.Given as goal

abbrev pub invariant-loop-byte : goal.invariant-loop-byte
invariant-loop-byte l =
    (k : ℕ) → k < l.byte → Holds l.set k → HasSomeBits l.covered (get_or l.table.values k 0)
