use Rattle.std.proofs.Common.{◌≡◌, ℕ, ◌<◌, length, get_or}
use Rattle.rv32im_machine.specs.Language.{computed}
use Rattle.piece_cells.specs.Cells.{value_at}
use Rattle.piece_cells.proofs.computing.compute.Given as goal

abbrev pub invariant-loop-at : goal.invariant-loop-at
invariant-loop-at g l =
    (length l.words ≡ 256)
    × ((k : ℕ) → k < l.at → get_or l.words k 0 ≡ computed l.operation (value_at l.first k) (value_at l.second k))
