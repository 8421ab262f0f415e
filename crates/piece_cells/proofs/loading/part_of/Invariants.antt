use Rattle.std.proofs.Common.{◌≡◌, ℕ, ◌<◌, length, get_or}
use Rattle.rv32im_machine.specs.Language.{part_of}
use Rattle.piece_cells.proofs.loading.part_of.Given as goal

abbrev pub invariant-loop-at : goal.invariant-loop-at
invariant-loop-at l =
    (length l.words ≡ 256)
    × ((k : ℕ) → k < l.at → get_or l.words k 0 ≡ part_of l.part (get_or l.table.values k 0))
