use Rattle.std.proofs.Common.{◌≡◌, ℕ, ◌<◌, true, false}
use Rattle.rv32im_decode.specs.Operations.{is_taken}
use Rattle.piece_cells.specs.Cells.{Holds, value_at}
use Rattle.piece_cells.proofs.deciding.decide_by_table.Given as goal

abbrev pub invariant-loop-at : goal.invariant-loop-at
invariant-loop-at l =
    (k : ℕ) → k < l.at → Holds l.set k →
    (is_taken l.kind (value_at l.first k) (value_at l.second k) ≡ true → Holds l.taken k)
    × (is_taken l.kind (value_at l.first k) (value_at l.second k) ≡ false → Holds l.left k)
