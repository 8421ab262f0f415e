use Rattle.std.proofs.Common.{◌≡◌, ◌*◌, ◌%◌, ◌^◌, arith, w32}
use Rattle.std.specs.Int.{trailing_zeros}
use Rattle.piece_cells.proofs.Tellings.{one_bit}
use Rattle.piece_cells.proofs.telling.is_one_bit.Goals as goal

pub returns-then-mask-ne0 : goal.returns-then-mask-ne0
returns-then-mask-ne0 c = λ same.
    let e : c.args.mask ≡ 1 * 2 ^ trailing_zeros w32 c.args.mask % 2 ^ 32 = grind (arith, same) in
    one_bit c.args.mask (omega arith) (omega (arith, c.if-mask-ne0.true)) e
