use Rattle.std.proofs.Common.{◌≡◌, sym, ap, ◌∙◌, int_lt}
use Rattle.rv32im_decode.specs.Operations.{signed}
use Rattle.piece_cells.proofs.Tellings.{below_zero}
use Rattle.piece_cells.proofs.telling.tell_signed.Goals as goal

pub returns-then-is_zero : goal.returns-then-is_zero
returns-then-is_zero c = λ one other p q h k is.
    let none : other ≡ 0 = c.is_zero.ensures other k c.if-is_zero.true in
    c.both.ensures one other
    (c.tell_sign.ensures one p h (sym (below_zero one p) ∙ ap (λ y. int_lt (signed one) (signed y)) (sym none) ∙ is)) k
