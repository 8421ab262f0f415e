use Rattle.std.proofs.Common.{true, false, sym, subst, ◌∙◌}
use Rattle.piece_cells.specs.Telling.{AgreesUnder}
use Rattle.piece_cells.proofs.Tellings.{sign_told}
use Rattle.piece_cells.proofs.telling.tell_sign.Goals as goal
use Rattle.piece_cells.proofs.telling.tell_sign.Goals.{then-negative, else-negative}

pub returns : goal.returns
returns c = λ word p h is. c.told.ensures word p h
    (elim c.if-negative.branch [
      | then-negative w ↦ subst (λ v. AgreesUnder 2147483648 v word) (sym w.told-is)
          (sign_told word true p (is ∙ w.if-negative.true))
      | else-negative w ↦ subst (λ v. AgreesUnder 2147483648 v word) (sym w.told-is)
          (sign_told word false p (is ∙ w.if-negative.false))
    ])
