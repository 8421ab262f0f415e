use Rattle.std.proofs.Common.{sym, ◌∙◌}
use Rattle.piece_cells.proofs.Decisions.{same_decision}
use Rattle.piece_cells.proofs.deciding.decide_bits.Goals as goal

pub returns-then-mask_of_operation-eq0 : goal.returns-then-mask_of_operation-eq0
returns-then-mask_of_operation-eq0 g c = λ bytes one other p q h k.
    same_decision c.args.kind c.mask_of_operation.result c.args.first.value c.args.second.value one other
    c.if-mask_of_operation-eq0.true (c.mask_of_operation.ensures one other p q h k)
    ∙ sym c.is_taken.ensures
