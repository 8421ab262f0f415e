use Rattle.piece_cells.proofs.Decisions.{decided_over}
use Rattle.piece_cells.proofs.deciding.decide.Goals as goal

pub returns-in-Some : goal.returns-in-Some
returns-in-Some g c = λ bytes one other p q knows h k.
    decided_over c.args.kind c.decide_by_table.result c.in-Some.unknown bytes c.args.first.now c.args.second.now one other
    c.in-Some.ensures.first c.in-Some.ensures.second h k
    (c.decide_by_table.ensures bytes (knows.byte c.in-Some.unknown) (c.set_of.ensures bytes knows))
