use Rattle.std.proofs.Common.{◌<◌, Result, Ok, Err, sym, subst, ◌∙◌, arith}
use Rattle.std.specs.Prelude.{IfOk}
use Rattle.piece_cells.specs.Cells.{Has}
use Rattle.piece_cells.proofs.Decisions.{computed_over}
use Rattle.piece_cells.proofs.computing.compute.Goals as goal

ok_more : {T E : Type 0} (r : Result T E) (P Q : T → Type 0) → ((t : T) → P t → Q t) → IfOk r P → IfOk r Q
ok_more (Ok t) P Q more p = more t p
ok_more (Err e) P Q more p = p

pub returns : goal.returns
returns g c = ok_more c.cell_of.result _ _
    (λ cell at bytes one other p q knows h k.
    let inside : bytes c.in-Some.unknown < c.loop-at.at =
    omega (arith, knows.byte c.in-Some.unknown, c.loop-at-test.false) in
    subst (Has bytes cell)
    (c.loop-at.invariant.1 (bytes c.in-Some.unknown) inside
    ∙ sym (computed_over c.args.operation c.in-Some.unknown bytes c.args.first.now c.args.second.now one other
    c.in-Some.ensures.first c.in-Some.ensures.second h k))
    (at bytes knows))
    c.cell_of.ensures
