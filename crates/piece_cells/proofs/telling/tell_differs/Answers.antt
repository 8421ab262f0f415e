use Rattle.std.proofs.Common.{sym, subst, ◌∙◌}
use Rattle.flow_base.specs.Words.{Agree}
use Rattle.transfer_rules.proofs.Agreement.{same_where_none}
use Rattle.piece_cells.proofs.telling.tell_differs.Goals as goal

pub returns-then-second-eq0 : goal.returns-then-second-eq0
returns-then-second-eq0 c = λ one other p q h k differs.
    c.both.ensures one other
    (c.tell_other.ensures one p h (λ e. differs (e ∙ same_where_none c.args.second.value other
    (subst (λ m. Agree m c.args.second.value other) c.if-second-eq0.true k)))) k

pub returns-then-first-eq0 : goal.returns-then-first-eq0
returns-then-first-eq0 c = λ one other p q h k differs.
    c.both-then-first-eq0.ensures one other h
    (c.tell_other-then-first-eq0.ensures other q k (λ e. differs (sym (e ∙ same_where_none c.args.first.value one
    (subst (λ m. Agree m c.args.first.value one) c.if-first-eq0.true h)))))
