use Rattle.std.proofs.Common.{sym, subst, ◌∙◌, arith}
use Rattle.flow_base.specs.Words.{Agree}
use Rattle.transfer_rules.proofs.Agreement.{same_where_none}
use Rattle.piece_cells.proofs.Tellings.{other_bit}
use Rattle.piece_cells.proofs.telling.tell_other.Goals as goal

pub returns-then-bits-word : goal.returns-then-bits-word
returns-then-bits-word c = λ other p h differs. differs
    (sym (same_where_none c.args.bits.value other (subst (λ m. Agree m c.args.bits.value other) c.if-bits-eq0.true h))
    ∙ c.if-bits-word.true)

pub returns-then-bits-word-eq0 : goal.returns-then-bits-word-eq0
returns-then-bits-word-eq0 c = λ other p h differs.
    c.told.ensures other p h
    (other_bit c.args.bits.mask c.args.bits.value c.args.word other (omega arith) (omega arith) (omega arith) p h
    (c.is_one_bit.ensures c.if-is_one_bit.true) c.if-bits-word-eq0.true differs)
