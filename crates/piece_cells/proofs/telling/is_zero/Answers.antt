use Rattle.std.proofs.Common.{◌≡◌, sym, subst, ◌∙◌, arith}
use Rattle.flow_base.specs.Words.{Agree}
use Rattle.transfer_rules.proofs.Agreement.{same_where_none}
use Rattle.piece_cells.proofs.telling.is_zero.Goals as goal

pub returns-then-bits-eq0 : goal.returns-then-bits-eq0
returns-then-bits-eq0 c = λ word has none.
    let e : c.args.bits.mask ≡ 0 = grind (arith, none) in
    sym (same_where_none c.args.bits.value word (subst (λ m. Agree m c.args.bits.value word) e has)) ∙ c.if-bits-eq0.true
