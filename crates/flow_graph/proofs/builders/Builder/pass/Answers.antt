use Rattle.std.proofs.Common.{◌≡◌, ◌+◌, ◌<◌, true, false, unwrap_or, ap, ◌∙◌, ⊎_elim, arith}
use Rattle.std.specs.BTreeMap as tree
use Rattle.std.specs.Prelude.{count_ones}
use Rattle.std.proofs.lemmas.Bool.{cases_Bool}
use Rattle.flow_base.specs.Words.{bit_count}
use Rattle.flow_base.specs.PointOrders.{point_cmp, is_same}
use Rattle.flow_graph.specs.Keeping.{is_positive}
use Rattle.flow_graph.proofs.MaskBitCounts.{bit_count_zero, bit_count_ones, ones_some}
use Rattle.flow_graph.proofs.SamePointLookups.{get_alike}
use Rattle.flow_graph.proofs.BuilderAfterEvent.{positive_put, counted_put}
use Rattle.flow_graph.proofs.builders.Builder.pass.Goals as goal

pub returns-then-mask-eq0-clause-counted : goal.returns-then-mask-eq0-clause-counted
returns-then-mask-eq0-clause-counted c = λ q.
    let none : bit_count c.args.mask ≡ 0 = ap bit_count c.if-mask-eq0.true ∙ bit_count_zero in
    rw none (⊎_elim (λ (t : is_same c.args.point q ≡ true). rw t (omega arith))
    (λ (t : is_same c.args.point q ≡ false). rw t (omega arith)) (cases_Bool (is_same c.args.point q)))

pub returns-in-Ok-clause-positive : goal.returns-in-Ok-clause-positive
returns-in-Ok-clause-positive c = λ q.
    let some : 0 < count_ones c.args.mask = ones_some c.args.mask (omega arith) in
    ap is_positive (c.in-Ok.ensures.updates.0 q)
    ∙ positive_put _ (c.unwrap_or-before.result + c.from.result) (tree.get point_cmp c.args.self.now.capacities q)
    (omega (arith, some, c.from.ensures)) (c.requires.positive q)

pub returns-in-Ok-clause-counted : goal.returns-in-Ok-clause-counted
returns-in-Ok-clause-counted c = λ q.
    ap (λ o. unwrap_or o 0) (c.in-Ok.ensures.updates.0 q)
    ∙ counted_put (is_same c.args.point q) (c.unwrap_or-before.result + c.from.result) (bit_count c.args.mask)
    (tree.get point_cmp c.args.self.now.capacities q)
    (λ same.
    let bits : bit_count c.args.mask ≡ count_ones c.args.mask = bit_count_ones c.args.mask (omega arith) in
    let before : c.unwrap_or-before.result ≡ unwrap_or (tree.get point_cmp c.args.self.now.capacities q) 0 =
    c.unwrap_or-before.ensures ∙ ap (λ o. unwrap_or o 0)
    (c.copied.ensures ∙ (c.get.ensures.value ∙ get_alike c.args.self.now.capacities c.args.point q same)) in
    omega (arith, bits, before, c.from.ensures))
