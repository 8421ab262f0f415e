use Rattle.std.proofs.Common.{refl, sym, ◌∙◌, arith}
use Rattle.replay_machine.proofs.Searching.{step_of, step_here, step_left, step_right, none_left}
use Rattle.replay_machine.proofs.search.find.Goals as goal

pub returns-then-is_same : goal.returns-then-is_same
returns-then-is_same c =
    let step = step_of c.loop-part.part.now c.split_at.result.0.now c.split_at.result.1.now _ c.args.points.now
    c.cut_point-item.result _
    c.loop-part.from c.args.point c.loop-part.invariant c.split_at.ensures.front c.split_at.ensures.back
    c.in-len1-up-others.len_at_least c.cut_point-item.is refl in
    step_here _ _ c.cut_point-item.result _ c.args.points.now c.loop-part.from c.args.point step
    (sym c.is_same.ensures ∙ c.if-is_same.true)

pub loop-part-preserved-then-is_below : goal.loop-part-preserved-then-is_below
loop-part-preserved-then-is_below c =
    let step = step_of c.loop-part.part.now c.split_at.result.0.now c.split_at.result.1.now _ c.args.points.now
    c.cut_point-item.result _
    c.loop-part.from c.args.point c.loop-part.invariant c.split_at.ensures.front c.split_at.ensures.back
    c.in-len1-up-others.len_at_least c.cut_point-item.is refl in
    step_left _ _ c.cut_point-item.result _ c.args.points.now c.loop-part.from c.args.point step
    (sym c.is_below.ensures ∙ c.if-is_below.true)

pub loop-part-preserved : goal.loop-part-preserved
loop-part-preserved c =
    let step = step_of c.loop-part.part.now c.split_at.result.0.now c.split_at.result.1.now _ c.args.points.now
    c.cut_point-item.result _
    c.loop-part.from c.args.point c.loop-part.invariant c.split_at.ensures.front c.split_at.ensures.back
    c.in-len1-up-others.len_at_least c.cut_point-item.is refl in
    step_right _ _ c.cut_point-item.result _ c.args.points.now c.loop-part.from _ c.args.point step
    (sym c.is_same.ensures ∙ c.if-is_same.false) (sym c.is_below.ensures ∙ c.if-is_below.false) (omega arith)

pub returns-in_default : goal.returns-in_default
returns-in_default c = none_left _ c.args.points.now c.loop-part.from c.args.point c.loop-part.invariant
    (omega (arith, c.in_default.len_below))
