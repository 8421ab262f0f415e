use Rattle.std.proofs.Common.{◌≡◌, ◌∙◌, ap, subst, sym, List, None}
use Rattle.cut_file.specs.declared.points.CutPoint.{CutPoint}
use Rattle.cut_file.specs.Masks.{MaskAt}
use Rattle.replay_machine.specs.Visits.{MovesOn}
use Rattle.replay_machine.specs.Tables.{all_ahead, index_of}
use Rattle.replay_machine.proofs.MasksAhead.{ahead_mask, ahead_moves, none_moves, none_one, unmarked_none}
use Rattle.replay_machine.proofs.lent_visits.LentVisits.next.Goals as goal

-- a point at an address without a mark is none of the cut's
not_there : (c : goal.Then-not-may_have) → index_of c.self.inside.table.now c.args.point ≡ None
not_there c =
    unmarked_none 0 c.self.inside.marks c.self.inside.table.now c.args.point c.self.invariant.1
    (sym c.may_have.ensures ∙ c.if-not-may_have.true)

pub returns-then-not-may_have-clause-mask : goal.returns-then-not-may_have-clause-mask
returns-then-not-may_have-clause-mask c = λ masks past ahead.
    none_one c.self.inside.table.now c.self.inside.cursors.items c.args.point (not_there c)
    ∙ ap (λ (l : List CutPoint). MaskAt l c.args.point 1) c.self.view_is
    ∙ ahead_mask c.args.self.now masks past c.args.point ahead

pub returns-then-not-may_have-clause-counted : goal.returns-then-not-may_have-clause-counted
returns-then-not-may_have-clause-counted c = λ masks past ahead.
    ahead_moves c.args.self.now c.args.self.now masks past c.args.point
    (subst (λ (l : List CutPoint). MovesOn c.args.point l l) c.self.view_is
    (none_moves c.self.inside.table.now c.self.inside.cursors.items c.args.point (not_there c))) ahead

pub returns-clause-mask : goal.returns-clause-mask
returns-clause-mask c = λ masks past ahead.
    c.pass.ensures.mask ∙ ap (λ (l : List CutPoint). MaskAt l c.args.point 1) c.self.view_is
    ∙ ahead_mask c.args.self.now masks past c.args.point ahead

pub returns-clause-counted : goal.returns-clause-counted
returns-clause-counted c = λ masks past ahead.
    let after : List CutPoint = all_ahead c.self.inside.table.now c.pass.new.cursors.items in
    ahead_moves c.args.self.now after masks past c.args.point
    (subst (λ (l : List CutPoint). MovesOn c.args.point l after) c.self.view_is c.pass.ensures.moves) ahead
