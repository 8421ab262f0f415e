use Rattle.std.proofs.Common.{◌≡◌, ◌∷◌, [], Err}
use Rattle.std.proofs.lemmas.Result.{on_ok_weaker}
use Rattle.flow_graph.specs.declared.events.Event.TheVariants.{Pass, Link, Out}
use Rattle.location_collapse.specs.declared.faults.CollapseFault.TheVariants.{Limit}
use Rattle.location_collapse.proofs.EventsInTurn.{takes_one, takes_behind, gains_behind, allows_behind, refuses_behind}
use Rattle.location_collapse.proofs.EventsInTurn.{refuses_rest, limit_given}
use Rattle.location_collapse.proofs.collapses.Collapse.add_in_turn.Goals as goal

pub returns-in_err-add-clause-limit : goal.returns-in_err-add-clause-limit
returns-in_err-add-clause-limit c = λ e.
    let p = c.args.point in
    let limit : c.add.result ≡ Err Limit =
    limit_given c.add.result c.from_residual.result c.in_err-add.field-0.0 c.in_err-add.was
    c.from_residual.ensures.1 e in
    refuses_rest c.args.self.now (Pass p c.args.mask ∷ []) (Link p p ∷ Out p.region p ∷ [])
    (c.add.ensures.limit limit)

pub returns-in_err-add-2-clause-limit : goal.returns-in_err-add-2-clause-limit
returns-in_err-add-2-clause-limit c = λ e.
    let p = c.args.point in
    let limit : c.add-2.result ≡ Err Limit =
    limit_given c.add-2.result c.from_residual-in_err-add-2.result c.in_err-add-2.field-0.0 c.in_err-add-2.was
    c.from_residual-in_err-add-2.ensures.1 e in
    refuses_behind c.args.self.now c.add.new.self (Pass p c.args.mask ∷ []) (Link p p ∷ Out p.region p ∷ [])
    (takes_one c.args.self.now c.add.new.self (Pass p c.args.mask) c.add.result c.in_ok-add.field-0 c.in_ok-add.was
    c.in_ok-add.ensures.ok c.add.ensures.full)
    (refuses_rest c.add.new.self (Link p p ∷ []) (Out p.region p ∷ []) (c.add-2.ensures.limit limit))

pub returns-clause-ok : goal.returns-clause-ok
returns-clause-ok c =
    let p = c.args.point in
    on_ok_weaker c.add-3.result
    (gains_behind c.args.self.now c.add-2.new.self c.add-3.new.self (Pass p c.args.mask ∷ Link p p ∷ [])
    (Out p.region p ∷ [])
    (takes_behind c.args.self.now c.add.new.self c.add-2.new.self (Pass p c.args.mask ∷ []) (Link p p ∷ [])
    (takes_one c.args.self.now c.add.new.self (Pass p c.args.mask) c.add.result c.in_ok-add.field-0 c.in_ok-add.was
    c.in_ok-add.ensures.ok c.add.ensures.full)
    (takes_one c.add.new.self c.add-2.new.self (Link p p) c.add-2.result c.in_ok-add-2.field-0 c.in_ok-add-2.was
    c.in_ok-add-2.ensures.ok c.add-2.ensures.full)))
    c.add-3.ensures.ok

pub returns-clause-within : goal.returns-clause-within
returns-clause-within c =
    let p = c.args.point in
    on_ok_weaker c.add-3.result
    (allows_behind c.args.self.now c.add-2.new.self (Pass p c.args.mask ∷ Link p p ∷ []) (Out p.region p ∷ [])
    (takes_behind c.args.self.now c.add.new.self c.add-2.new.self (Pass p c.args.mask ∷ []) (Link p p ∷ [])
    (takes_one c.args.self.now c.add.new.self (Pass p c.args.mask) c.add.result c.in_ok-add.field-0 c.in_ok-add.was
    c.in_ok-add.ensures.ok c.add.ensures.full)
    (takes_one c.add.new.self c.add-2.new.self (Link p p) c.add-2.result c.in_ok-add-2.field-0 c.in_ok-add-2.was
    c.in_ok-add-2.ensures.ok c.add-2.ensures.full)))
    c.add-3.ensures.within

pub returns-clause-limit : goal.returns-clause-limit
returns-clause-limit c = λ e.
    let p = c.args.point in
    refuses_behind c.args.self.now c.add-2.new.self (Pass p c.args.mask ∷ Link p p ∷ []) (Out p.region p ∷ [])
    (takes_behind c.args.self.now c.add.new.self c.add-2.new.self (Pass p c.args.mask ∷ []) (Link p p ∷ [])
    (takes_one c.args.self.now c.add.new.self (Pass p c.args.mask) c.add.result c.in_ok-add.field-0 c.in_ok-add.was
    c.in_ok-add.ensures.ok c.add.ensures.full)
    (takes_one c.add.new.self c.add-2.new.self (Link p p) c.add-2.result c.in_ok-add-2.field-0 c.in_ok-add-2.was
    c.in_ok-add-2.ensures.ok c.add-2.ensures.full))
    (c.add-3.ensures.limit e)
