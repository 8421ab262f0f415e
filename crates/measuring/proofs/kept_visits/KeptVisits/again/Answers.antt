use Rattle.std.proofs.Common.{sym, ap, subst, ◌∙◌, ◌++◌, replicate}
use Rattle.std.proofs.lemmas.Result.{on_ok_weaker}
use Rattle.indexmap.specs.IndexMap.{set_value_at}
use Rattle.flow_base.specs.PointOrders.{is_same}
use Rattle.hinted_map.specs.Maps.{StandsAt}
use Rattle.hinted_map.proofs.Places.{value_at}
use Rattle.measuring.specs.KeptVisits.{Adds, masks_if_any}
use Rattle.measuring.proofs.AddedVisits.{adds}
use Rattle.measuring.proofs.kept_visits.KeptVisits.again.Goals as goal

pub returns-clause-ok : goal.returns-clause-ok
returns-clause-ok c =
    on_ok_weaker c.add.result
    (λ masks p there.
    let stands : StandsAt is_same c.note.new.self.map.entries p c.args.index =
    subst (λ m. StandsAt is_same m.entries p c.args.index) (sym c.note.ensures.map) there in
    subst (λ m. Adds m.entries (set_value_at c.note.new.self.map.entries c.args.index c.add.new.self) p c.args.run)
    c.note.ensures.map
    (adds c.note.new.self.map.entries _ p c.add.new.self c.args.run (stands.written c.add.new.self)
    (masks ∙ ap (λ o. masks_if_any o ++ replicate c.args.run.count c.args.run.mask) (sym (value_at
    c.note.new.self.map.entries p c.args.index c.index_mut.result.now stands c.index_mut.ensures.value)))))
    c.add.ensures.ok
