use Rattle.std.proofs.Common.{◌≡◌, sym, subst, true, inl, inr, ⊎_elim}
use Rattle.std.specs.List.{list_all}
use Rattle.std.proofs.lemmas.Result.{on_ok_weaker, on_err_weaker}
use Rattle.std.specs.Map.{keys_of}
use Rattle.flow_graph.specs.Keeping.{is_known, is_sound}
use Rattle.flow_graph.proofs.KeptAfterEvent.{all_more, keeps_pass}
use Rattle.location_collapse.proofs.CapacityMaps.{either, both_ok, found_positive}
use Rattle.location_collapse.proofs.CollapseLimits.{exceeds_points, exceeds_capacity}
use Rattle.flow_base.specs.PointOrders.{is_same}
use Rattle.location_collapse.proofs.collapses.Collapse.pass.Goals as goal

pub invariant_of-self : goal.invariant_of-self
invariant_of-self c = record {
  sound = either c.pass.result
      (on_ok_weaker c.pass.result (λ grows. all_more (is_known c.args.self.now.points.capacities.map.entries)
      (is_known c.pass.new.self.capacities.map.entries) grows (keys_of c.args.self.now.links.named.map.entries) c.args.self.now.sound)
      c.pass.ensures.grows)
      (on_err_weaker c.pass.result (λ e. subst (λ es. list_all (is_sound (is_known es))
      (keys_of c.args.self.now.links.named.map.entries) ≡ true) (sym e) c.args.self.now.sound) c.pass.ensures.err);
}

pub returns-clause-ok : goal.returns-clause-ok
returns-clause-ok c =
    both_ok c.pass.result
    (λ counted grows events stands.
    keeps_pass c.args.self.now.points.capacities.map.entries c.pass.new.self.capacities.map.entries
    (keys_of c.args.self.now.links.named.map.entries) c.args.point c.args.mask events stands
    (λ q. found_positive (is_same q) c.pass.new.self.capacities.map.entries c.pass.new.self.small) counted grows)
    c.pass.ensures.counted c.pass.ensures.grows

pub returns-clause-limit : goal.returns-clause-limit
returns-clause-limit c = λ e events stands.
    ⊎_elim
    (λ lacks. inl (exceeds_points c.args.self.now.points.capacities.map.entries (keys_of c.args.self.now.links.named.map.entries) events
    c.args.point c.args.mask stands lacks))
    (λ large. inr (inr (exceeds_capacity c.args.self.now.points.capacities.map.entries (keys_of c.args.self.now.links.named.map.entries) events
    c.args.point c.args.mask stands large)))
    (c.pass.ensures.limit e)
