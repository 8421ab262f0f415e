use Rattle.std.proofs.Common.{◌≤◌, length, sym, subst, true, ◌≡◌, arith}
use Rattle.std.specs.List.{list_all}
use Rattle.indexmap.proofs.CallerLemmas.{index_map_len-with_value_at}
use Rattle.location_collapse.specs.Limits.{is_kept_capacity}
use Rattle.location_collapse.proofs.CapacityMaps.{small_raised}
use Rattle.location_collapse.proofs.kept_points.KeptPoints.raise.Goals as goal

pub invariant_of-self : goal.invariant_of-self
invariant_of-self c = record {
  small = subst (λ m. list_all is_kept_capacity m.entries ≡ true) (sym c.note.ensures.map)
      (small_raised c.args.self.now.capacities.map.entries c.args.index c.args.capacity c.requires.some
      (omega (arith, c.if-capacity-ge-CAPACITY_LIMIT.false)) c.args.self.now.small);
  few = subst (λ m. length m.entries ≤ 65536) (sym c.note.ensures.map)
      (let same = index_map_len-with_value_at c.args.self.now.capacities.map c.args.index c.args.capacity in
      omega (arith, same, c.args.self.now.few));
}
