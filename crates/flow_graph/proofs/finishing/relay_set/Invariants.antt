use Rattle.std.proofs.Common.{◌≡◌, ℕ, map}
use Rattle.std.specs.BTreeSet as sorted
use Rattle.std.specs.List.{list_any}
use Rattle.std.specs.Map.Iter.{deref}
use Rattle.std.specs.Ordering.{nat_cmp}
use Rattle.flow_graph.specs.EventGraphs.{names_relay}
use Rattle.flow_graph.proofs.finishing.relay_set.Given as goal

abbrev pub invariant-loop-link : goal.invariant-loop-link
invariant-loop-link l = (region : ℕ) → sorted.contains nat_cmp l.relays region ≡ list_any (names_relay region)
    (map deref l.yielded)
