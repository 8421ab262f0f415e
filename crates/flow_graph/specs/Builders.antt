-- What is kept while events are added: capacities by point, and the set of links.
use Rattle.std.specs.BTreeMap as tree
use Rattle.std.specs.Prelude.{◌≡◌, ℕ, ◌+◌, ◌^◌, ◌<◌, cond, Bool, true, List, [], ◌∷◌}
use Rattle.std.specs.Prelude.{unwrap_or}
use Rattle.std.specs.Option.{is_some}
use Rattle.flow_base.specs.declared.points.Point.{Point}
use Rattle.flow_graph.specs.declared.builders.Builder.{Builder}
use Rattle.flow_graph.specs.declared.ends.Arc.{Arc}
use Rattle.flow_graph.specs.declared.ends.End.{End}
use Rattle.flow_graph.specs.declared.ends.End.TheVariants.{Source as SourceEnd, Point as PointEnd, Relay as RelayEnd}
use Rattle.flow_graph.specs.declared.ends.End.TheVariants.{Sink as SinkEnd}
use Rattle.flow_graph.specs.declared.events.Event.{Event}
use Rattle.flow_graph.specs.declared.named_links.NamedLink.{NamedLink}
use Rattle.flow_graph.specs.declared.named_links.NamedEnd.{NamedEnd}
use Rattle.flow_graph.specs.declared.named_links.NamedEnd.TheVariants.{Source, At, Relay, Sink}
use Rattle.flow_base.specs.PointOrders.{point_cmp, is_same}
use Rattle.flow_graph.specs.Keeping.{is_positive, Keeps, TakesLinks}

-- the capacity of a point so far
abbrev pub count_at : Builder → Point → ℕ
count_at builder q = unwrap_or (tree.get point_cmp builder.capacities q) 0

abbrev pub has_point : Builder → Point → Bool
has_point builder p = is_some (tree.get point_cmp builder.capacities p)

-- each capacity that is kept is positive
abbrev pub ArePositive : Builder → Type 0
ArePositive builder = (q : Point) → is_positive (tree.get point_cmp builder.capacities q) ≡ true

-- one mask more fits at each point
abbrev pub HasRoom : Builder → Type 0
HasRoom builder = (q : Point) → count_at builder q + 32 < 2 ^ 128

-- the builder has exactly what a list of events makes
abbrev pub StandsFor : Builder → List Event → Type 0
StandsFor builder events = Keeps builder.capacities.entries builder.links.keys events

-- these links are taken, and nothing else changes
pub record Takes (old new : Builder) (more : List NamedLink) : Type 0 where
  pub capacities : new.capacities ≡ old.capacities
  pub links : TakesLinks old.links.keys new.links.keys more

-- the index of a point among points, or their number where it is none of them
abbrev pub index_in : List Point → Point → ℕ
index_in [] p = 0
index_in (x ∷ xs) p = cond (is_same x p) 0 (index_in xs p + 1)

abbrev pub end_at : List Point → NamedEnd → End
end_at names Source = SourceEnd
end_at names (At p) = PointEnd (index_in names p)
end_at names (Relay r) = RelayEnd r
end_at names Sink = SinkEnd

abbrev pub arc_at : List Point → NamedLink → Arc
arc_at names link = record { source = end_at names link.source; target = end_at names link.target }
