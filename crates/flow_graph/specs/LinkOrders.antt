-- The orders of links, in words.
use Rattle.std.specs.Prelude.{◌≡◌, ℕ}
use Rattle.std.specs.Ordering.{nat_cmp, ordering_then}
use Rattle.std.specs.declared.cmp.Ordering.{Ordering}
use Rattle.flow_base.specs.PointOrders.{point_cmp}
use Rattle.flow_graph.specs.declared.ends.Arc.{Arc}
use Rattle.flow_graph.specs.declared.ends.End.{End}
use Rattle.flow_graph.specs.declared.ends.End.TheVariants as end
use Rattle.flow_graph.specs.declared.named_links.NamedEnd.{NamedEnd}
use Rattle.flow_graph.specs.declared.named_links.NamedEnd.TheVariants.{Source, At, Relay, Sink}
use Rattle.flow_graph.specs.declared.named_links.NamedLink.{NamedLink}
use Rattle.flow_graph.specs.EventGraphs.{link_cmp}
use Rattle.flow_graph.specs.Graphs.{arc_cmp}

-- the kinds of ends in their order
abbrev pub named_end_kind : NamedEnd → ℕ
named_end_kind Source = 0
named_end_kind (At p) = 1
named_end_kind (Relay region) = 2
named_end_kind Sink = 3

abbrev pub end_kind : End → ℕ
end_kind end.Source = 0
end_kind (end.Point index) = 1
end_kind (end.Relay region) = 2
end_kind end.Sink = 3

-- ends are ordered by kind, points as points are, and relays by region
abbrev pub named_end_cmp : NamedEnd → NamedEnd → Ordering
named_end_cmp (At p) (At q) = point_cmp p q
named_end_cmp (Relay r) (Relay s) = nat_cmp r s
named_end_cmp e f = nat_cmp (named_end_kind e) (named_end_kind f)

-- the same of a graph, whose points are ordered by index
abbrev pub end_cmp : End → End → Ordering
end_cmp (end.Point i) (end.Point j) = nat_cmp i j
end_cmp (end.Relay r) (end.Relay s) = nat_cmp r s
end_cmp e f = nat_cmp (end_kind e) (end_kind f)

-- links are ordered by source, then target
abbrev pub AreOrderedByEnds : Type 0
AreOrderedByEnds =
    (k l : NamedLink) →
    link_cmp k l ≡ ordering_then (named_end_cmp k.source l.source) (named_end_cmp k.target l.target)

abbrev pub AreArcsOrderedByEnds : Type 0
AreArcsOrderedByEnds =
    (k l : Arc) → arc_cmp k l ≡ ordering_then (end_cmp k.source l.source) (end_cmp k.target l.target)
