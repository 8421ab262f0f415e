-- The orders of links are those by their ends.
use Rattle.std.proofs.Common.{◌≡◌, refl}
use Rattle.flow_graph.specs.declared.ends.End.{End}
use Rattle.flow_graph.specs.declared.ends.End.TheVariants as end
use Rattle.flow_graph.specs.declared.named_links.NamedEnd.{NamedEnd}
use Rattle.flow_graph.specs.declared.named_links.NamedEnd.TheVariants.{Source, At, Relay, Sink}
use Rattle.flow_graph.specs.contracts.named_links.NamedEndOrd.TheImpl as named_ord
use Rattle.flow_graph.specs.contracts.ends.EndOrd.TheImpl as end_ord
use Rattle.flow_graph.specs.LinkOrders.{named_end_cmp, end_cmp, AreOrderedByEnds, AreArcsOrderedByEnds}

named_same : (e f : NamedEnd) → (named_ord.ghosts).cmp e f ≡ named_end_cmp e f
named_same Source Source = refl
named_same Source (At q) = refl
named_same Source (Relay s) = refl
named_same Source Sink = refl
named_same (At p) Source = refl
named_same (At p) (At q) = refl
named_same (At p) (Relay s) = refl
named_same (At p) Sink = refl
named_same (Relay r) Source = refl
named_same (Relay r) (At q) = refl
named_same (Relay r) (Relay s) = refl
named_same (Relay r) Sink = refl
named_same Sink Source = refl
named_same Sink (At q) = refl
named_same Sink (Relay s) = refl
named_same Sink Sink = refl

end_same : (e f : End) → (end_ord.ghosts).cmp e f ≡ end_cmp e f
end_same end.Source end.Source = refl
end_same end.Source (end.Point j) = refl
end_same end.Source (end.Relay s) = refl
end_same end.Source end.Sink = refl
end_same (end.Point i) end.Source = refl
end_same (end.Point i) (end.Point j) = refl
end_same (end.Point i) (end.Relay s) = refl
end_same (end.Point i) end.Sink = refl
end_same (end.Relay r) end.Source = refl
end_same (end.Relay r) (end.Point j) = refl
end_same (end.Relay r) (end.Relay s) = refl
end_same (end.Relay r) end.Sink = refl
end_same end.Sink end.Source = refl
end_same end.Sink (end.Point j) = refl
end_same end.Sink (end.Relay s) = refl
end_same end.Sink end.Sink = refl

pub named_by_ends : AreOrderedByEnds
named_by_ends k l = rw (named_same k.source l.source, named_same k.target l.target) refl

pub arcs_by_ends : AreArcsOrderedByEnds
arcs_by_ends k l = rw (end_same k.source l.source, end_same k.target l.target) refl
