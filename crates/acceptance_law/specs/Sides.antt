-- A side of a graph by the names of its points and relays.
use Rattle.std.specs.Prelude.{ℕ, ◌&&◌, not, Bool, List, [], ◌∷◌, cond}
use Rattle.flow_base.specs.declared.points.Point.{Point}
use Rattle.flow_graph.specs.declared.graphs.Graph.{Graph}
use Rattle.flow_graph.specs.declared.nodes.Node.{Node}
use Rattle.flow_base.specs.PointOrders.{is_same}
use Rattle.max_flow.specs.declared.answers.Half.{Half}
use Rattle.max_flow.specs.declared.answers.Half.TheVariants.{Neither}
use Rattle.max_flow.specs.Flows.{has_first, has_second, relay_in}

-- which first halves of points, which second halves and which relays are in the side
pub record NamedSide : Type 0 where
  pub first : Point → Bool
  pub second : Point → Bool
  pub relay : ℕ → Bool

-- the halves of a point of the graph; a point that is none of the graph's has neither in the side
abbrev pub halves_at : List Node → List Half → Point → Half
halves_at [] halves point = Neither
halves_at (node ∷ nodes) [] point = Neither
halves_at (node ∷ nodes) (half ∷ halves) point = cond (is_same point node.point) half (halves_at nodes halves point)

-- the side of a graph that these halves and relays are
abbrev pub named_side : Graph → List Half → List Bool → NamedSide
named_side graph halves relays = record {
  first = λ point. has_first (halves_at graph.points halves point);
  second = λ point. has_second (halves_at graph.points halves point);
  relay = λ region. relay_in graph.relays relays region;
}

-- the first half is in the side and the second is not: the point's bits cross there
abbrev pub is_split : NamedSide → Point → Bool
is_split side point = side.first point && not (side.second point)
