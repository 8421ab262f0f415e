-- The points and links of a collapse, in order.
use Rattle.std.specs.Prelude.{◌≡◌, ℕ, ◌≤◌, List, length}
use Rattle.flow_base.specs.declared.points.Point.{Point}
use Rattle.flow_graph.specs.Keeping.{capacity_in}

-- each point has in the one what it has in the other, which may name a point more than once
pub record HasSame (sorted entries : List (Point × ℕ)) : Type 0 where
  pub same : (q : Point) → capacity_in sorted q ≡ capacity_in entries q
  pub few : length sorted ≤ length entries
