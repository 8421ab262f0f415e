-- The numbers by which programs know the nodes of a graph of P points: the source 0, the sink 1, the first half of point
-- i 2 + 2 * i, its second half 3 + 2 * i, and the relay of region r 2 + 2 * P + r.
use Rattle.std.specs.Prelude.{ℕ, ◌+◌, ◌*◌}
use Rattle.flow_graph.specs.declared.ends.End.{End}
use Rattle.flow_graph.specs.declared.ends.End.TheVariants.{Source, Point, Relay, Sink}

-- the number of the node that a link leaves, where there are so many points
abbrev pub tail_of : ℕ → End → ℕ
tail_of count Source = 0
tail_of count (Point i) = 3 + 2 * i
tail_of count (Relay r) = 2 + 2 * count + r
tail_of count Sink = 1

-- the number of the node that a link enters
abbrev pub head_of : ℕ → End → ℕ
head_of count Source = 0
head_of count (Point i) = 2 + 2 * i
head_of count (Relay r) = 2 + 2 * count + r
head_of count Sink = 1
