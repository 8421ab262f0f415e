-- The capacity of the side of a certificate, as far as a walk over the points has come.
use Rattle.std.specs.Prelude.{ℕ, cond, slice_index, slice_index_or}
use Rattle.flow_graph.specs.declared.graphs.Graph.{Graph}
use Rattle.max_flow.specs.declared.answers.Half.TheVariants.{Neither}
use Rattle.max_flow.specs.declared.answers.Solved.{Solved}
use Rattle.max_flow.specs.Flows.{capacities, is_cut}
use Rattle.max_flow.specs.Private.Networks.{sum_below}

-- the capacities of the first n points, of those that the side cuts
unfoldable pub cut_below : Graph → Solved → ℕ → ℕ
cut_below graph solved n =
    sum_below n (λ i. cond (is_cut (slice_index_or solved.side.points i Neither)) (slice_index (capacities graph) i) 0)
