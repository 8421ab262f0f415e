-- The capacity of the side of a certificate, point by point.
use Rattle.std.proofs.Common.{◌≡◌, ℕ, zero, suc, ◌+◌, ◌*◌, ◌^◌, ◌≤◌, ◌<◌, cond, Bool, true, false}
use Rattle.std.proofs.Common.{List, [], ◌∷◌, length, get_or, slice_index, sym, ap, ◌∙◌, arith}
use Rattle.std.specs.List.{list_all}
use Rattle.std.proofs.lemmas.Bool.{and_parts, ltb-true}
use Rattle.std.proofs.lemmas.List.{get_or-map, get_or_default, length-map}
use Rattle.flow_graph.specs.declared.graphs.Graph.{Graph}
use Rattle.flow_graph.specs.declared.nodes.Node.{Node}
use Rattle.max_flow.specs.declared.answers.Half.{Half}
use Rattle.max_flow.specs.declared.answers.Half.TheVariants.{Neither}
use Rattle.max_flow.specs.declared.answers.Solved.{Solved}
use Rattle.max_flow.specs.Flows.{capacities, is_cut}
use Rattle.max_flow.specs.Private.Networks.{sum_below}
use Rattle.max_flow.proofs.NamedFlows.{where_places}
use Rattle.max_flow.proofs.Sums.{sum_none, sum_suc}
use Rattle.flow_certificate.specs.Keeping.{is_node}
use Rattle.flow_certificate.specs.Private.Sides.{cut_below}
use Rattle.flow_certificate.specs.Verdicts.{cut_in}

pub cut_none : (graph : Graph) (solved : Solved) → cut_below graph solved 0 ≡ 0
unfolding cut_below
cut_none graph solved = sum_none _

pub cut_whole : (graph : Graph) (solved : Solved) → length solved.side.points ≡ length graph.points →
    cut_below graph solved (length graph.points) ≡ cut_in graph solved
unfolding cut_below
cut_whole graph solved same =
    ap (λ n. sum_below n (λ i. cond (is_cut (get_or solved.side.points i Neither)) (slice_index (capacities graph) i)
    0)) (sym same)
    ∙ where_places is_cut solved.side.points (capacities graph) Neither
    (length-map graph.points (λ node. node.capacity) ∙ sym same)

pub cut_more : (graph : Graph) (solved : Solved) (i : ℕ) (half : Half) (node : Node) → i < length graph.points →
    length solved.side.points ≡ length graph.points →
    cut_below graph solved (i + 1) ≡ cut_below graph solved i + cond (is_cut (get_or solved.side.points i half))
    ((get_or graph.points i node).capacity) 0
unfolding cut_below
cut_more graph solved i half node below same =
    let term : ℕ → ℕ = λ k. cond (is_cut (get_or solved.side.points k Neither)) (slice_index (capacities graph) k) 0 in
    let here : term i ≡ cond (is_cut (get_or solved.side.points i half)) ((get_or graph.points i node).capacity) 0 =
    ap (λ (h : Half). cond (is_cut h) (slice_index (capacities graph) i) 0) (get_or_default solved.side.points i Neither
    half (omega (arith, same, below)))
    ∙ ap (λ (n : ℕ). cond (is_cut (get_or solved.side.points i half)) n 0)
    (get_or-map (λ (node : Node). node.capacity) graph.points i node 0 below) in
    sum_suc i term ∙ ap (λ (n : ℕ). sum_below i term + n) here

pub capacity_small : (points : List Node) (i : ℕ) (node : Node) → list_all is_node points ≡ true →
    i < length points → (get_or points i node).capacity < 2 ^ 48
capacity_small [] i node all below = absurd (omega arith)
capacity_small (p ∷ ps) zero node all below =
    ltb-true p.capacity (2 ^ 48) (and_parts _ _ (and_parts (is_node p) (list_all is_node ps) all).0).0
capacity_small (p ∷ ps) (suc i) node all below =
    capacity_small ps i node (and_parts (is_node p) (list_all is_node ps) all).1 (omega arith)

pub part_small : (b : Bool) (n : ℕ) → n < 2 ^ 48 → cond b n 0 < 2 ^ 48
part_small true n small = small
part_small false n small = omega arith

pub record IsCutStep (graph : Graph) (solved : Solved) (i total : ℕ) : Type 0 where
  pub sum : total ≡ cut_below graph solved (i + 1)
  pub small : total ≤ (i + 1) * 2 ^ 48

pub cut_step : (graph : Graph) (solved : Solved) (i total part : ℕ) (half : Half) (node : Node) →
    i < length graph.points → length solved.side.points ≡ length graph.points →
    list_all is_node graph.points ≡ true → total ≡ cut_below graph solved i → total ≤ i * 2 ^ 48 →
    part ≡ cond (is_cut (get_or solved.side.points i half)) ((get_or graph.points i node).capacity) 0 →
    IsCutStep graph solved i (total + part)
cut_step graph solved i total part half node below same named sum small is =
    let more = cut_more graph solved i half node below same in
    let low : cond (is_cut (get_or solved.side.points i half)) ((get_or graph.points i node).capacity) 0 < 2 ^ 48 =
    part_small (is_cut (get_or solved.side.points i half)) ((get_or graph.points i node).capacity)
    (capacity_small graph.points i node named below) in
    record { sum = omega (arith, sum, is, more); small = omega (arith, small, is, low) }
