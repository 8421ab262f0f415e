-- Which points a cut has.
use Rattle.std.proofs.Common.{◌≡◌, ℕ, ◌&&◌, ◌||◌, Bool, true, false, List, [], ◌∷◌, ◌++◌, refl, sym, ap}
use Rattle.std.proofs.Common.{◌∙◌, cond}
use Rattle.std.proofs.Common.{not}
use Rattle.std.specs.List.{list_all, list_any}
use Rattle.std.specs.Ordering.{is_lt}
use Rattle.std.proofs.lemmas.Bool.{and_parts, and_from, false≢true}
use Rattle.flow_base.specs.declared.points.Point.{Point}
use Rattle.flow_graph.specs.declared.nodes.Node.{Node}
use Rattle.flow_graph.specs.Graphs.{node_cmp, ascend}
use Rattle.flow_base.specs.PointOrders.{is_same}
use Rattle.max_flow.specs.declared.answers.Half.{Half}
use Rattle.max_flow.specs.Flows.{has_first, has_second}
use Rattle.cut_file.specs.declared.points.CutPoint.{CutPoint}
use Rattle.acceptance_law.specs.RunCuts.{is_inner, names_point}
use Rattle.acceptance_law.specs.Sides.{halves_at}
use Rattle.flow_base.proofs.PointEquality.{points_alike}
use Rattle.measuring.specs.CutRuns.{points_of}
use Rattle.measuring.specs.Measured.{are_points_in, is_point_in}
use Rattle.measuring.specs.Splits.{is_cut, split_points}
use Rattle.flow_base.proofs.PointOrders.{below_other}
use Rattle.measuring.proofs.Orders.{inner_alike}
use Rattle.measuring.proofs.Splits.{above, all_split, all_weaker, behind, nodes_chain}

names_points : (points : List CutPoint) (q : Point) → names_point points q ≡ list_any (λ p. is_same p q)
    (points_of points)
names_points [] q = refl
names_points (point ∷ points) q = ap (λ b. is_same point.point q || b) (names_points points q)

is_split_half : Half → Bool
is_split_half half = has_first half && not (has_second half)

none_same : (q : Point) (points : List Point) → list_all (λ p. not (is_same p q)) points ≡ true →
    list_any (λ p. is_same p q) points ≡ false
none_same q [] all = refl
none_same q (p ∷ points) all =
    let parts = and_parts (not (is_same p q)) (list_all (λ p'. not (is_same p' q)) points) all in
    ap (λ b. b || list_any (λ p'. is_same p' q) points) (was_false (is_same p q) parts.0) ∙ none_same q points parts.1
  where
    was_false : (b : Bool) → not b ≡ true → b ≡ false
    was_false true e = absurd (false≢true e)
    was_false false e = refl

any_point_chosen : (b : Bool) (p q : Point) (more : List Point) →
    list_any (λ p'. is_same p' q) (cond b (p ∷ []) [] ++ more) ≡
    ((b && is_same p q) || list_any (λ p'. is_same p' q) more)
any_point_chosen true p q more = refl
any_point_chosen false p q more = refl

-- the cut has a point of the front where that point is split, and else what the rest has
named_chosen : (split inner_p inner_q same : Bool) (rest other : Bool) → (same ≡ true → inner_p ≡ inner_q) →
    (same ≡ true → rest ≡ false) → (same ≡ false → rest ≡ (other && not inner_q)) →
    (((split && not inner_p) && same) || rest) ≡ ((cond same split other) && not inner_q)
named_chosen split inner_p inner_q true rest other alike none later =
    ap (λ r. ((split && not inner_p) && true) || r) (none refl)
    ∙ (ap (λ b. ((split && not b) && true) || false) (alike refl) ∙ plain (split && not inner_q))
  where
    plain : (b : Bool) → ((b && true) || false) ≡ b
    plain true = refl
    plain false = refl
named_chosen split inner_p inner_q false rest other alike none later =
    ap (λ b. b || rest) (never (split && not inner_p)) ∙ later refl
  where
    never : (b : Bool) → (b && false) ≡ false
    never true = refl
    never false = refl

split_half_cond : (b : Bool) (half other : Half) → is_split_half (cond b half other) ≡ cond b (is_split_half half)
    (is_split_half other)
unfolding is_split_half
split_half_cond true half other = refl
split_half_cond false half other = refl

differ_from : (node : Node) (q : Point) (nodes : List Node) → is_same node.point q ≡ true →
    list_all (λ other. is_lt (node_cmp node other)) nodes ≡ true →
    list_all (λ other. not (is_same other.point q)) nodes ≡ true
differ_from node q nodes same all =
    all_weaker (λ other. is_lt (node_cmp node other)) (λ other. not (is_same other.point q))
    (λ other less. ap not (points_alike.symm other.point q
    ∙ (points_alike.congr q node.point other.point (points_alike.symm q node.point ∙ same)
    ∙ below_other node.point other.point less))) nodes all

split_named : (skip : List ℕ) (nodes : List Node) (halves : List Half) (q : Point) → ascend node_cmp nodes ≡ true →
    list_any (λ p. is_same p q) (split_points skip nodes halves) ≡
    (is_split_half (halves_at nodes halves q) && not (is_inner skip q))
unfolding is_split_half
split_named skip [] halves q up = refl
split_named skip (node ∷ nodes) [] q up = refl
split_named skip (node ∷ nodes) (half ∷ halves) q up =
    any_point_chosen (is_cut skip node.point half) node.point q (split_points skip nodes halves)
    ∙ (named_chosen (is_split_half half) (is_inner skip node.point) (is_inner skip q) (is_same node.point q)
    (list_any (λ p. is_same p q) (split_points skip nodes halves)) (is_split_half (halves_at nodes halves q))
    (inner_alike skip node.point q)
    (λ same. none_same q (split_points skip nodes halves) (all_split (λ p. not (is_same p q)) skip nodes halves
    (differ_from node q nodes same (above node_cmp nodes_chain node nodes up))))
    (λ other. split_named skip nodes halves q (behind node_cmp node nodes up))
    ∙ ap (λ b. b && not (is_inner skip q)) (ap (λ b. cond b (is_split_half half) (is_split_half
    (halves_at nodes halves q))) (points_alike.symm node.point q)
    ∙ sym (split_half_cond (is_same q node.point) half (halves_at nodes halves q))))

pub split_listed : (skip : List ℕ) (nodes : List Node) (halves : List Half) (q : Point) → ascend node_cmp nodes ≡ true →
    list_any (λ p. is_same p q) (split_points skip nodes halves) ≡
    ((has_first (halves_at nodes halves q) && not (has_second (halves_at nodes halves q))) && not (is_inner skip q))
unfolding is_split_half
split_listed skip nodes halves q up = split_named skip nodes halves q up

-- the cut has the points that the side splits, without the inner ones of skipped regions
pub cut_names : (skip : List ℕ) (nodes : List Node) (halves : List Half) (points : List CutPoint) (q : Point) →
    ascend node_cmp nodes ≡ true → points_of points ≡ split_points skip nodes halves →
    names_point points q ≡ ((has_first (halves_at nodes halves q) && not (has_second (halves_at nodes halves q)))
    && not (is_inner skip q))
cut_names skip nodes halves points q up same =
    names_points points q ∙ (ap (list_any (λ p. is_same p q)) same ∙ split_listed skip nodes halves q up)

-- ---- the points of the cut are points of the graph

pub own_points : (nodes more : List Node) → ((q : Point) → is_point_in nodes q ≡ true → is_point_in more q ≡ true) →
    list_all (λ node. is_point_in more node.point) nodes ≡ true
own_points [] more within = refl
own_points (node ∷ nodes) more within =
    and_from (is_point_in more node.point) (list_all (λ other. is_point_in more other.point) nodes)
    (within node.point (ap (λ b. b || is_point_in nodes node.point) (points_alike.refl node.point)))
    (own_points nodes more (λ q own. within q (behind_is (is_same node.point q) (is_point_in nodes q) own)))
  where
    behind_is : (a b : Bool) → b ≡ true → (a || b) ≡ true
    behind_is true b own = refl
    behind_is false b own = own

pub cut_is_in : (skip : List ℕ) (nodes : List Node) (halves : List Half) (points : List CutPoint) →
    points_of points ≡ split_points skip nodes halves → are_points_in nodes (points_of points) ≡ true
cut_is_in skip nodes halves points same =
    ap (are_points_in nodes) same
    ∙ all_split (is_point_in nodes) skip nodes halves (own_points nodes nodes (λ q own. own))
