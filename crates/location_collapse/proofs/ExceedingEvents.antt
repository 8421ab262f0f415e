-- Events that exceed a limit: their graph, and the events that go on from there.
use Rattle.std.proofs.Common.{◌≡◌, ℕ, ◌+◌, ◌≤◌, ◌<◌, ◌^◌, ◌==◌, ◌||◌, ◌++◌, ◌∷◌, [], cond, not, Bool, true}
use Rattle.std.proofs.Common.{false, List, length, map, refl, sym, ap, ◌∙◌, subst, inl, inr, arith}
use Rattle.std.proofs.Common.{append_assoc, append-nil}
use Rattle.std.specs.List.{list_all, list_any}
use Rattle.std.proofs.lemmas.Bool.{and_parts, or_left, ltb-true}
use Rattle.std.proofs.lemmas.List.{length-map}
use Rattle.std.proofs.lemmas.Map.Made.{length-le_from_is_member}
use Rattle.flow_base.specs.declared.points.Point.{Point}
use Rattle.flow_base.specs.PointOrders.{is_same}
use Rattle.flow_graph.specs.declared.events.Event.{Event}
use Rattle.flow_graph.specs.declared.graphs.Graph.{Graph}
use Rattle.flow_graph.specs.declared.named_links.NamedLink.{NamedLink}
use Rattle.flow_graph.specs.declared.nodes.Node.{Node}
use Rattle.flow_graph.specs.EventGraphs.{bits_at, passed, has_passed, named_links, is_among, links_by, capacity_at}
use Rattle.flow_graph.specs.EventGraphs.{named, IsGraphOf}
use Rattle.flow_graph.proofs.KeptAfterEvent.{passed_push, among_push}
use Rattle.location_collapse.specs.Limits.{ExceedsLimit, is_same_link}
use Rattle.location_collapse.specs.Laws.{IsWithinLimits, has_small_capacity}
use Rattle.flow_base.proofs.PointEquality.{points_alike}
use Rattle.location_collapse.proofs.EqualityByOrder.{links_alike, any_flipped}
use Rattle.location_collapse.proofs.CollapseLimits.{all_more, of_members, still_passed}

-- ---- the graph

name_chosen : (b : Bool) (n m : ℕ) (rest : Bool) → not (cond b n m == 0) ≡ true → (not (m == 0) ≡ true → rest ≡ true) →
    (b || rest) ≡ true
name_chosen true n m rest has h = refl
name_chosen false n m rest has h = h has

-- a point with a capacity is one of the graph's
named_point : (nodes : List Node) (q : Point) → not (capacity_at nodes q == 0) ≡ true → list_any (is_same q)
    (map (λ node. node.point) nodes) ≡ true
named_point [] q has = absurd (cc)
named_point (node ∷ nodes) q has =
    name_chosen (is_same q node.point) node.capacity (capacity_at nodes q) (list_any (is_same q)
    (map (λ node. node.point) nodes)) has (named_point nodes q)

below_chosen : (b : Bool) (n m : ℕ) → n < 2 ^ 48 → m < 2 ^ 48 → cond b n m < 2 ^ 48
below_chosen true n m a b = a
below_chosen false n m a b = b

capacity_below : (nodes : List Node) (q : Point) → list_all has_small_capacity nodes ≡ true → capacity_at nodes q < 2 ^ 48
capacity_below [] q all = omega arith
capacity_below (node ∷ nodes) q all =
    let parts = and_parts (has_small_capacity node) (list_all has_small_capacity nodes) all in
    below_chosen (is_same q node.point) node.capacity (capacity_at nodes q) (ltb-true node.capacity (2 ^ 48) parts.0)
    (capacity_below nodes q parts.1)

alike_link : (keys : List NamedLink) (x p : NamedLink) → is_same_link p x ≡ true → is_among keys x ≡ is_among keys p
alike_link [] x p e = refl
alike_link (k ∷ ks) x p e =
    ap (λ b. b || is_among ks x) (links_alike.symm k x ∙ (sym (links_alike.congr p x k e) ∙ links_alike.symm p k))
    ∙ ap (λ b. is_same_link k p || b) (alike_link ks x p e)

pub graph_exceeds : (events : List Event) (graph : Graph) → IsGraphOf events graph → ExceedsLimit events →
    IsWithinLimits graph → ⊥
graph_exceeds events graph of (inl many) within =
    let names : List Point = map (λ node. node.point) graph.points in
    let has : (q : Point) → has_passed events q ≡ true → list_any (is_same q) names ≡ true =
    λ q passes. named_point graph.points q (ap (λ n. not (n == 0)) (of.points q) ∙ passes) in
    let fewer : length many.points ≤ length names =
    length-le_from_is_member points_alike many.points names many.differ
    (λ q member. of_members is_same (λ p. list_any (is_same p) names)
    (λ x p e in_names. sym (any_alike names x p e) ∙ in_names)
    many.points (all_more (has_passed events) (λ p. list_any (is_same p) names) has many.points many.passed) q member) in
    let count : length names ≡ length graph.points = length-map graph.points (λ node. node.point) in
    let few : length graph.points ≤ 65536 = within.points in
    let over : 65536 < length many.points = many.more in omega (arith, fewer, count, few, over)
  where
    any_alike : (names : List Point) (x p : Point) → is_same p x ≡ true → list_any (is_same x) names ≡ list_any
        (is_same p) names
    any_alike names x p e = ap (λ test. list_any test names) (λ i y. sym (points_alike.congr p x y e) i)
graph_exceeds events graph of (inr (inl many)) within =
    let names : List NamedLink = map (named graph.points) graph.links in
    let fewer : length many.links ≤ length names =
    length-le_from_is_member links_alike many.links names many.differ
    (λ q member. any_flipped names q ∙ of_members is_same_link (is_among names)
    (λ x p e has. sym (alike_link names x p e) ∙ has) many.links
    (all_more (is_among (named_links events)) (is_among names) (λ j occurs. of.links j ∙ occurs) many.links many.occur)
    q member) in
    let count : length names ≡ length graph.links = length-map graph.links (named graph.points) in
    let few : length graph.links ≤ 1048576 = within.links in
    let over : 1048576 < length many.links = many.more in omega (arith, fewer, count, few, over)
graph_exceeds events graph of (inr (inr large)) within =
    let below : capacity_at graph.points large.point < 2 ^ 48 = capacity_below graph.points large.point
    within.capacities in
    let same : capacity_at graph.points large.point ≡ passed events large.point = of.points large.point in
    let over : 2 ^ 48 ≤ passed events large.point = large.reached in omega (arith, below, same, over)

-- ---- the events that go on

one_more : (events : List Event) (e : Event) → ExceedsLimit events → ExceedsLimit (events ++ e ∷ [])
one_more events e (inl many) = inl (record {
  points = many.points;
  differ = many.differ;
  passed = all_more (has_passed events) (has_passed (events ++ e ∷ [])) (still_passed events e) many.points many.passed;
  more = many.more;
})
one_more events e (inr (inl many)) = inr (inl (record {
  links = many.links;
  differ = many.differ;
  occur = all_more (is_among (named_links events)) (is_among (named_links (events ++ e ∷ [])))
      (λ j occurs. among_push events e j ∙ or_left (is_among (named_links events) j)
      (is_among (links_by (has_passed events) e) j) occurs) many.links many.occur;
  more = many.more;
}))
one_more events e (inr (inr large)) = inr (inr (record {
  point = large.point;
  reached = let all : passed (events ++ e ∷ []) large.point ≡ passed events large.point + bits_at large.point e =
      passed_push events e large.point in
      let over : 2 ^ 48 ≤ passed events large.point = large.reached in omega (arith, all, over);
}))

pub more_exceed : (events more : List Event) → ExceedsLimit events → ExceedsLimit (events ++ more)
more_exceed events [] exceeds = subst ExceedsLimit (sym (append-nil events)) exceeds
more_exceed events (e ∷ more) exceeds =
    subst ExceedsLimit (append_assoc events (e ∷ []) more) (more_exceed (events ++ e ∷ []) more
    (one_more events e exceeds))
