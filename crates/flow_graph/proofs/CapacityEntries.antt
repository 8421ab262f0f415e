-- The entries of a map of capacities as the points of a graph.
use Rattle.std.proofs.Common.{◌≡◌, ℕ, suc, ◌<◌, ◌^◌, ◌||◌, cond, nat_lt, Bool, true, false}
use Rattle.std.proofs.Common.{List, [], ◌∷◌, length, map, get_or, Option, Some, None, unwrap_or, refl, sym, ap, ◌∙◌}
use Rattle.std.proofs.Common.{subst, arith}
use Rattle.std.proofs.lemmas.List.{length-map}
use Rattle.std.specs.BTreeMap as tree
use Rattle.std.specs.BTreeMap.{BTreeMap, is_at}
use Rattle.std.specs.Map.{lookup}
use Rattle.std.specs.Option.{is_some, IsSome}
use Rattle.std.specs.List.{list_all}
use Rattle.std.specs.List.Sorted.{IsStrictlySortedBy}
use Rattle.std.specs.Ordering.{is_eq, is_lt, ordering_reverse}
use Rattle.std.specs.declared.cmp.Ordering.{Ordering}
use Rattle.std.specs.declared.cmp.Ordering.TheVariants.{Less, Equal, Greater}
use Rattle.std.proofs.lemmas.Bool.{and_from}
use Rattle.std.proofs.lemmas.List.Folds.{list_all-map}
use Rattle.std.proofs.lemmas.Map.Keys.{sorted_head, sorted_tail}
use Rattle.std.proofs.lemmas.Map.Views.{All-found, All-keys_found}
use Rattle.flow_base.specs.declared.points.Point.{Point}
use Rattle.flow_base.specs.PointOrders.{point_cmp, is_same}
use Rattle.flow_graph.specs.declared.builders.Builder.{Builder}
use Rattle.flow_graph.specs.declared.events.Event.{Event}
use Rattle.flow_graph.specs.declared.nodes.Node.{Node}
use Rattle.flow_graph.specs.Graphs.{ascend, node_cmp, has_capacity, are_points}
use Rattle.flow_graph.specs.EventGraphs.{capacity_at, has_passed, HasFewPoints}
use Rattle.flow_graph.specs.Builders.{has_point, ArePositive, StandsFor}
use Rattle.flow_graph.specs.Keeping.{is_positive, is_sound}
use Rattle.flow_base.proofs.PointOrders.{point_total}
use Rattle.flow_graph.proofs.Indices.{is_in}
use Rattle.flow_graph.proofs.KeptAfterEvent.{all_more, known_same}

abbrev pub pair_of : Node → Point × ℕ
pair_of node = (node.point, node.capacity)

choose : (b : Bool) (n m : ℕ) (o : Option ℕ) → m ≡ unwrap_or o 0 → cond b n m ≡ unwrap_or (cond b (Some n) o) 0
choose true n m o e = refl
choose false n m o e = e

pub capacity_lookup : (nodes : List Node) (q : Point) → capacity_at nodes q ≡ unwrap_or
    (lookup (is_at (point_cmp q)) (map pair_of nodes)) 0
capacity_lookup [] q = refl
capacity_lookup (n ∷ ns) q = choose (is_same q n.point) n.capacity (capacity_at ns q)
    (lookup (is_at (point_cmp q)) (map pair_of ns)) (capacity_lookup ns q)

eq_reversed : (o : Ordering) → is_eq (ordering_reverse o) ≡ is_eq o
eq_reversed Less = refl
eq_reversed Equal = refl
eq_reversed Greater = refl

known : (b : Bool) (n : ℕ) (o : Option ℕ) (c : Bool) → is_some o ≡ c → is_some (cond b (Some n) o) ≡ (b || c)
known true n o c e = refl
known false n o c e = e

pub in_names : (nodes : List Node) (p : Point) → is_some (lookup (is_at (point_cmp p)) (map pair_of nodes)) ≡ is_in
    (map (λ n. n.point) nodes) p
in_names [] p = refl
in_names (n ∷ ns) p =
    known (is_eq (point_cmp p n.point)) n.capacity (lookup (is_at (point_cmp p)) (map pair_of ns))
    (is_in (map (λ n. n.point) ns) p) (in_names ns p)
    ∙ ap (λ b. b || is_in (map (λ n. n.point) ns) p) (ap is_eq (point_total.antisymm p n.point) ∙
    eq_reversed (point_cmp n.point p))

-- the builder's points are those of the graph, where the graph's points are its entries
pub sound_names : (builder : Builder) (nodes : List Node) → map pair_of nodes ≡ builder.capacities.entries →
    list_all (is_sound (has_point builder)) builder.links.keys ≡ true →
    list_all (is_sound (is_in (map (λ n. n.point) nodes))) builder.links.keys ≡ true
sound_names builder nodes same sound =
    all_more (has_point builder) (is_in (map (λ n. n.point) nodes))
    (λ p has. sym (in_names nodes p) ∙ (ap (λ es. is_some (lookup (is_at (point_cmp p)) es)) same ∙ has))
    builder.links.keys sound

names_keys : (nodes : List Node) → map (λ n. n.point) nodes ≡ map (λ e. e.0) (map pair_of nodes)
names_keys [] = refl
names_keys (n ∷ ns) = ap (λ l. n.point ∷ l) (names_keys ns)

pub names_ordered : (map_of : BTreeMap Point ℕ) (nodes : List Node) → map pair_of nodes ≡ map_of.entries →
    tree.IsOrdered point_cmp map_of →
    IsStrictlySortedBy point_cmp (map (λ n. n.point) nodes)
names_ordered map_of nodes same ordered =
    subst (IsStrictlySortedBy point_cmp) (sym (names_keys nodes ∙ ap (map (λ e. e.0)) same)) ordered

nodes_ascend : (nodes : List Node) → IsStrictlySortedBy point_cmp (map (λ n. n.point) nodes) → ascend node_cmp nodes ≡
    true
nodes_ascend [] ordered = refl
nodes_ascend (n ∷ []) ordered = refl
nodes_ascend (n ∷ (m ∷ ms)) ordered =
    and_from (is_lt (node_cmp n m)) (ascend node_cmp (m ∷ ms))
    (ap is_lt (sorted_head point_cmp n.point (map (λ k. k.point) (m ∷ ms)) ordered).0)
    (nodes_ascend (m ∷ ms) (sorted_tail point_cmp n.point (map (λ k. k.point) (m ∷ ms)) ordered))

all_by_index : {X : Type 0} (test : X → Bool) (xs : List X) → ((k : ℕ) (d : X) → k < length xs → test (get_or xs k d)
    ≡ true) → list_all test xs ≡ true
all_by_index test [] h = refl
all_by_index test (x ∷ xs) h = and_from (test x) (list_all test xs) (h 0 x (omega arith))
    (all_by_index test xs (λ k d below. h (suc k) d (omega arith)))

pub points_kept : (builder : Builder) (nodes : List Node) → map pair_of nodes ≡ builder.capacities.entries →
    tree.IsOrdered point_cmp builder.capacities →
    ArePositive builder → are_points nodes ≡ true
points_kept builder nodes same ordered positive =
    and_from (list_all has_capacity nodes) (ascend node_cmp nodes)
    (sym (list_all-map (λ e. nat_lt 0 e.1) pair_of nodes)
    ∙ (ap (list_all (λ e. nat_lt 0 e.1)) same
    ∙ all_by_index (λ e. nat_lt 0 e.1) builder.capacities.entries
    (λ k d below. sym (ap is_positive (All-found point_total builder.capacities ordered k d below)) ∙
    positive (get_or builder.capacities.entries k d).0)))
    (nodes_ascend nodes (names_ordered builder.capacities nodes same ordered))

some_true : (o : Option ℕ) → IsSome o → is_some o ≡ true
some_true None h = h
some_true (Some n) h = refl

-- the points of a builder are few where those of its events are
pub few_kept : (builder : Builder) (events : List Event) → StandsFor builder events → HasFewPoints events →
    tree.IsOrdered point_cmp builder.capacities →
    length builder.capacities.entries < 2 ^ 32
few_kept builder events stands few ordered =
    let small : length (tree.keys builder.capacities) < 2 ^ 32 = few (tree.keys builder.capacities) ordered
    (all_by_index (has_passed events) (tree.keys builder.capacities)
    (λ k d below.
    sym (known_same builder.capacities.entries builder.links.keys events stands
    (get_or (tree.keys builder.capacities) k d))
    ∙ some_true (tree.get point_cmp builder.capacities (get_or (tree.keys builder.capacities) k d))
    (All-keys_found point_total builder.capacities ordered k d below))) in
    let count : length (tree.keys builder.capacities) ≡ length builder.capacities.entries =
    length-map builder.capacities.entries _ in
    omega (arith, small, count)
