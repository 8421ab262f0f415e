-- The cut of a run and a side has few points and few runs for the side's capacity.
use Rattle.std.proofs.Common.{◌≡◌, ℕ, ◌+◌, ◌*◌, ◌≤◌, ◌&&◌, ◌||◌, ◌∷◌, [], cond, not, nat_le}
use Rattle.std.proofs.Common.{Bool, true, false, List, length, refl, sym, ap, ◌∙◌, arith, inl, inr}
use Rattle.std.specs.List.{AllByRecursion, list_all, sum_by}
use Rattle.std.specs.Ordering.{is_eq, ordering_reverse}
use Rattle.std.specs.declared.cmp.Ordering.{Ordering}
use Rattle.std.specs.declared.cmp.Ordering.TheVariants.{Less, Equal, Greater}
use Rattle.std.proofs.lemmas.Bool.{and_parts, cases_Bool, cond-true, cond-false, ltb-true, or_left, or_right}
use Rattle.std.proofs.lemmas.List.Sums.{sum_by-append, sum_by-cons}
use Rattle.flow_base.specs.declared.points.Point.{Point}
use Rattle.flow_base.specs.Points.{is_slot}
use Rattle.flow_base.specs.Words.{bit_count}
use Rattle.flow_base.specs.PointOrders.{is_below, point_cmp, is_same}
use Rattle.flow_base.proofs.PointOrders.{below_other, below_trans, point_total}
use Rattle.cut_file.specs.declared.points.CutPoint.{CutPoint}
use Rattle.cut_file.specs.Cuts.{CutPicture, is_cut_picture, is_version, is_word, are_regions, are_points_of, is_point_of}
use Rattle.cut_file.specs.Cuts.{is_cut_point, is_point, is_rest, are_runs, has_slot, neighbours_pass}
use Rattle.cut_file.specs.Cuts.{stands_before}
use Rattle.cut_file.specs.Masks.{listed_masks}
use Rattle.flow_graph.specs.declared.events.Event.{Event}
use Rattle.flow_graph.specs.declared.events.Event.TheVariants.{Pass, Link, FromSecret, Implicit, Out}
use Rattle.flow_graph.specs.declared.graphs.Graph.{Graph}
use Rattle.flow_graph.specs.declared.nodes.Node.{Node}
use Rattle.flow_graph.specs.EventGraphs.{bits_at, passed, capacity_at, IsGraphOf}
use Rattle.flow_graph.specs.Graphs.{ascend, node_cmp, has_capacity}
use Rattle.max_flow.specs.declared.answers.Half.{Half}
use Rattle.max_flow.specs.Flows.{has_first}
use Rattle.acceptance_law.specs.GraphLaws.{split_bits}
use Rattle.acceptance_law.specs.RunCuts.{HasVisitMasks, is_inner, mask_at_event, names_point, visit_masks}
use Rattle.cut_file.specs.TextLengths.{listed_runs}
use Rattle.acceptance_law.specs.RunLaws.{FewRunsLaw}
use Rattle.acceptance_law.specs.Sides.{NamedSide, halves_at, is_split, named_side}
use Rattle.acceptance_law.proofs.CutMeasured.{valid_slots}
use Rattle.acceptance_law.proofs.CutVisits.{same_left}
use Rattle.acceptance_law.proofs.GraphCapacities.{split_bits_within}
use Rattle.acceptance_law.proofs.GraphEvents.{all_more, same_itself}
use Rattle.acceptance_law.proofs.MaskRuns.{few_runs}

-- ---- points that are the same

turned : (o : Ordering) → is_eq (ordering_reverse o) ≡ is_eq o
turned Less = refl
turned Equal = refl
turned Greater = refl

same_turned : (p q : Point) → is_same p q ≡ is_same q p
same_turned p q = ap is_eq (point_total.antisymm p q) ∙ turned (point_cmp q p)

-- ---- the bits of the visits of a point are those that pass it

one_bits : (b : Bool) (mask : ℕ) → sum_by bit_count (cond b (mask ∷ []) []) ≡ cond b (bit_count mask) 0
one_bits true mask = let all = sum_by-cons bit_count mask [] in omega (arith, all)
one_bits false mask = omega arith

event_bits : (point : Point) (event : Event) → sum_by bit_count (mask_at_event point event) ≡ bits_at point event
event_bits point (Pass other mask) =
    one_bits (is_same point other) mask ∙ ap (λ b. cond b (bit_count mask) 0) (same_turned point other)
event_bits point (Link source target) = omega arith
event_bits point (FromSecret other) = omega arith
event_bits point (Implicit other region) = omega arith
event_bits point (Out region other) = omega arith

visit_bits : (point : Point) (events : List Event) → sum_by bit_count (visit_masks point events) ≡ passed events point
unfolding visit_masks
visit_bits point [] = omega arith
visit_bits point (event ∷ events) =
    let parts = sum_by-append bit_count (mask_at_event point event) (visit_masks point events) in
    let one = event_bits point event in
    let rest = visit_bits point events in
    let all = sum_by-cons (bits_at point) event events in
    omega (arith, parts, one, rest, all)

-- ---- sums

sum_same : {A : Type 0} (f g : A → ℕ) → ((x : A) → f x ≡ g x) → (xs : List A) → sum_by f xs ≡ sum_by g xs
sum_same f g same [] = omega arith
sum_same f g same (x ∷ xs) =
    let first = sum_by-cons f x xs in
    let second = sum_by-cons g x xs in
    let one = same x in
    let rest = sum_same f g same xs in
    omega (arith, first, second, one, rest)

sum_both : {A : Type 0} (f g : A → ℕ) (xs : List A) →
    sum_by (λ x. f x + g x) xs ≡ sum_by f xs + sum_by g xs
sum_both f g [] = omega arith
sum_both f g (x ∷ xs) =
    let all = sum_by-cons (λ y. f y + g y) x xs in
    let first = sum_by-cons f x xs in
    let second = sum_by-cons g x xs in
    let rest = sum_both f g xs in
    omega (arith, all, first, second, rest)

sum_none : {A : Type 0} (xs : List A) → sum_by (λ _. 0) xs ≡ 0
sum_none [] = omega arith
sum_none (x ∷ xs) =
    let all = sum_by-cons (λ _. 0) x xs in
    let rest = sum_none xs in
    omega (arith, all, rest)

-- ---- of ascending points at most one is a given one

all_behind : (first : CutPoint) (points : List CutPoint) → neighbours_pass stands_before (first ∷ points) ≡ true →
    AllByRecursion (λ x. is_below first.point x.point ≡ true) points
all_behind first [] ascend = tt
all_behind first (next ∷ points) ascend =
    let both = and_parts (is_below first.point next.point) (neighbours_pass stands_before (next ∷ points)) ascend in (
      both.0,
      all_more (λ x. is_below next.point x.point ≡ true) (λ x. is_below first.point x.point ≡ true)
          (λ x below. below_trans first.point next.point x.point both.0 below) points (all_behind next points both.1),
    )

ascend_behind : (first : CutPoint) (points : List CutPoint) →
    neighbours_pass stands_before (first ∷ points) ≡ true → neighbours_pass stands_before points ≡ true
ascend_behind first [] ascend = refl
ascend_behind first (next ∷ points) ascend =
    (and_parts (is_below first.point next.point) (neighbours_pass stands_before (next ∷ points)) ascend).1

or_none : (a b : Bool) → a ≡ false → b ≡ false → (a || b) ≡ false
or_none true b first second = absurd (cc)
or_none false b first second = second

none_named : (point other : Point) (points : List CutPoint) → is_slot point.slot ≡ true →
    is_same point other ≡ true → list_all has_slot points ≡ true →
    AllByRecursion (λ x. is_below point x.point ≡ true) points → names_point points other ≡ false
none_named point other [] slot same slots behind = refl
none_named point other (next ∷ points) slot same slots behind =
    let both = and_parts (has_slot next) (list_all has_slot points) slots in
    or_none (is_same next.point other) (names_point points other)
    (same_turned next.point other
    ∙ sym (same_left point other next.point same)
    ∙ below_other point next.point behind.0)
    (none_named point other points slot same both.1 behind.1)

later_named : (a b : Bool) → a ≡ false → (a || b) ≡ b
later_named true b other = absurd (cc)
later_named false b other = refl

sum_at : (other : Point) (n : ℕ) (points : List CutPoint) → list_all has_slot points ≡ true →
    neighbours_pass stands_before points ≡ true →
    sum_by (λ x. cond (is_same other x.point) n 0) points ≤ cond (names_point points other) n 0
sum_at other n [] slots ascend = omega arith
sum_at other n (first ∷ points) slots ascend =
    let both = and_parts (has_slot first) (list_all has_slot points) slots in
    let rest = sum_at other n points both.1 (ascend_behind first points ascend) in
    let all = sum_by-cons (λ (x : CutPoint). cond (is_same other x.point) n 0) first points in
    let turn = same_turned other first.point in
    elim (cases_Bool (is_same first.point other)) [
      | inl same ↦
          let none = none_named first.point other points both.0 same both.1 (all_behind first points ascend) in
          let here : cond (is_same other first.point) n 0 ≡ n =
          cond-true (is_same other first.point) n 0 (turn ∙ same) in
          let later : cond (names_point points other) n 0 ≡ 0 = cond-false (names_point points other) n 0 none in
          let whole : cond (names_point (first ∷ points) other) n 0 ≡ n =
          cond-true (names_point (first ∷ points) other) n 0
          (or_left (is_same first.point other) (names_point points other) same) in
          omega (arith, rest, all, here, later, whole)
      | inr apart ↦
          let here : cond (is_same other first.point) n 0 ≡ 0 =
          cond-false (is_same other first.point) n 0 (turn ∙ apart) in
          let whole : cond (names_point (first ∷ points) other) n 0 ≡ cond (names_point points other) n 0 =
          ap (λ b. cond b n 0) (later_named (is_same first.point other) (names_point points other) apart) in
          omega (arith, rest, all, here, whole)
    ]

-- ---- the bits that pass the points of a cut

abbrev passed_all : List CutPoint → List Event → ℕ
passed_all points events = sum_by (λ x. passed events x.point) points

cond_within : (a b : Bool) (n : ℕ) → (a ≡ true → b ≡ true) → cond a n 0 ≤ cond b n 0
cond_within true b n more =
    let all = cond-true b n 0 (more refl) in omega (arith, all)
cond_within false b n more = omega arith

module _ (side : NamedSide) (points : List CutPoint) (slots : list_all has_slot points ≡ true)
    (ascends : neighbours_pass stands_before points ≡ true)
    (split : (point : Point) → names_point points point ≡ true → is_split side point ≡ true) where
  event_within : (event : Event) → sum_by (λ x. bits_at x.point event) points ≤ split_bits side event
  event_within (Pass other mask) =
      let one = sum_at other (bit_count mask) points slots ascends in
      let more = cond_within (names_point points other) (is_split side other) (bit_count mask) (split other) in
      omega (arith, one, more)
  event_within (Link source target) = let none = sum_none points in omega (arith, none)
  event_within (FromSecret other) = let none = sum_none points in omega (arith, none)
  event_within (Implicit other region) = let none = sum_none points in omega (arith, none)
  event_within (Out region other) = let none = sum_none points in omega (arith, none)

  passed-within : (events : List Event) → passed_all points events ≤ sum_by (split_bits side) events
  passed-within [] = let none = sum_none points in omega (arith, none)
  passed-within (event ∷ events) =
      let parts = sum_same (λ (x : CutPoint). passed (event ∷ events) x.point)
      (λ x. bits_at x.point event + passed events x.point) (λ x. sum_by-cons (bits_at x.point) event events) points in
      let both = sum_both (λ (x : CutPoint). bits_at x.point event) (λ x. passed events x.point) points in
      let one = event_within event in
      let rest = passed-within events in
      let all = sum_by-cons (split_bits side) event events in
      omega (arith, parts, both, one, rest, all)

-- ---- a split point has a capacity

half_capacity : (nodes : List Node) (halves : List Half) (point : Point) → list_all has_capacity nodes ≡ true →
    has_first (halves_at nodes halves point) ≡ true → 1 ≤ capacity_at nodes point
half_capacity [] halves point have inside = absurd (cc)
half_capacity (node ∷ nodes) [] point have inside = absurd (cc)
half_capacity (node ∷ nodes) (half ∷ halves) point have inside =
    let both = and_parts (has_capacity node) (list_all has_capacity nodes) have in
    elim (cases_Bool (is_same point node.point)) [
      | inl same ↦
          let some = ltb-true 0 node.capacity both.0 in
          let here : capacity_at (node ∷ nodes) point ≡ node.capacity =
          cond-true (is_same point node.point) node.capacity (capacity_at nodes point) same in
          omega (arith, some, here)
      | inr other ↦
          let later = half_capacity nodes halves point both.1
          (ap has_first (sym (cond-false (is_same point node.point) half (halves_at nodes halves point) other))
          ∙ inside) in
          let here : capacity_at (node ∷ nodes) point ≡ capacity_at nodes point =
          cond-false (is_same point node.point) node.capacity (capacity_at nodes point) other in
          omega (arith, later, here)
    ]

split_passed : (events : List Event) (graph : Graph) (halves : List Half) (relays : List Bool) →
    IsGraphOf events graph → (point : Point) → is_split (named_side graph halves relays) point ≡ true → 1 ≤ passed events point
split_passed events graph halves relays is point split =
    let parts = and_parts (list_all has_capacity graph.points) (ascend node_cmp graph.points) graph.points_ascend in
    let first = (and_parts (has_first (halves_at graph.points halves point)) _ split).0 in
    let some = half_capacity graph.points halves point parts.0 first in
    let same = is.points point in
    omega (arith, some, same)

-- ---- each point of a cut

abbrev IsFew : List Event → CutPoint → Type 0
IsFew events cut_point =
    (1 ≤ passed events cut_point.point) × (length cut_point.runs ≤ 2 * passed events cut_point.point + 1)

sum_few : (events : List Event) (points : List CutPoint) → AllByRecursion (IsFew events) points →
    (length points ≤ passed_all points events) × (listed_runs points ≤ 2 * passed_all points events + length points)
sum_few events [] few = (omega arith, omega arith)
sum_few events (first ∷ points) few =
    let rest = sum_few events points few.1 in
    let all = sum_by-cons (λ (x : CutPoint). passed events x.point) first points in
    let runs = sum_by-cons (λ (x : CutPoint). length x.runs) first points in
    let some = few.0.0 in
    let own = few.0.1 in
    let others = rest.0 in
    let counted = rest.1 in
    (omega (arith, all, some, others), omega (arith, all, runs, own, counted))

few_at : (events : List Event) (cut_point : CutPoint) → HasVisitMasks events cut_point →
    is_cut_point cut_point ≡ true → 1 ≤ passed events cut_point.point → IsFew events cut_point
few_at events cut_point have is some =
    let parts = and_parts (is_point cut_point.point) (are_runs cut_point.runs && is_rest cut_point.rest) is in
    let runs = and_parts (are_runs cut_point.runs) (is_rest cut_point.rest) parts.1 in
    let few = few_runs cut_point.runs runs.0 in
    let bits : sum_by bit_count (listed_masks cut_point.runs) ≡ passed events cut_point.point =
    ap (sum_by bit_count) have.masks ∙ visit_bits cut_point.point events in
    (some, omega (arith, few, bits))

all_few : (version : ℕ) (events : List Event) (points : List CutPoint) →
    AllByRecursion (HasVisitMasks events) points → list_all (is_point_of version) points ≡ true →
    ((point : Point) → names_point points point ≡ true → 1 ≤ passed events point) →
    AllByRecursion (IsFew events) points
all_few version events [] have are some = tt
all_few version events (first ∷ points) have are some =
    let both = and_parts (is_point_of version first) (list_all (is_point_of version) points) are in
    let own = and_parts (is_cut_point first) _ both.0 in (
      few_at events first have.0 own.0
          (some first.point
          (or_left (is_same first.point first.point) (names_point points first.point) (same_itself first.point))),
      all_few version events points have.1 both.1
          (λ point named. some point (or_right (is_same first.point point) (names_point points point) named)),
    )

-- ---- the law

valid_points : (cut : CutPicture) → is_cut_picture cut ≡ true → are_points_of cut.version cut.points ≡ true
valid_points cut valid =
    let a = and_parts (is_version cut.version) _ valid in
    let b = and_parts (nat_le cut.secret_len 65536) _ a.1 in
    let c = and_parts (is_word cut.bits) _ b.1 in
    (and_parts (are_regions cut.skip) (are_points_of cut.version cut.points) c.1).1

pub few_runs_law : FewRunsLaw
few_runs_law secret_len events graph halves relays cut is_graph is_side is_cut valid =
    let side = named_side graph halves relays in
    let points = and_parts (list_all (is_point_of cut.version) cut.points) (neighbours_pass stands_before cut.points)
    (valid_points cut valid) in
    let split : (point : Point) → names_point cut.points point ≡ true → is_split side point ≡ true =
    λ point named.
    (and_parts (is_split side point) (not (is_inner cut.skip point)) (sym (is_cut.points point) ∙ named)).0 in
    let few = sum_few events cut.points (all_few cut.version events cut.points is_cut.masks points.0
    (λ point named. split_passed events graph halves relays is_graph point (split point named))) in
    let within = passed-within side cut.points (valid_slots cut valid) points.1 split events in
    let capacity = split_bits_within events graph halves relays is_graph is_side in
    let some = few.0 in
    let runs = few.1 in
    record { points = omega (arith, some, within, capacity); runs = omega (arith, runs, within, capacity) }
