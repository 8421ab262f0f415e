-- The points that read the secret are the first halves of a side, whose capacity is eight bits for each byte that is
-- read; so the least capacity of a side is no more.
use Rattle.std.proofs.Common.{◌≡◌, ◌⊎◌, ℕ, zero, suc, ◌+◌, ◌≤◌, ◌<◌, ◌&&◌, ◌++◌, ◌∷◌, [], cond}
use Rattle.std.proofs.Common.{Bool, true, false, List, length, map, get_or, refl, sym, ap, ◌∙◌, arith, inl, inr}
use Rattle.std.specs.List.{AllByRecursion, list_all, list_any}
use Rattle.std.specs.List.Sorted.{IsStrictlySortedBy}
use Rattle.std.specs.Ordering.{is_eq}
use Rattle.std.specs.declared.cmp.Ordering.{Ordering}
use Rattle.std.specs.declared.cmp.Ordering.TheVariants.{Less, Equal, Greater}
use Rattle.std.proofs.lemmas.Bool.{and_parts, cases_Bool, cond-true, cond-false, or_cases, or_left, or_right, ltb-true}
use Rattle.std.proofs.lemmas.List.{length-map}
use Rattle.std.proofs.lemmas.List.Sums.{sum_by-cons}
use Rattle.flow_base.specs.declared.points.Point.{Point}
use Rattle.flow_base.specs.Words.{bit_count}
use Rattle.flow_base.specs.PointOrders.{point_cmp, is_same}
use Rattle.flow_base.proofs.PointOrders.{point_total, is_equal, one_if_same}
use Rattle.flow_graph.specs.declared.ends.Arc.{Arc}
use Rattle.flow_graph.specs.declared.ends.End.{End}
use Rattle.flow_graph.specs.declared.ends.End.TheVariants.{Source as SourceEnd, Point as PointEnd, Relay as RelayEnd, Sink as SinkEnd}
use Rattle.flow_graph.specs.declared.events.Event.{Event}
use Rattle.flow_graph.specs.declared.events.Event.TheVariants.{Pass, Link, FromSecret, Implicit, Out}
use Rattle.flow_graph.specs.declared.graphs.Graph.{Graph}
use Rattle.flow_graph.specs.declared.nodes.Node.{Node}
use Rattle.flow_graph.specs.declared.named_links.NamedEnd.{NamedEnd}
use Rattle.flow_graph.specs.declared.named_links.NamedEnd.TheVariants.{Source, At, Relay, Sink}
use Rattle.flow_graph.specs.declared.named_links.NamedLink.{NamedLink}
use Rattle.flow_graph.specs.Graphs.{is_link, is_origin, is_target, leads_on}
use Rattle.flow_graph.specs.EventGraphs.{is_among, bits_at, has_passed, link_cmp, links_after, named, named_end, named_links, one_if, outlet_of, IsGraphOf}
use Rattle.max_flow.specs.declared.answers.Half.{Half}
use Rattle.max_flow.specs.declared.answers.Half.TheVariants.{FirstOnly, Neither}
use Rattle.max_flow.specs.Flows.{IsSideOf, has_first, has_second, leads_out, relay_in}
use Rattle.max_flow.specs.Private.Networks.{sum_below}
use Rattle.max_flow.proofs.NamedSides.{and_not, or_false}
use Rattle.max_flow.proofs.Sums.{sum_add, sum_same, sum_zero}
use Rattle.acceptance_law.specs.Sides.{NamedSide, halves_at, is_split, named_side}
use Rattle.acceptance_law.specs.ClosedEvents.{ends_in, starts_in}
use Rattle.acceptance_law.specs.SecretBits.{is_from_secret, is_secret_slot, secret_bits, secret_bits_of}
use Rattle.acceptance_law.specs.SecretSides.{LeastBitsLaw}
use Rattle.acceptance_law.proofs.GraphEvents.{same_itself}
use Rattle.acceptance_law.proofs.GraphSides.{entered_named, graph_sorted, left_named, link_itself, name_later, points_of}
use Rattle.acceptance_law.proofs.GraphCapacities.{name_at, sum_of_side_capacity, split_more, split_at}
use Rattle.flow_base.specs.Points.{nowhere}

pub secret_alike : (p q : Point) → is_same p q ≡ true → is_secret_slot p.slot ≡ is_secret_slot q.slot
secret_alike p q same = ap (λ (x : Point). is_secret_slot x.slot) (one_if_same p q same)

-- ---- the side of the points that read the secret

abbrev chosen : Bool → Half
chosen true = FirstOnly
chosen false = Neither

abbrev reading : List Node → List Half
reading nodes = map (λ node. chosen (is_secret_slot node.point.slot)) nodes

abbrev no_relays : List ℕ → List Bool
no_relays relays = map (λ relay. false) relays

abbrev reading_side : Graph → NamedSide
reading_side graph = named_side graph (reading graph.points) (no_relays graph.relays)

no_second : (b : Bool) → has_second (chosen b) ≡ false
no_second true = refl
no_second false = refl

has_chosen : (b : Bool) → has_first (chosen b) ≡ true → b ≡ true
has_chosen true e = refl
has_chosen false e = e

second_none : (nodes : List Node) (point : Point) → has_second (halves_at nodes (reading nodes) point) ≡ false
second_none [] point = refl
second_none (node ∷ nodes) point = elim (cases_Bool (is_same point node.point)) [
  | inl same ↦
      ap has_second (cond-true (is_same point node.point) (chosen (is_secret_slot node.point.slot))
      (halves_at nodes (reading nodes) point) same) ∙ no_second (is_secret_slot node.point.slot)
  | inr other ↦
      ap has_second (cond-false (is_same point node.point) (chosen (is_secret_slot node.point.slot))
      (halves_at nodes (reading nodes) point) other) ∙ second_none nodes point
]

-- a point in the side reads the secret
first_reads : (nodes : List Node) (point : Point) → has_first (halves_at nodes (reading nodes) point) ≡ true →
    is_secret_slot point.slot ≡ true
first_reads [] point e = absurd (cc)
first_reads (node ∷ nodes) point e = elim (cases_Bool (is_same point node.point)) [
  | inl same ↦
      secret_alike point node.point same
      ∙ has_chosen (is_secret_slot node.point.slot)
      (ap has_first (sym (cond-true (is_same point node.point) (chosen (is_secret_slot node.point.slot))
      (halves_at nodes (reading nodes) point) same)) ∙ e)
  | inr other ↦
      first_reads nodes point
      (ap has_first (sym (cond-false (is_same point node.point) (chosen (is_secret_slot node.point.slot))
      (halves_at nodes (reading nodes) point) other)) ∙ e)
]

-- and a point of the graph that reads the secret is in the side
reads_first : (nodes : List Node) (i : ℕ) → i < length nodes →
    is_secret_slot (get_or (points_of nodes) i nowhere).slot ≡ true →
    has_first (halves_at nodes (reading nodes) (get_or (points_of nodes) i nowhere)) ≡ true
reads_first [] i below e = absurd (omega arith)
reads_first (node ∷ nodes) zero below e =
    ap has_first (cond-true (is_same node.point node.point) (chosen (is_secret_slot node.point.slot))
    (halves_at nodes (reading nodes) node.point) (same_itself node.point)) ∙ ap (λ b. has_first (chosen b)) e
reads_first (node ∷ nodes) (suc i) below e =
    let point = get_or (points_of nodes) i nowhere in
    elim (cases_Bool (is_same point node.point)) [
      | inl same ↦
          ap has_first (cond-true (is_same point node.point) (chosen (is_secret_slot node.point.slot))
          (halves_at nodes (reading nodes) point) same)
          ∙ ap (λ b. has_first (chosen b)) (sym (secret_alike point node.point same) ∙ e)
      | inr other ↦
          ap has_first (cond-false (is_same point node.point) (chosen (is_secret_slot node.point.slot))
          (halves_at nodes (reading nodes) point) other)
          ∙ reads_first nodes i (omega arith) e
    ]

relay_none : (relays : List ℕ) (region : ℕ) → relay_in relays (no_relays relays) region ≡ false
relay_none [] region = refl
relay_none (relay ∷ relays) region = pick (Rattle.std.specs.Prelude.nat_eq relay region) (relay_none relays region)
  where
    pick : (b : Bool) → relay_in relays (no_relays relays) region ≡ false →
        cond b false (relay_in relays (no_relays relays) region) ≡ false
    pick true e = refl
    pick false e = e

-- ---- the links from the source

one_from : (there : Bool) (point other : Point) (s : NamedEnd) → (rest : List NamedLink) →
    is_among (one_if there s (At point) ++ rest) (record { source = Source; target = At other }) ≡ true →
    (is_among rest (record { source = Source; target = At other }) ≡ true) ⊎ (is_same point other ≡ true)
one_from false point other s rest e = inl e
one_from true point other Source rest e =
    elim (or_cases (is_eq (link_cmp (record { source = Source; target = At point }) (record { source = Source; target = At other })))
    (is_among rest (record { source = Source; target = At other })) e) [ inl same ↦ inr same | inr later ↦ inl later ]
one_from true point other (At p) rest e = inl e
one_from true point other (Relay r) rest e = inl e
one_from true point other Sink rest e = inl e

one_other : (there : Bool) (p other : Point) (target : NamedEnd) (rest : List NamedLink) →
    is_among (one_if there (At p) target ++ rest) (record { source = Source; target = At other }) ≡ true →
    is_among rest (record { source = Source; target = At other }) ≡ true
one_other false p other target rest e = e
one_other true p other target rest e = e

-- a point that a link from the source leads to reads the secret
source_reads : (before events : List Event) (other : Point) → list_all is_from_secret events ≡ true →
    is_among (links_after before events) (record { source = Source; target = At other }) ≡ true →
    is_secret_slot other.slot ≡ true
source_reads before [] other all e = absurd (cc)
source_reads before (Pass point mask ∷ events) other all e =
    source_reads (before ++ Pass point mask ∷ []) events other all e
source_reads before (Link source target ∷ events) other all e =
    source_reads (before ++ Link source target ∷ []) events other all
    (one_other (has_passed before source && has_passed before target) source other (At target)
    (links_after (before ++ Link source target ∷ []) events) e)
source_reads before (FromSecret point ∷ events) other all e =
    let parts = and_parts (is_secret_slot point.slot) (list_all is_from_secret events) all in
    elim (one_from (has_passed before point) point other Source (links_after (before ++ FromSecret point ∷ []) events) e) [
      | inl later ↦ source_reads (before ++ FromSecret point ∷ []) events other parts.1 later
      | inr same ↦ sym (secret_alike point other same) ∙ parts.0
    ]
source_reads before (Implicit point region ∷ events) other all e =
    source_reads (before ++ Implicit point region ∷ []) events other all
    (one_other (has_passed before point) point other (outlet_of region)
    (links_after (before ++ Implicit point region ∷ []) events) e)
source_reads before (Out region point ∷ events) other all e =
    source_reads (before ++ Out region point ∷ []) events other all (none _ e)
  where
    none : (there : Bool) →
        is_among (one_if there (Relay region) (At point) ++ links_after (before ++ Out region point ∷ []) events)
        (record { source = Source; target = At other }) ≡ true →
        is_among (links_after (before ++ Out region point ∷ []) events) (record { source = Source; target = At other }) ≡ true
    none true h = h
    none false h = h

-- ---- it is a side of the graph

link_stays : (events : List Event) (graph : Graph) → IsGraphOf events graph → list_all is_from_secret events ≡ true →
    (link : Arc) → is_link (length graph.points) graph.relays link ≡ true →
    is_among (map (named graph.points) graph.links) (named graph.points link) ≡ true →
    starts_in (reading_side graph) (named_end graph.points link.source) ≡ true →
    ends_in (reading_side graph) (named_end graph.points link.target) ≡ true
link_stays events graph is all link valid among inside = from link.source link.target valid
    (sym (is.links (named graph.points link)) ∙ among) inside
  where
    to : (target : End) → leads_on SourceEnd target ≡ true → is_target (length graph.points) graph.relays target ≡ true →
        is_among (named_links events) (record { source = Source; target = named_end graph.points target }) ≡ true →
        ends_in (reading_side graph) (named_end graph.points target) ≡ true
    to SourceEnd leads is_one e = absurd (cc)
    to (PointEnd i) leads is_one e =
        reads_first graph.points i (ltb-true i (length graph.points) is_one)
        (source_reads [] events (get_or (points_of graph.points) i nowhere) all e)
    to (RelayEnd region) leads is_one e = absurd (cc)
    to SinkEnd leads is_one e = absurd (cc)

    from : (source target : End) → is_link (length graph.points) graph.relays (record { source = source; target = target }) ≡ true →
        is_among (named_links events) (named graph.points (record { source = source; target = target })) ≡ true →
        starts_in (reading_side graph) (named_end graph.points source) ≡ true →
        ends_in (reading_side graph) (named_end graph.points target) ≡ true
    from SourceEnd target v e h =
        let ends = and_parts (is_origin (length graph.points) graph.relays SourceEnd) _ v in
        let both = and_parts (is_target (length graph.points) graph.relays target) _ ends.1 in
        to target both.1 both.0 e
    from (PointEnd i) target v e h =
        let no = second_none graph.points (get_or (points_of graph.points) i nowhere) in absurd (cc)
    from (RelayEnd region) target v e h = let no = relay_none graph.relays region in absurd (cc)
    from SinkEnd target v e h = absurd (cc)

-- each link of a list is among their names
all_named : (points : List Node) (links more : List Arc) →
    ((link : Arc) → is_among (map (named points) links) (named points link) ≡ true →
    is_among (map (named points) more) (named points link) ≡ true) →
    AllByRecursion (λ link. is_among (map (named points) more) (named points link) ≡ true) links
all_named points [] more h = tt
all_named points (link ∷ links) more h = (
  h link (or_left (is_eq (link_cmp (named points link) (named points link))) _ (link_itself (named points link))),
  all_named points links more
      (λ other e. h other (or_right (is_eq (link_cmp (named points link) (named points other))) _ e)),
)

none_out : (events : List Event) (graph : Graph) → IsGraphOf events graph → list_all is_from_secret events ≡ true →
    (links : List Arc) → list_all (is_link (length graph.points) graph.relays) links ≡ true →
    AllByRecursion (λ link. is_among (map (named graph.points) graph.links) (named graph.points link) ≡ true) links →
    list_any (leads_out graph (reading graph.points) (no_relays graph.relays)) links ≡ false
none_out events graph is all [] valid among = refl
none_out events graph is all (link ∷ links) valid among =
    let both = and_parts (is_link (length graph.points) graph.relays link)
    (list_all (is_link (length graph.points) graph.relays) links) valid in
    let origin = and_parts (is_origin (length graph.points) graph.relays link.source) _ both.0 in
    let target = and_parts (is_target (length graph.points) graph.relays link.target) _ origin.1 in
    let same : length (reading graph.points) ≡ length graph.points =
    length-map graph.points (λ node. chosen (is_secret_slot node.point.slot)) in
    or_false _ _
    (and_not _ _ (λ inside. entered_named graph (reading graph.points) (no_relays graph.relays) same link.target target.0
    ∙ link_stays events graph is all link both.0 among.0
    (sym (left_named graph (reading graph.points) (no_relays graph.relays) same link.source origin.0) ∙ inside)))
    (none_out events graph is all links both.1 among.1)

reading_is_side : (events : List Event) (graph : Graph) → IsGraphOf events graph →
    list_all is_from_secret events ≡ true →
    IsSideOf graph (reading graph.points) (no_relays graph.relays)
reading_is_side events graph is all = record {
  points_count = length-map graph.points (λ node. chosen (is_secret_slot node.point.slot));
  relays_count = length-map graph.relays (λ relay. false);
  closed = none_out events graph is all graph.links graph.links_are_valid
      (all_named graph.points graph.links graph.links (λ link e. e));
}

-- ---- its capacity

-- numbers of which at most one is not 0
sum_one : (n : ℕ) (f : ℕ → ℕ) (bound : ℕ) → ((i : ℕ) → i < n → f i ≤ bound) →
    ((i j : ℕ) → i < j → j < n → (f i ≡ 0) ⊎ (f j ≡ 0)) → sum_below n f ≤ bound
unfolding sum_below
sum_one zero f bound each apart = omega arith
sum_one (suc n) f bound each apart =
    pick (f n) refl (sum_one n f bound (λ i below. each i (omega arith)) (λ i j less below. apart i j less (omega arith)))
    (λ some. sum_zero n f (λ i below. elim (apart i n below (omega arith)) [ inl e ↦ e | inr e ↦ absurd (omega (arith, e, some)) ]))
  where
    pick : (k : ℕ) → f n ≡ k → sum_below n f ≤ bound → (0 < f n → sum_below n f ≡ 0) → sum_below n f + f n ≤ bound
    pick zero e rest none = omega (arith, e, rest)
    pick (suc k) e rest none =
        let z = none (omega (arith, e)) in let last = each n (omega arith) in omega (arith, z, last)

names_apart : (points : List Point) (i j : ℕ) → IsStrictlySortedBy point_cmp points → i < j → j < length points →
    point_cmp (get_or points i nowhere) (get_or points j nowhere) ≡ Less
unfolding IsStrictlySortedBy
names_apart [] i j sorted less below = absurd (omega arith)
names_apart (p ∷ points) zero zero sorted less below = absurd (omega arith)
names_apart (p ∷ points) zero (suc j) sorted less below = name_later p points j sorted.0 (omega arith)
names_apart (p ∷ points) (suc i) zero sorted less below = absurd (omega arith)
names_apart (p ∷ points) (suc i) (suc j) sorted less below = names_apart points i j sorted.1 (omega arith) (omega arith)

less_equal : (o : Ordering) → o ≡ Less → o ≡ Equal → ⊥
less_equal Less e h = absurd (cc)
less_equal Equal e h = absurd (cc)
less_equal Greater e h = absurd (cc)

-- a point has at most one of the names
same_one : (graph : Graph) (point : Point) (i j : ℕ) → i < j → j < length graph.points →
    is_same point (name_at graph i) ≡ true → is_same point (name_at graph j) ≡ true → ⊥
same_one graph point i j less below first second =
    let first_is = is_equal (point_cmp point (name_at graph i)) first in
    let second_is = is_equal (point_cmp point (name_at graph j)) second in
    less_equal (point_cmp (name_at graph i) (name_at graph j))
    (names_apart (points_of graph.points) i j (graph_sorted graph) less
    (let c : length (points_of graph.points) ≡ length graph.points = length-map graph.points (λ n. n.point) in
    omega (arith, c, below)))
    (sym (point_total.congr point (name_at graph i) (name_at graph j) first_is) ∙ second_is)

abbrev bits_of : Graph → Event → ℕ → ℕ
bits_of graph event i =
    cond (is_split (reading_side graph) (name_at graph i)) (bits_at (name_at graph i) event) 0

none_of : (b : Bool) → ◌≡◌ {A = ℕ} (cond b 0 0) 0
none_of true = refl
none_of false = refl

pass_each : (graph : Graph) (point : Point) (mask i : ℕ) →
    bits_of graph (Pass point mask) i ≤ cond (is_secret_slot point.slot) (bit_count mask) 0
pass_each graph point mask i =
    elim (cases_Bool (is_split (reading_side graph) (name_at graph i))) [
      | inr whole ↦
          let none = cond-false (is_split (reading_side graph) (name_at graph i))
          (bits_at (name_at graph i) (Pass point mask)) 0 whole in omega (arith, none)
      | inl split ↦
          let here = cond-true (is_split (reading_side graph) (name_at graph i))
          (bits_at (name_at graph i) (Pass point mask)) 0 split in
          elim (cases_Bool (is_same point (name_at graph i))) [
            | inr other ↦
                let none = cond-false (is_same point (name_at graph i)) (bit_count mask) 0 other in
                omega (arith, here, none)
            | inl same ↦
                let there = cond-true (is_same point (name_at graph i)) (bit_count mask) 0 same in
                let reads : is_secret_slot point.slot ≡ true =
                secret_alike point (name_at graph i) same
                ∙ first_reads graph.points (name_at graph i) (and_parts _ _ split).0 in
                let whole = cond-true (is_secret_slot point.slot) (bit_count mask) 0 reads in
                omega (arith, here, there, whole)
          ]
    ]

pass_apart : (graph : Graph) (point : Point) (mask i j : ℕ) → i < j → j < length graph.points →
    (bits_of graph (Pass point mask) i ≡ 0) ⊎ (bits_of graph (Pass point mask) j ≡ 0)
pass_apart graph point mask i j less below =
    elim (cases_Bool (is_same point (name_at graph i))) [
      | inr other ↦
          inl (ap (λ n. cond (is_split (reading_side graph) (name_at graph i)) n 0)
          (cond-false (is_same point (name_at graph i)) (bit_count mask) 0 other)
          ∙ none_of (is_split (reading_side graph) (name_at graph i)))
      | inl first ↦
          elim (cases_Bool (is_same point (name_at graph j))) [
            | inr other ↦
                inr (ap (λ n. cond (is_split (reading_side graph) (name_at graph j)) n 0)
                (cond-false (is_same point (name_at graph j)) (bit_count mask) 0 other)
                ∙ none_of (is_split (reading_side graph) (name_at graph j)))
            | inl second ↦ absurd (same_one graph point i j less below first second)
          ]
    ]

event_bits : (graph : Graph) (event : Event) →
    sum_below (length graph.points) (bits_of graph event) ≤ secret_bits_of event
event_bits graph (Pass point mask) =
    sum_one (length graph.points) (bits_of graph (Pass point mask)) _ (λ i below. pass_each graph point mask i)
    (λ i j less below. pass_apart graph point mask i j less below)
event_bits graph (Link source target) =
    let z = sum_zero (length graph.points) (bits_of graph (Link source target))
    (λ i below. none_of (is_split (reading_side graph) (name_at graph i))) in omega (arith, z)
event_bits graph (FromSecret point) =
    let z = sum_zero (length graph.points) (bits_of graph (FromSecret point))
    (λ i below. none_of (is_split (reading_side graph) (name_at graph i))) in omega (arith, z)
event_bits graph (Implicit point region) =
    let z = sum_zero (length graph.points) (bits_of graph (Implicit point region))
    (λ i below. none_of (is_split (reading_side graph) (name_at graph i))) in omega (arith, z)
event_bits graph (Out region point) =
    let z = sum_zero (length graph.points) (bits_of graph (Out region point))
    (λ i below. none_of (is_split (reading_side graph) (name_at graph i))) in omega (arith, z)

all_bits : (graph : Graph) (events : List Event) →
    sum_below (length graph.points) (split_at graph (reading_side graph) events) ≤ secret_bits events
all_bits graph [] =
    let z = sum_zero (length graph.points) (split_at graph (reading_side graph) [])
    (λ i below. none_of (is_split (reading_side graph) (name_at graph i))) in omega (arith, z)
all_bits graph (event ∷ events) =
    let sums = sum_same (length graph.points) (split_at graph (reading_side graph) (event ∷ events))
    (λ i. bits_of graph event i + split_at graph (reading_side graph) events i)
    (λ i below. split_more graph (reading_side graph) event events i)
    ∙ sum_add (length graph.points) (bits_of graph event) (split_at graph (reading_side graph) events) in
    let one = event_bits graph event in
    let rest = all_bits graph events in
    let whole = sum_by-cons secret_bits_of event events in
    omega (arith, sums, one, rest, whole)

pub least_bits_law : LeastBitsLaw
least_bits_law events graph halves relays is least all =
    let side = reading_is_side events graph is all in
    let smallest = least.smallest (reading graph.points) (no_relays graph.relays) side in
    let capacity = sum_of_side_capacity events graph (reading graph.points) (no_relays graph.relays) is side in
    let bits = all_bits graph events in
    omega (arith, smallest, capacity, bits)
