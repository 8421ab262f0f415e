-- The nodes that a search has found are those of the side that is made of them.
use Rattle.std.proofs.Common.{◌≡◌, ◌≢◌, ℕ, zero, suc, ◌+◌, ◌-◌, ◌*◌, ◌≤◌, ◌<◌, ◌++◌, ◌∷◌, [], ◌&&◌, not, cond, eqb}
use Rattle.std.proofs.Common.{ltb, Bool, true, false, List, length, map, get_or, slice_index, refl, sym, ap, ◌∙◌}
use Rattle.std.proofs.Common.{⊎_elim, arith, length-append, add-one}
use Rattle.std.specs.List.{list_any}
use Rattle.std.proofs.lemmas.Bool.{cases_lt, cases_eq, and_parts, or_cases, ltb-true, eqb-true, eq-eqb}
use Rattle.std.proofs.lemmas.Bool.{ne_eqb, lt-ltb, le-ltb, cond-true, cond-false}
use Rattle.std.proofs.lemmas.List.{get_or_append_left, get_or-append_right}
use Rattle.flow_graph.specs.declared.ends.End.{End}
use Rattle.flow_graph.specs.declared.ends.End.TheVariants.{Source, Point, Relay, Sink}
use Rattle.flow_graph.specs.declared.graphs.Graph.{Graph}
use Rattle.flow_graph.specs.Graphs.{is_origin, is_target, is_link, is_relay}
use Rattle.max_flow.specs.declared.answers.Half.{Half}
use Rattle.max_flow.specs.Private.Networks.{IsNet, IsSide, capacity_of, leaves}
use Rattle.max_flow.specs.Building.{tail_of, head_of}
use Rattle.max_flow.specs.Private.GraphNetworks.{network_of}
use Rattle.max_flow.proofs.Members.{member}
use Rattle.max_flow.specs.Private.Sides.{marks}
use Rattle.max_flow.specs.Flows.{relay_in, has_first}
use Rattle.max_flow.specs.Flows.{has_second}
use Rattle.max_flow.specs.Private.Sides.{found_marks}
use Rattle.max_flow.specs.Private.Searching.{is_found}
use Rattle.max_flow.proofs.Sums.{sum_same}
use Rattle.max_flow.proofs.Graphs.{ends_hold, graph_net}

pub marks_push : (halves : List Half) (half : Half) → marks (halves ++ half ∷ []) ≡ marks halves ++
    (has_first half ∷ has_second half ∷ [])
marks_push [] half = refl
marks_push (h ∷ hs) half = ap (λ bs. has_first h ∷ has_second h ∷ bs) (marks_push hs half)

pub found_more : (places : List ℕ) (n : ℕ) → found_marks places (n + 1) ≡ found_marks places n ++
    (is_found places (2 + 2 * n) ∷ is_found places (3 + 2 * n) ∷ [])
unfolding found_marks
found_more places n = rw add-one refl

pub length_found : (places : List ℕ) (n : ℕ) → length (found_marks places n) ≡ 2 * n
unfolding found_marks
length_found places zero = refl
length_found places (suc n) =
    length-append (found_marks places n) (is_found places (2 + 2 * n) ∷ is_found places (3 + 2 * n) ∷ []) ∙
    omega (arith, length_found places n)

found_at : (places : List ℕ) (n k : ℕ) → k < 2 * n → get_or (found_marks places n) k false ≡ is_found places (2 + k)
unfolding found_marks
found_at places zero k below = absurd (omega arith)
found_at places (suc n) k below =
    let count : length (found_marks places n) ≡ 2 * n = length_found places n in
    ⊎_elim
    (λ (earlier : k < 2 * n).
    get_or_append_left (found_marks places n) (is_found places (2 + 2 * n) ∷ is_found places (3 + 2 * n) ∷ []) false k
    (omega arith) ∙ found_at places n k earlier)
    (λ (last : 2 * n ≤ k).
    ⊎_elim
    (λ (e : k ≡ 2 * n).
    let d : k - 2 * n ≡ 0 = omega arith in
    get_or-append_right (found_marks places n) (is_found places (2 + 2 * n) ∷ is_found places (3 + 2 * n) ∷ [])
    (2 * n) k false count last
    ∙ (ap (λ j. get_or (is_found places (2 + 2 * n) ∷ is_found places (3 + 2 * n) ∷ []) j false) d ∙
    ap (is_found places) (let f : 2 + 2 * n ≡ 2 + k = omega arith in f)))
    (λ (ne : k ≢ 2 * n).
    let d : k - 2 * n ≡ 1 = omega arith in
    get_or-append_right (found_marks places n) (is_found places (2 + 2 * n) ∷ is_found places (3 + 2 * n) ∷ [])
    (2 * n) k false count last
    ∙ (ap (λ j. get_or (is_found places (2 + 2 * n) ∷ is_found places (3 + 2 * n) ∷ []) j false) d ∙
    ap (is_found places) (let f : 3 + 2 * n ≡ 2 + k = omega arith in f)))
    (cases_eq k (2 * n)))
    (cases_lt k (2 * n))

-- of the source, the sink and the halves
marks_at : (places : List ℕ) (n : ℕ) (bs : List Bool) → bs ≡ found_marks places n → is_found places 0 ≡ true →
    is_found places 1 ≡ false →
    (v : ℕ) → v < 2 + 2 * n → get_or (true ∷ false ∷ bs) v false ≡ is_found places v
marks_at places n bs same source sink zero below = sym source
marks_at places n bs same source sink (suc zero) below = sym sink
marks_at places n bs same source sink (suc (suc k)) below =
    ap (λ cs. get_or cs k false) same ∙ (found_at places n k (omega arith) ∙ ap (is_found places)
    (let e : 2 + k ≡ suc (suc k) = omega arith in e))

relay_found : (f : ℕ → Bool) (relays : List ℕ) (r : ℕ) → list_any (eqb r) relays ≡ true → relay_in relays
    (map f relays) r ≡ f r
relay_found f [] r any = absurd (cc)
relay_found f (x ∷ xs) r any =
    ⊎_elim
    (λ (e : x ≡ r). cond-true (eqb x r) (f x) (relay_in xs (map f xs) r) (eq-eqb x r e) ∙ ap f e)
    (λ (ne : x ≢ r).
    cond-false (eqb x r) (f x) (relay_in xs (map f xs) r) (ne_eqb x r ne)
    ∙ relay_found f xs r
    (⊎_elim (λ (here : eqb r x ≡ true). absurd (ne (sym (eqb-true r x here))))
    (λ (rest : list_any (eqb r) xs ≡ true). rest)
    (or_cases (eqb r x) (list_any (eqb r) xs) any)))
    (cases_eq x r)

relay_only : (f : ℕ → Bool) (relays : List ℕ) (r : ℕ) → relay_in relays (map f relays) r ≡ true → f r ≡ true
relay_only f [] r is = absurd (cc)
relay_only f (x ∷ xs) r is =
    ⊎_elim
    (λ (e : x ≡ r). ap f (sym e) ∙ (sym (cond-true (eqb x r) (f x) (relay_in xs (map f xs) r) (eq-eqb x r e)) ∙ is))
    (λ (ne : x ≢ r). relay_only f xs r (sym (cond-false (eqb x r) (f x) (relay_in xs (map f xs) r) (ne_eqb x r ne)) ∙
    is))
    (cases_eq x r)

-- a side that is made of what is found
pub record IsMade (graph : Graph) (places : List ℕ) (halves : List Half) (answers : List Bool) : Type 0 where
  pub points : marks halves ≡ found_marks places (length graph.points)
  pub relays : answers ≡ map (λ region. is_found places (2 + 2 * length graph.points + region)) graph.relays
  pub source : is_found places 0 ≡ true
  pub sink : is_found places 1 ≡ false

-- of a node that there is
low_same : (graph : Graph) (places : List ℕ) (halves : List Half) (answers : List Bool) → IsMade graph places halves
    answers →
    (v : ℕ) → v < 2 + 2 * length graph.points → member graph halves answers v ≡ is_found places v
low_same graph places halves answers made v below =
    cond-true (ltb v (2 + 2 * length graph.points)) _ _ (lt-ltb v (2 + 2 * length graph.points) below)
    ∙ marks_at places (length graph.points) (marks halves) made.points made.source made.sink v below

high_relay : (graph : Graph) (places : List ℕ) (halves : List Half) (answers : List Bool) → IsMade graph places halves
    answers →
    (v : ℕ) → 2 + 2 * length graph.points ≤ v →
    member graph halves answers v ≡ relay_in graph.relays
    (map (λ region. is_found places (2 + 2 * length graph.points + region)) graph.relays)
    (v - (2 + 2 * length graph.points))
high_relay graph places halves answers made v from =
    cond-false (ltb v (2 + 2 * length graph.points)) _ _ (le-ltb v (2 + 2 * length graph.points) from)
    ∙ ap (λ bs. relay_in graph.relays bs (v - (2 + 2 * length graph.points))) made.relays

relay_same : (graph : Graph) (places : List ℕ) (halves : List Half) (answers : List Bool) → IsMade graph places halves
    answers →
    (r : ℕ) → is_relay graph.relays r ≡ true → member graph halves answers (2 + 2 * length graph.points + r) ≡
    is_found places (2 + 2 * length graph.points + r)
relay_same graph places halves answers made r is =
    let d : 2 + 2 * length graph.points + r - (2 + 2 * length graph.points) ≡ r = omega arith in
    high_relay graph places halves answers made (2 + 2 * length graph.points + r) (omega arith)
    ∙ (ap (relay_in graph.relays (map (λ region. is_found places (2 + 2 * length graph.points + region))
    graph.relays)) d
    ∙ relay_found (λ region. is_found places (2 + 2 * length graph.points + region)) graph.relays r
    (and_parts _ _ is).1)

pub member_found : (graph : Graph) (places : List ℕ) (halves : List Half) (answers : List Bool) → IsMade graph places
    halves answers →
    (v : ℕ) → member graph halves answers v ≡ true → is_found places v ≡ true
member_found graph places halves answers made v is =
    ⊎_elim
    (λ (below : v < 2 + 2 * length graph.points). sym (low_same graph places halves answers made v below) ∙ is)
    (λ (from : 2 + 2 * length graph.points ≤ v).
    let back : 2 + 2 * length graph.points + (v - (2 + 2 * length graph.points)) ≡ v = omega arith in
    ap (is_found places) (sym back)
    ∙ relay_only (λ region. is_found places (2 + 2 * length graph.points + region)) graph.relays
    (v - (2 + 2 * length graph.points))
    (sym (high_relay graph places halves answers made v from) ∙ is))
    (cases_lt v (2 + 2 * length graph.points))

tail_same : (graph : Graph) (places : List ℕ) (halves : List Half) (answers : List Bool) → IsMade graph places halves
    answers →
    (end : End) → is_origin (length graph.points) graph.relays end ≡ true →
    member graph halves answers (tail_of (length graph.points) end) ≡ is_found places
    (tail_of (length graph.points) end)
tail_same graph places halves answers made Source is = low_same graph places halves answers made 0 (omega arith)
tail_same graph places halves answers made (Point i) is =
    let below : i < length graph.points = ltb-true i (length graph.points) is in low_same graph places halves answers
    made (3 + 2 * i) (omega arith)
tail_same graph places halves answers made (Relay r) is = relay_same graph places halves answers made r is
tail_same graph places halves answers made Sink is = low_same graph places halves answers made 1 (omega arith)

head_same : (graph : Graph) (places : List ℕ) (halves : List Half) (answers : List Bool) → IsMade graph places halves
    answers →
    (end : End) → is_target (length graph.points) graph.relays end ≡ true →
    member graph halves answers (head_of (length graph.points) end) ≡ is_found places
    (head_of (length graph.points) end)
head_same graph places halves answers made Source is = low_same graph places halves answers made 0 (omega arith)
head_same graph places halves answers made (Point i) is =
    let below : i < length graph.points = ltb-true i (length graph.points) is in low_same graph places halves answers
    made (2 + 2 * i) (omega arith)
head_same graph places halves answers made (Relay r) is = relay_same graph places halves answers made r is
head_same graph places halves answers made Sink is = low_same graph places halves answers made 1 (omega arith)

pub tails_same : (graph : Graph) (places : List ℕ) (halves : List Half) (answers : List Bool) → IsMade graph places
    halves answers →
    (i : ℕ) → i < length (network_of graph).tails →
    member graph halves answers (slice_index (network_of graph).tails i) ≡ is_found places
    (slice_index (network_of graph).tails i)
tails_same graph places halves answers made =
    ends_hold (λ v. member graph halves answers v ≡ is_found places v) 2 (length graph.points)
    (λ link. tail_of (length graph.points) link.source)
    (is_link (length graph.points) graph.relays) graph.links
    (λ k below. low_same graph places halves answers made (2 + 2 * k) (omega arith))
    (λ link is. tail_same graph places halves answers made link.source (and_parts _ _ is).0)
    graph.links_are_valid

pub heads_same : (graph : Graph) (places : List ℕ) (halves : List Half) (answers : List Bool) → IsMade graph places
    halves answers →
    (i : ℕ) → i < length (network_of graph).heads →
    member graph halves answers (slice_index (network_of graph).heads i) ≡ is_found places
    (slice_index (network_of graph).heads i)
heads_same graph places halves answers made =
    ends_hold (λ v. member graph halves answers v ≡ is_found places v) 3 (length graph.points)
    (λ link. head_of (length graph.points) link.target)
    (is_link (length graph.points) graph.relays) graph.links
    (λ k below. low_same graph places halves answers made (3 + 2 * k) (omega arith))
    (λ link is. head_same graph places halves answers made link.target (and_parts _ _ (and_parts _ _ is).1).0)
    graph.links_are_valid

pub made_side : (graph : Graph) (places : List ℕ) (halves : List Half) (answers : List Bool) → IsMade graph places
    halves answers →
    IsSide (network_of graph) (is_found places) → IsSide (network_of graph) (member graph halves answers)
made_side graph places halves answers made side =
    let net : IsNet (network_of graph) = graph_net graph in
    let same : length (network_of graph).heads ≡ length (network_of graph).tails = net.same in
    record {
      source = low_same graph places halves answers made 0 (omega arith) ∙ made.source;
      sink = low_same graph places halves answers made 1 (omega arith) ∙ made.sink;
      closed = λ i from below is.
          heads_same graph places halves answers made i (omega (arith, same, below))
          ∙ side.closed i from below (sym (tails_same graph places halves answers made i below) ∙ is);
    }

pub made_capacity : (graph : Graph) (places : List ℕ) (halves : List Half) (answers : List Bool) → IsMade graph places
    halves answers →
    capacity_of (network_of graph) (member graph halves answers) ≡ capacity_of (network_of graph) (is_found places)
unfolding capacity_of
made_capacity graph places halves answers made =
    let net : IsNet (network_of graph) = graph_net graph in
    let same : length (network_of graph).heads ≡ length (network_of graph).tails = net.same in
    let limited : length (network_of graph).limits ≤ length (network_of graph).tails = net.limited in
    sum_same (length (network_of graph).limits)
    (λ i. cond (leaves (network_of graph) (member graph halves answers) i) (slice_index (network_of graph).limits i) 0)
    (λ i. cond (leaves (network_of graph) (is_found places) i) (slice_index (network_of graph).limits i) 0)
    (λ i below.
    let t : member graph halves answers (slice_index (network_of graph).tails i) ≡ is_found places
    (slice_index (network_of graph).tails i) =
    tails_same graph places halves answers made i (omega (arith, limited, below)) in
    let h : member graph halves answers (slice_index (network_of graph).heads i) ≡ is_found places
    (slice_index (network_of graph).heads i) =
    heads_same graph places halves answers made i (omega (arith, limited, below, same)) in
    ap (λ a. cond (a && not (member graph halves answers (slice_index (network_of graph).heads i)))
    (slice_index (network_of graph).limits i) 0) t
    ∙ ap (λ b. cond (is_found places (slice_index (network_of graph).tails i) && not b)
    (slice_index (network_of graph).limits i) 0) h)
