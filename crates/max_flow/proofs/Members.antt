-- The nodes of a side by their numbers.
use Rattle.std.proofs.Common.{◌≡◌, ℕ, zero, suc, ◌+◌, ◌-◌, ◌*◌, ◌<◌, ltb, cond, Bool, true, false, List, []}
use Rattle.std.proofs.Common.{◌∷◌, length, get_or, refl, ap, ◌∙◌, arith}
use Rattle.std.proofs.lemmas.Bool.{cond-true, cond-false, lt-ltb, le-ltb, ltb-true}
use Rattle.std.proofs.lemmas.List.{get_or-append_right}
use Rattle.flow_graph.specs.declared.ends.End.{End}
use Rattle.flow_graph.specs.declared.ends.End.TheVariants.{Source, Point, Relay, Sink}
use Rattle.flow_graph.specs.declared.graphs.Graph.{Graph}
use Rattle.flow_graph.specs.Graphs.{is_origin, is_target}
use Rattle.max_flow.specs.declared.answers.Half.{Half}
use Rattle.max_flow.specs.Flows.{has_first, has_second, relay_in, first_in, second_in, left_in, entered_in}
use Rattle.max_flow.specs.Building.{tail_of, head_of}
use Rattle.max_flow.specs.Private.Sides.{marks}

-- whether a node is in a side: the source is, the sink is not
abbrev pub member : Graph → List Half → List Bool → ℕ → Bool
member graph halves relays node = cond (ltb node (2 + 2 * length graph.points))
    (get_or (true ∷ false ∷ marks halves) node false)
    (relay_in graph.relays relays (node - (2 + 2 * length graph.points)))

marks_first : (halves : List Half) (i : ℕ) → get_or (marks halves) (2 * i) false ≡ first_in halves i
marks_first [] i = refl
marks_first (h ∷ hs) zero = refl
marks_first (h ∷ hs) (suc i) =
    ap (λ k. get_or (has_first h ∷ has_second h ∷ marks hs) k false)
    (let e : 2 * suc i ≡ suc (suc (2 * i)) = omega arith in e) ∙ marks_first hs i

marks_second : (halves : List Half) (i : ℕ) → get_or (marks halves) (1 + 2 * i) false ≡ second_in halves i
marks_second [] i = refl
marks_second (h ∷ hs) zero = refl
marks_second (h ∷ hs) (suc i) =
    ap (λ k. get_or (has_first h ∷ has_second h ∷ marks hs) k false)
    (let e : 1 + 2 * suc i ≡ suc (suc (1 + 2 * i)) = omega arith in e) ∙ marks_second hs i

member_half : (graph : Graph) (halves : List Half) (answers : List Bool) (k : ℕ) → k < 2 * length graph.points →
    member graph halves answers (2 + k) ≡ get_or (marks halves) k false
member_half graph halves answers k below =
    let back : 2 + k - 2 ≡ k = omega arith in
    cond-true (ltb (2 + k) (2 + 2 * length graph.points)) _ _ (lt-ltb (2 + k) (2 + 2 * length graph.points)
    (omega arith))
    ∙ (get_or-append_right (true ∷ false ∷ []) (marks halves) 2 (2 + k) false refl (omega arith)
    ∙ ap (λ j. get_or (marks halves) j false) back)

pub member_first : (graph : Graph) (halves : List Half) (answers : List Bool) (i : ℕ) → i < length graph.points →
    member graph halves answers (2 + 2 * i) ≡ first_in halves i
member_first graph halves answers i below =
    member_half graph halves answers (2 * i) (omega arith) ∙ marks_first halves i

pub member_second : (graph : Graph) (halves : List Half) (answers : List Bool) (i : ℕ) → i < length graph.points →
    member graph halves answers (3 + 2 * i) ≡ second_in halves i
member_second graph halves answers i below =
    ap (member graph halves answers) (let e : 3 + 2 * i ≡ 2 + (1 + 2 * i) = omega arith in e)
    ∙ (member_half graph halves answers (1 + 2 * i) (omega arith) ∙ marks_second halves i)

pub member_source : (graph : Graph) (halves : List Half) (answers : List Bool) → member graph halves answers 0 ≡ true
member_source graph halves answers =
    cond-true (ltb 0 (2 + 2 * length graph.points)) _ _ (lt-ltb 0 (2 + 2 * length graph.points) (omega arith))

pub member_sink : (graph : Graph) (halves : List Half) (answers : List Bool) → member graph halves answers 1 ≡ false
member_sink graph halves answers =
    cond-true (ltb 1 (2 + 2 * length graph.points)) _ _ (lt-ltb 1 (2 + 2 * length graph.points) (omega arith))

pub member_relay : (graph : Graph) (halves : List Half) (answers : List Bool) (r : ℕ) →
    member graph halves answers (2 + 2 * length graph.points + r) ≡ relay_in graph.relays answers r
member_relay graph halves answers r =
    let back : 2 + 2 * length graph.points + r - (2 + 2 * length graph.points) ≡ r = omega arith in
    cond-false (ltb (2 + 2 * length graph.points + r) (2 + 2 * length graph.points)) _ _
    (le-ltb (2 + 2 * length graph.points + r) (2 + 2 * length graph.points) (omega arith))
    ∙ ap (relay_in graph.relays answers) back

-- at the ends of a link that there may be
pub member_left : (graph : Graph) (halves : List Half) (answers : List Bool) (end : End) →
    is_origin (length graph.points) graph.relays end ≡ true →
    member graph halves answers (tail_of (length graph.points) end) ≡ left_in graph halves answers end
member_left graph halves answers Source is = member_source graph halves answers
member_left graph halves answers (Point i) is =
    let below : i < length graph.points = ltb-true i (length graph.points) is in
    member_second graph halves answers i below
member_left graph halves answers (Relay r) is = member_relay graph halves answers r
member_left graph halves answers Sink is = member_sink graph halves answers

pub member_entered : (graph : Graph) (halves : List Half) (answers : List Bool) (end : End) →
    is_target (length graph.points) graph.relays end ≡ true →
    member graph halves answers (head_of (length graph.points) end) ≡ entered_in graph halves answers end
member_entered graph halves answers Source is = member_source graph halves answers
member_entered graph halves answers (Point i) is =
    let below : i < length graph.points = ltb-true i (length graph.points) is in
    member_first graph halves answers i below
member_entered graph halves answers (Relay r) is = member_relay graph halves answers r
member_entered graph halves answers Sink is = member_sink graph halves answers
