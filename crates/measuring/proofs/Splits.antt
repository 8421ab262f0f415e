-- The regions that a side skips and the points that it splits, in order.
use Rattle.std.proofs.Common.{◌≡◌, ℕ, ◌<◌, ◌==◌, ◌&&◌, ◌||◌, Bool, true, false, List, [], ◌∷◌, ◌++◌, refl, sym, ap}
use Rattle.std.proofs.Common.{◌∙◌, arith, cond}
use Rattle.std.proofs.Common.{nat_lt, nat_le, nat_eq, not}
use Rattle.std.specs.List.{list_all, list_any}
use Rattle.std.specs.Ordering.{is_lt, nat_cmp}
use Rattle.std.specs.declared.cmp.Ordering.{Ordering}
use Rattle.std.proofs.lemmas.Bool.{and_parts, and_from, false≢true, lt-ltb, ltb-true, eqb-true, eqb-false, ne_eqb}
use Rattle.flow_base.specs.declared.points.Point.{Point}
use Rattle.flow_base.specs.Points.{is_slot}
use Rattle.flow_base.specs.PointOrders.{is_below, point_cmp}
use Rattle.flow_base.proofs.PointOrders.{below_trans, is_lt_number}
use Rattle.flow_graph.specs.declared.nodes.Node.{Node}
use Rattle.flow_graph.specs.Graphs.{node_cmp, ascend}
use Rattle.max_flow.specs.declared.answers.Half.{Half}
use Rattle.max_flow.specs.Flows.{relay_in}
use Rattle.cut_file.specs.Cuts.{neighbours_pass, is_point, is_point_of, is_cut_point, is_word, is_single}
use Rattle.cut_file.specs.Cuts.{stands_before, are_runs, is_rest}
use Rattle.cut_file.specs.declared.points.CutPoint.{CutPoint}
use Rattle.measuring.specs.CutRuns.{points_of}
use Rattle.measuring.specs.Splits.{skipped, is_cut, split_points}
use Rattle.flow_base.specs.Listed.{is_listed}

-- ---- ascending lists

pub all_weaker : {A : Type 0} (test other : A → Bool) → ((x : A) → test x ≡ true → other x ≡ true) → (xs : List A) →
    list_all test xs ≡ true → list_all other xs ≡ true
all_weaker test other weaker [] all = refl
all_weaker test other weaker (x ∷ xs) all =
    let parts = and_parts (test x) (list_all test xs) all in
    and_from (other x) (list_all other xs) (weaker x parts.0) (all_weaker test other weaker xs parts.1)

-- the first of an ascending list is before all others
pub above : {A : Type 0} (cmp : A → A → Ordering) → ((x y z : A) → is_lt (cmp x y) ≡ true → is_lt (cmp y z) ≡ true →
    is_lt (cmp x z) ≡ true) → (x : A) (xs : List A) → ascend cmp (x ∷ xs) ≡ true → list_all (λ y. is_lt (cmp x y)) xs ≡
    true
above cmp chains x [] up = refl
above cmp chains x (y ∷ ys) up =
    let parts = and_parts (is_lt (cmp x y)) (ascend cmp (y ∷ ys)) up in
    and_from (is_lt (cmp x y)) (list_all (λ z. is_lt (cmp x z)) ys) parts.0
    (all_weaker (λ z. is_lt (cmp y z)) (λ z. is_lt (cmp x z)) (λ z later. chains x y z parts.0 later) ys
    (above cmp chains y ys parts.1))

pub behind : {A : Type 0} (cmp : A → A → Ordering) (x : A) (xs : List A) → ascend cmp (x ∷ xs) ≡ true → ascend cmp xs ≡ true
behind cmp x [] up = refl
behind cmp x (y ∷ ys) up = (and_parts (is_lt (cmp x y)) (ascend cmp (y ∷ ys)) up).1

-- an item before all others of a list whose neighbours pass
front : {A : Type 0} (test : A → A → Bool) (x : A) (xs : List A) → list_all (test x) xs ≡ true →
    neighbours_pass test xs ≡ true → neighbours_pass test (x ∷ xs) ≡ true
front test x [] all passes = refl
front test x (y ∷ ys) all passes =
    and_from (test x y) (neighbours_pass test (y ∷ ys)) (and_parts (test x y) (list_all (test x) ys) all).0 passes

numbers_chain : (x y z : ℕ) → is_lt (nat_cmp x y) ≡ true → is_lt (nat_cmp y z) ≡ true → is_lt (nat_cmp x z) ≡ true
numbers_chain x y z first second =
    let a : x < y = ltb-true x y (sym (is_lt_number x y) ∙ first) in
    let b : y < z = ltb-true y z (sym (is_lt_number y z) ∙ second) in
    is_lt_number x z ∙ lt-ltb x z (omega (arith, a, b))

-- ---- regions

chosen_all : (test : ℕ → Bool) (b : Bool) (relay : ℕ) (more : List ℕ) → test relay ≡ true → list_all test more ≡ true →
    list_all test (cond b (relay ∷ []) [] ++ more) ≡ true
chosen_all test true relay more own all = and_from (test relay) (list_all test more) own all
chosen_all test false relay more own all = all

all_skipped : (test : ℕ → Bool) (relays : List ℕ) (answers : List Bool) → list_all test relays ≡ true →
    list_all test (skipped relays answers) ≡ true
all_skipped test [] answers all = refl
all_skipped test (relay ∷ relays) [] all = refl
all_skipped test (relay ∷ relays) (answer ∷ answers) all =
    let parts = and_parts (test relay) (list_all test relays) all in
    chosen_all test (answer && not (relay == 0)) relay (skipped relays answers) parts.0
    (all_skipped test relays answers parts.1)

chosen_front : (b : Bool) (relay : ℕ) (more : List ℕ) → list_all (nat_lt relay) more ≡ true →
    neighbours_pass nat_lt more ≡ true → neighbours_pass nat_lt (cond b (relay ∷ []) [] ++ more) ≡ true
chosen_front true relay more all passes = front nat_lt relay more all passes
chosen_front false relay more all passes = passes

above_numbers : (relay : ℕ) (relays : List ℕ) → ascend nat_cmp (relay ∷ relays) ≡ true →
    list_all (nat_lt relay) relays ≡ true
above_numbers relay relays up =
    all_weaker (λ y. is_lt (nat_cmp relay y)) (nat_lt relay) (λ y less. sym (is_lt_number relay y) ∙ less) relays
    (above nat_cmp numbers_chain relay relays up)

pub skipped_ascend : (relays : List ℕ) (answers : List Bool) → ascend nat_cmp relays ≡ true →
    neighbours_pass nat_lt (skipped relays answers) ≡ true
skipped_ascend [] answers up = refl
skipped_ascend (relay ∷ relays) [] up = refl
skipped_ascend (relay ∷ relays) (answer ∷ answers) up =
    chosen_front (answer && not (relay == 0)) relay (skipped relays answers)
    (all_skipped (nat_lt relay) relays answers (above_numbers relay relays up))
    (skipped_ascend relays answers (behind nat_cmp relay relays up))

none_stands : (region : ℕ) (regions : List ℕ) → list_all (nat_lt region) regions ≡ true → is_listed regions region ≡
    false
none_stands region [] all = refl
none_stands region (other ∷ regions) all =
    let parts = and_parts (nat_lt region other) (list_all (nat_lt region) regions) all in
    let below : region < other = ltb-true region other parts.0 in
    ap (λ b. b || is_listed regions region) (ne_eqb other region (λ e. omega (arith, e, below)))
    ∙ none_stands region regions parts.1

stands_chosen : (answer same zero : Bool) (rest relay_answer : Bool) → (same ≡ true → zero ≡ false) →
    (same ≡ true → rest ≡ false) → (same ≡ false → rest ≡ relay_answer) →
    ((cond (answer && not zero) same false) || rest) ≡ cond same answer relay_answer
stands_chosen true true false rest relay_answer some none other = refl
stands_chosen true true true rest relay_answer some none other = absurd (false≢true (sym (some refl)))
stands_chosen true false true rest relay_answer some none other = other refl
stands_chosen true false false rest relay_answer some none other = other refl
stands_chosen false true zero rest relay_answer some none other = none refl
stands_chosen false false zero rest relay_answer some none other = other refl

any_chosen : (b : Bool) (relay region : ℕ) (more : List ℕ) → is_listed (cond b (relay ∷ []) [] ++ more) region ≡
    ((cond b (relay == region) false) || is_listed more region)
any_chosen true relay region more = refl
any_chosen false relay region more = refl

-- a region is skipped where its relay is in the side
pub skipped_stand : (relays : List ℕ) (answers : List Bool) (region : ℕ) → ascend nat_cmp relays ≡ true →
    list_any (nat_eq 0) relays ≡ false → is_listed (skipped relays answers) region ≡ relay_in relays answers region
skipped_stand [] answers region up some = refl
skipped_stand (relay ∷ relays) [] region up some = refl
skipped_stand (relay ∷ relays) (answer ∷ answers) region up some =
    let parts = or_parts (nat_eq 0 relay) (list_any (nat_eq 0) relays) some in
    any_chosen (answer && not (relay == 0)) relay region (skipped relays answers)
    ∙ stands_chosen answer (relay == region) (relay == 0) (is_listed (skipped relays answers) region)
    (relay_in relays answers region)
    (λ same. ne_eqb relay 0 (λ e. eqb-false 0 relay parts.0 (sym e)))
    (λ same. none_stands region (skipped relays answers) (all_skipped (nat_lt region) relays answers
    (ap (λ r. list_all (nat_lt r) relays) (sym (eqb-true relay region same)) ∙ above_numbers relay relays up)))
    (λ other. skipped_stand relays answers region (behind nat_cmp relay relays up) parts.1)
  where
    or_parts : (a b : Bool) → (a || b) ≡ false → (a ≡ false) × (b ≡ false)
    or_parts true b e = absurd (false≢true (sym e))
    or_parts false b e = (refl, e)

-- ---- points

point_chosen_all : (test : Point → Bool) (b : Bool) (p : Point) (more : List Point) → test p ≡ true →
    list_all test more ≡ true → list_all test (cond b (p ∷ []) [] ++ more) ≡ true
point_chosen_all test true p more own all = and_from (test p) (list_all test more) own all
point_chosen_all test false p more own all = all

-- what holds of each point of the graph holds of each point that is split
pub all_split : (test : Point → Bool) (skip : List ℕ) (nodes : List Node) (halves : List Half) →
    list_all (λ node. test node.point) nodes ≡ true → list_all test (split_points skip nodes halves) ≡ true
all_split test skip [] halves all = refl
all_split test skip (node ∷ nodes) [] all = refl
all_split test skip (node ∷ nodes) (half ∷ halves) all =
    let parts = and_parts (test node.point) (list_all (λ other. test other.point) nodes) all in
    point_chosen_all test (is_cut skip node.point half) node.point (split_points skip nodes halves) parts.0
    (all_split test skip nodes halves parts.1)

pub nodes_chain : (x y z : Node) → is_lt (node_cmp x y) ≡ true → is_lt (node_cmp y z) ≡ true →
    is_lt (node_cmp x z) ≡ true
nodes_chain x y z first second = below_trans x.point y.point z.point first second

point_chosen_front : (b : Bool) (p : Point) (more : List Point) → list_all (λ q. is_lt (point_cmp p q)) more ≡ true →
    neighbours_pass (λ p' q. is_lt (point_cmp p' q)) more ≡ true →
    neighbours_pass (λ p' q. is_lt (point_cmp p' q)) (cond b (p ∷ []) [] ++ more) ≡ true
point_chosen_front true p more all passes = front (λ p' q. is_lt (point_cmp p' q)) p more all passes
point_chosen_front false p more all passes = passes

split_ascend : (skip : List ℕ) (nodes : List Node) (halves : List Half) → ascend node_cmp nodes ≡ true →
    neighbours_pass (λ p q. is_lt (point_cmp p q)) (split_points skip nodes halves) ≡ true
split_ascend skip [] halves up = refl
split_ascend skip (node ∷ nodes) [] up = refl
split_ascend skip (node ∷ nodes) (half ∷ halves) up =
    point_chosen_front (is_cut skip node.point half) node.point (split_points skip nodes halves)
    (all_split (λ q. is_lt (point_cmp node.point q)) skip nodes halves (above node_cmp nodes_chain node nodes up))
    (split_ascend skip nodes halves (behind node_cmp node nodes up))

slot_valid : (point : CutPoint) → is_point_of 1 point ≡ true → is_slot point.point.slot ≡ true
slot_valid point valid =
    let whole = and_parts (is_cut_point point) (is_single point.rest) valid in
    let place = and_parts (is_point point.point) (are_runs point.runs && is_rest point.rest) whole.0 in
    let rest = and_parts (nat_le point.point.region 65535) (is_word point.point.address && is_slot point.point.slot)
    place.0 in
    (and_parts (is_word point.point.address) (is_slot point.point.slot) rest.1).1

numbered : (points : List CutPoint) → list_all (is_point_of 1) points ≡ true →
    neighbours_pass (λ p q. is_lt (point_cmp p q)) (points_of points) ≡ true →
    neighbours_pass stands_before points ≡ true
numbered [] valid up = refl
numbered (point ∷ []) valid up = refl
numbered (point ∷ (next ∷ points)) valid up =
    let valids = and_parts (is_point_of 1 point) (list_all (is_point_of 1) (next ∷ points)) valid in
    let following = and_parts (is_point_of 1 next) (list_all (is_point_of 1) points) valids.1 in
    let parts = and_parts (is_lt (point_cmp point.point next.point)) (neighbours_pass (λ p q. is_lt (point_cmp p q))
    (points_of (next ∷ points))) up in
    and_from (is_below point.point next.point) (neighbours_pass stands_before (next ∷ points))
    parts.0
    (numbered (next ∷ points) valids.1 parts.1)

-- the points of the cut ascend
pub cut_ascends : (skip : List ℕ) (nodes : List Node) (halves : List Half) (points : List CutPoint) →
    ascend node_cmp nodes ≡ true → points_of points ≡ split_points skip nodes halves →
    list_all (is_point_of 1) points ≡ true → neighbours_pass stands_before points ≡ true
cut_ascends skip nodes halves points up same valid =
    numbered points valid (ap (neighbours_pass (λ p q. is_lt (point_cmp p q))) same ∙ split_ascend skip nodes halves up)
