-- Which links leave the side of a certificate.
use Rattle.std.proofs.Common.{◌≡◌, ◌≢◌, ℕ, zero, suc, ◌+◌, ◌≤◌, ◌<◌, ◌++◌, eqb, Bool, true}
use Rattle.std.proofs.Common.{false, List, [], ◌∷◌, length, get_or, take, refl, ap, ◌∙◌, subst, ⊎_elim}
use Rattle.std.proofs.Common.{arith, take_all}
use Rattle.std.specs.List.{list_any}
use Rattle.std.specs.Ordering.{nat_cmp}
use Rattle.std.proofs.lemmas.Bool.{cases_eq, and_parts, cond-true, cond-false, eq-eqb, ne_eqb, or_parts}
use Rattle.std.proofs.lemmas.Option.{slice_get-get_or}
use Rattle.std.proofs.lemmas.List.{get_or_default, take_more}
use Rattle.flow_graph.specs.declared.ends.Arc.{Arc}
use Rattle.flow_graph.specs.declared.graphs.Graph.{Graph}
use Rattle.flow_graph.specs.Graphs.{ascend}
use Rattle.max_flow.specs.declared.answers.Half.{Half}
use Rattle.max_flow.specs.declared.answers.Half.TheVariants.{Neither}
use Rattle.max_flow.specs.declared.answers.Solved.{Solved}
use Rattle.max_flow.specs.Flows.{first_in, has_first, has_second, relay_in, second_in}
use Rattle.max_flow.proofs.NamedSides.{or_false}
use Rattle.flow_certificate.specs.Verdicts.{HasNone, HasNoneAcross, IsFirstAcross, is_across}

pub first_half : (halves : List Half) (i : ℕ) (other : Half) → i < length halves →
    has_first (get_or halves i other) ≡ first_in halves i
first_half halves i other below = ap has_first (get_or_default halves i other Neither below)

pub second_half : (halves : List Half) (i : ℕ) (other : Half) → i < length halves →
    has_second (get_or halves i other) ≡ second_in halves i
second_half halves i other below = ap has_second (get_or_default halves i other Neither below)

head_below : (x : ℕ) (xs : List ℕ) (i : ℕ) → ascend nat_cmp (x ∷ xs) ≡ true → i < length xs → x < get_or xs i 0
head_below x [] i up below = absurd (omega arith)
head_below x (y ∷ ys) zero up below = grind arith
head_below x (y ∷ ys) (suc i) up below =
    let parts = and_parts _ (ascend nat_cmp (y ∷ ys)) up in
    let first : x < y = grind arith in
    let later : y < get_or ys i 0 = head_below y ys i parts.1 (omega arith) in
    omega (arith, first, later)

tail_ascends : (x : ℕ) (xs : List ℕ) → ascend nat_cmp (x ∷ xs) ≡ true → ascend nat_cmp xs ≡ true
tail_ascends x [] up = refl
tail_ascends x (y ∷ ys) up = (and_parts _ (ascend nat_cmp (y ∷ ys)) up).1

pub rises : (xs : List ℕ) → ascend nat_cmp xs ≡ true → (i j : ℕ) → i ≤ j → j < length xs →
    get_or xs i 0 ≤ get_or xs j 0
rises [] up i j within below = absurd (omega arith)
rises (x ∷ xs) up zero zero within below = omega arith
rises (x ∷ xs) up zero (suc j) within below =
    let above : x < get_or xs j 0 = head_below x xs j up (omega arith) in omega (arith, above)
rises (x ∷ xs) up (suc i) zero within below = absurd (omega arith)
rises (x ∷ xs) up (suc i) (suc j) within below = rises xs (tail_ascends x xs up) i j (omega arith) (omega arith)

-- ascending relays are told apart by their numbers
pub relay_at : (relays : List ℕ) (answers : List Bool) (i r : ℕ) (other : Bool) → ascend nat_cmp relays ≡ true →
    length answers ≡ length relays → i < length relays → get_or relays i 0 ≡ r →
    relay_in relays answers r ≡ get_or answers i other
relay_at [] answers i r other up same below is = absurd (omega arith)
relay_at (x ∷ xs) [] i r other up same below is = absurd (omega (arith, same))
relay_at (x ∷ xs) (a ∷ more) zero r other up same below is = cond-true (eqb x r) a (relay_in xs more r) (eq-eqb x r is)
relay_at (x ∷ xs) (a ∷ more) (suc i) r other up same below is =
    let before : x < get_or xs i 0 = head_below x xs i up (omega arith) in
    cond-false (eqb x r) a (relay_in xs more r) (ne_eqb x r (λ e. omega (arith, e, is, before)))
    ∙ relay_at xs more i r other (tail_ascends x xs up) (omega (arith, same)) (omega arith) is

-- ---- the first link that leaves the source side

none_push : (test : Arc → Bool) (links : List Arc) (link : Arc) → list_any test links ≡ false → test link ≡ false →
    list_any test (links ++ link ∷ []) ≡ false
none_push test [] link none out = or_false _ _ out refl
none_push test (first ∷ links) link none out =
    let parts = or_parts (test first) (list_any test links) none in
    or_false _ _ parts.0 (none_push test links link parts.1 out)

pub none_across_more : (graph : Graph) (solved : Solved) (i : ℕ) (other : Arc) → i < length graph.links →
    list_any (is_across graph solved) (take i graph.links) ≡ false →
    is_across graph solved (get_or graph.links i other) ≡ false →
    list_any (is_across graph solved) (take (i + 1) graph.links) ≡ false
none_across_more graph solved i other below none out =
    ap (list_any (is_across graph solved)) (take_more graph.links i other below)
    ∙ none_push (is_across graph solved) (take i graph.links) (get_or graph.links i other) none out

pub none_across : (graph : Graph) (solved : Solved) (i : ℕ) → length graph.links ≤ i →
    list_any (is_across graph solved) (take i graph.links) ≡ false → HasNoneAcross graph solved
none_across graph solved i past none = subst (λ links. list_any (is_across graph solved) links ≡ false)
    (take_all i graph.links past) none

pub first_link : (graph : Graph) (solved : Solved) (i : ℕ) (other : Arc) → i < length graph.links →
    list_any (is_across graph solved) (take i graph.links) ≡ false →
    is_across graph solved (get_or graph.links i other) ≡ true → IsFirstAcross graph solved (get_or graph.links i other)
first_link graph solved i other below none out = record {
  index = i;
  is = slice_get-get_or graph.links i other below;
  across = out;
  before = none;
}

pub none_more : (test : ℕ → Bool) (i : ℕ) → HasNone test 0 i → test i ≡ false → HasNone test 0 (i + 1)
none_more test i none here k from below =
    ⊎_elim (λ (same : k ≡ i). ap test same ∙ here) (λ (ne : k ≢ i). none k from (omega (arith, ne, below)))
    (cases_eq k i)
