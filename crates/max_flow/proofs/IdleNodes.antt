-- A node that no edge with flow leaves is entered by none either.
use Rattle.std.proofs.Common.{◌≡◌, ◌≢◌, ℕ, ◌-◌, ◌≤◌, ◌<◌, eqb, cond, List, length, slice_index, sym, ap, ◌∙◌, subst}
use Rattle.std.proofs.Common.{⊎_elim, arith}
use Rattle.std.proofs.lemmas.Bool.{cases_eq, cases_lt, eq-eqb, ne_eqb, cond-true, cond-false}
use Rattle.max_flow.specs.Private.Networks.{Net, IsNet, IsFlow, at_node, sum_below}
use Rattle.max_flow.specs.Private.Chains.{IsLast, AreChains}
use Rattle.max_flow.specs.Private.Searching.{HasNoInflow}
use Rattle.max_flow.proofs.Sums.{sum_zero, sum_item}

none_at : (keys numbers : List ℕ) (v : ℕ) →
    ((i : ℕ) → i < length keys → slice_index keys i ≡ v → slice_index numbers i ≡ 0) → at_node keys numbers v ≡ 0
unfolding at_node
none_at keys numbers v none =
    sum_zero (length keys) (λ i. cond (eqb (slice_index keys i) v) (slice_index numbers i) 0)
    (λ i below.
    ⊎_elim
    (λ (e : slice_index keys i ≡ v).
    cond-true (eqb (slice_index keys i) v) _ _ (eq-eqb (slice_index keys i) v e) ∙ none i below e)
    (λ (ne : slice_index keys i ≢ v). cond-false (eqb (slice_index keys i) v) _ _ (ne_eqb (slice_index keys i) v ne))
    (cases_eq (slice_index keys i) v))

at_none : (keys numbers : List ℕ) (v i : ℕ) → at_node keys numbers v ≡ 0 → i < length keys → slice_index keys i ≡ v →
    slice_index numbers i ≡ 0
unfolding at_node
at_none keys numbers v i none below e =
    let item : cond (eqb (slice_index keys i) v) (slice_index numbers i) 0 ≤ sum_below (length keys)
    (λ k. cond (eqb (slice_index keys k) v) (slice_index numbers k) 0) =
    sum_item (length keys) (λ k. cond (eqb (slice_index keys k) v) (slice_index numbers k) 0) i below in
    let here : cond (eqb (slice_index keys i) v) (slice_index numbers i) 0 ≡ slice_index numbers i =
    cond-true (eqb (slice_index keys i) v) _ _ (eq-eqb (slice_index keys i) v e) in
    omega (arith, item, here, none)

no_inflow : (net : Net) (flow : List ℕ) (at : ℕ) → IsNet net → IsFlow net flow → 2 ≤ at → at < net.nodes →
    ((i : ℕ) → i < length net.tails → slice_index net.tails i ≡ at → slice_index flow i ≡ 0) → HasNoInflow net flow at
no_inflow net flow at is flows inner inside none =
    let into : at_node net.heads flow at ≡ 0 = flows.balanced at inner inside ∙ none_at net.tails flow at none in
    record { none = λ i below e. at_none net.heads flow at i into (omega (arith, below, is.same)) e }

-- the last edge that leaves the node has no flow, and no edge before it leaves the node
pub alone_without_flow : (net : Net) (flow first next : List ℕ) (at last : ℕ) → IsNet net → IsFlow net flow →
    AreChains net.tails (length net.tails) net.nodes first next → 2 ≤ at → at < net.nodes →
    last ≡ slice_index first at → 0 < last → slice_index flow (last - 1) ≡ 0 → slice_index next (last - 1) ≡ 0 →
    HasNoInflow net flow at
alone_without_flow net flow first next at last is flows chains inner inside last_is some still alone =
    let end : IsLast net.tails (length net.tails) at last =
    subst (λ c. IsLast net.tails (length net.tails) at c) (sym last_is) (chains.starts at inside) in
    let within : last ≤ length net.tails = end.within in
    let before : IsLast net.tails (last - 1) at 0 =
    subst (λ c. IsLast net.tails (last - 1) at c) alone
    (subst (λ v. IsLast net.tails (last - 1) v (slice_index next (last - 1))) (end.here some)
    (chains.goes_on (last - 1) (omega (arith, within, some)))) in
    no_inflow net flow at is flows inner inside
    (λ i below e.
    ⊎_elim
    (λ (early : i < last - 1). absurd (before.above i (omega arith) early e))
    (λ (rest : last - 1 ≤ i).
    ⊎_elim
    (λ (same : i ≡ last - 1). ap (slice_index flow) same ∙ still)
    (λ (ne : i ≢ last - 1). absurd (end.above i (omega (arith, rest, ne, some)) below e))
    (cases_eq i (last - 1)))
    (cases_lt i (last - 1)))
