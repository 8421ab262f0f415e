-- The rounds of the solver: no flow at all at first, and at last a flow and a set that nothing more leaves.
use Rattle.std.proofs.Common.{◌≡◌, ℕ, ◌+◌, ◌-◌, ◌^◌, ◌≤◌, ◌<◌, cond, eqb, true, false, List}
use Rattle.std.proofs.Common.{length, slice_index, refl, sym, ap, ◌∙◌, subst, ⊎_elim, arith}
use Rattle.std.proofs.lemmas.Bool.{cases_Bool, ltb-true, lt-ltb, le-ltb}
use Rattle.max_flow.specs.Private.Networks.{Net, at_node, IsNet, IsFlow, IsSide, source_flow, capacity_of}
use Rattle.max_flow.specs.Flows.{AreAtMost}
use Rattle.max_flow.specs.Private.Balances.{IsFlowOfValue}
use Rattle.max_flow.specs.Private.Rooms.{IsBounded, IsClosed, HasSmallSide, IsLeast}
use Rattle.max_flow.specs.Private.Searching.{IsFound, is_found}
use Rattle.max_flow.specs.declared.searching.Tree.{Tree}
use Rattle.max_flow.specs.Private.Solving.{IsRaised, AreZeros}
use Rattle.max_flow.proofs.Sums.{sum_zero}
use Rattle.max_flow.proofs.Tightness.{weak, closed, side_of_closed, capacity_of_closed}

none_at : (keys flow : List ℕ) (v n : ℕ) → AreZeros n flow → at_node keys flow v ≡ 0
unfolding at_node
none_at keys flow v n zeros =
    sum_zero (length keys) (λ i. cond (eqb (slice_index keys i) v) (slice_index flow i) 0)
    (λ i below.
    ⊎_elim (λ (e : eqb (slice_index keys i) v ≡ true). rw e (zeros.each i))
    (λ (e : eqb (slice_index keys i) v ≡ false). rw e refl)
    (cases_Bool (eqb (slice_index keys i) v)))

none_flow : (net : Net) (flow : List ℕ) → AreZeros (length net.tails) flow → IsFlow net flow
none_flow net flow zeros = record {
  count = zeros.count;
  within = λ i below. let e : slice_index flow i ≡ 0 = zeros.each i in omega arith;
  balanced = λ v from below. none_at net.heads flow v (length net.tails) zeros ∙
      sym (none_at net.tails flow v (length net.tails) zeros);
}

none_bounded : (net : Net) (flow : List ℕ) → AreZeros (length net.tails) flow → IsBounded net flow
none_bounded net flow zeros = record {
  count = zeros.count;
  top = λ i below. let e : slice_index flow i ≡ 0 = zeros.each i in omega arith;
}

none_value : (net : Net) (flow : List ℕ) → AreZeros (length net.tails) flow → source_flow net flow ≡ 0
none_value net flow zeros = none_at net.tails flow 0 (length net.tails) zeros

none_most : (n : ℕ) (flow : List ℕ) → AreZeros n flow → AreAtMost 0 flow
none_most n flow zeros = λ i. let e : slice_index flow i ≡ 0 = zeros.each i in omega (arith, e)

pub value_small : (net : Net) (flow : List ℕ) → IsNet net → HasSmallSide net → IsFlow net flow → source_flow net flow < 2
    ^ 64 - 1
value_small net flow is small flows =
    let below : source_flow net flow ≤ capacity_of net small.first = weak net flow small.first is flows small.is_side in
    let few : capacity_of net small.first < 2 ^ 64 - 1 = small.small in
    omega (arith, below, few)

source_in : (net : Net) (flow places arrivals rooms queue : List ℕ) → IsFound net flow places arrivals rooms queue →
    is_found places 0 ≡ true
source_in net flow places arrivals rooms queue found = lt-ltb 0 (slice_index places 0) found.source

sink_out : (places : List ℕ) → slice_index places 1 ≡ 0 → is_found places 1 ≡ false
sink_out places none = le-ltb 0 (slice_index places 1) (omega (arith, none))

pub last_side : (net : Net) (flow : List ℕ) (value : ℕ) (places arrivals rooms queue : List ℕ) → IsNet net →
    HasSmallSide net → IsFlow net flow →
    IsFound net flow places arrivals rooms queue → slice_index places 1 ≡ 0 → IsClosed net flow (is_found places) →
    IsSide net (is_found places)
last_side net flow value places arrivals rooms queue is small flows found none shut =
    side_of_closed net flow (is_found places) is flows (source_in net flow places arrivals rooms queue found)
    (sink_out places none) shut (value_small net flow is small flows)

pub last_capacity : (net : Net) (flow : List ℕ) (value : ℕ) (places arrivals rooms queue : List ℕ) → IsNet net →
    HasSmallSide net → IsFlow net flow →
    source_flow net flow ≡ value → IsFound net flow places arrivals rooms queue → slice_index places 1 ≡ 0 →
    IsClosed net flow (is_found places) →
    capacity_of net (is_found places) ≡ value
last_capacity net flow value places arrivals rooms queue is small flows value_is found none shut =
    capacity_of_closed net flow (is_found places) is flows (source_in net flow places arrivals rooms queue found)
    (sink_out places none) shut (value_small net flow is small flows)
    ∙ value_is

pub last_least : (net : Net) (flow : List ℕ) (value : ℕ) (places arrivals rooms queue : List ℕ) → IsNet net →
    IsFlow net flow →
    source_flow net flow ≡ value → IsFound net flow places arrivals rooms queue → IsLeast net value (is_found places)
last_least net flow value places arrivals rooms queue is flows value_is found = record {
  contained = λ other side few v below in_set.
      found.least other side.source (closed net flow other is flows side (omega (arith, few, value_is))) v below
      (ltb-true 0 (slice_index places v) in_set);
}

pub raised_side : (net : Net) (flow : List ℕ) (value : ℕ) (tree : Tree) → IsNet net → HasSmallSide net →
    IsRaised net flow value tree →
    IsSide net (is_found tree.places.items)
raised_side net flow value tree is small raised =
    last_side net flow value tree.places.items tree.arrivals.items tree.rooms.items tree.queue.items is small
    raised.flow_is raised.tree_is raised.sink raised.shut

pub raised_capacity : (net : Net) (flow : List ℕ) (value : ℕ) (tree : Tree) → IsNet net → HasSmallSide net →
    IsRaised net flow value tree →
    capacity_of net (is_found tree.places.items) ≡ value
raised_capacity net flow value tree is small raised =
    last_capacity net flow value tree.places.items tree.arrivals.items tree.rooms.items tree.queue.items is small
    raised.flow_is raised.value_is raised.tree_is raised.sink raised.shut

pub raised_least : (net : Net) (flow : List ℕ) (value : ℕ) (tree : Tree) → IsNet net → IsRaised net flow value tree →
    IsLeast net value (is_found tree.places.items)
raised_least net flow value tree is raised =
    last_least net flow value tree.places.items tree.arrivals.items tree.rooms.items tree.queue.items is
    raised.flow_is raised.value_is raised.tree_is

pub none_of_value : (net : Net) (flow : List ℕ) → AreZeros (length net.tails) flow → IsFlowOfValue net flow 0
none_of_value net flow zeros = record {
  flow_is = none_flow net flow zeros;
  bounded = none_bounded net flow zeros;
  value_is = none_value net flow zeros;
  most = none_most (length net.tails) flow zeros;
}

-- a flow is one of its own value
pub own_value : (net : Net) (flow : List ℕ) (value : ℕ) → IsFlowOfValue net flow value → IsFlowOfValue net flow
    (source_flow net flow)
own_value net flow value is = subst (IsFlowOfValue net flow) (sym is.value_is) is

-- the value of a flow to which more is added
pub value_on : (net : Net) (flow later : List ℕ) (value more total : ℕ) → IsFlowOfValue net flow value → IsFlowOfValue
    net later (source_flow net flow + more) → total ≡ value + more → IsFlowOfValue net later total
value_on net flow later value more total is then sum =
    subst (IsFlowOfValue net later) (ap (λ v. v + more) is.value_is ∙ sym sum) then
