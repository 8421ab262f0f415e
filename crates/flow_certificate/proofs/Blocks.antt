-- The sums of a block of nodes, over the points and then over the links, are those of the network.
use Rattle.std.proofs.Common.{◌≡◌, ℕ, ◌+◌, ◌-◌, ◌*◌, ◌^◌, ◌≤◌, ◌<◌, ◌==◌, ◌++◌, not, Bool}
use Rattle.std.proofs.Common.{List, length, slice_index, sym, ap, ◌∙◌, arith}
use Rattle.max_flow.specs.Private.Networks.{at_node}
use Rattle.max_flow.proofs.NamedFlows.{at_append}
use Rattle.flow_certificate.specs.Private.Sums.{AreAdded, AreSmall, AreZero, HaveRoom, HaveSums, brought, differ_at}
use Rattle.flow_certificate.specs.Verdicts.{HasNone, IsFirst}
use Rattle.flow_certificate.proofs.Counters.{brought_small}

pub at_node_split : (a b x y : List ℕ) (v : ℕ) → length a ≡ length x →
    at_node (a ++ b) (x ++ y) v ≡ brought a x (length a) v + brought b y (length b) v
unfolding at_node brought
at_node_split a b x y v same = at_append a b x y v (sym same)

pub room_after : (base : ℕ) (keys flows : List ℕ) (n : ℕ) (old new : List ℕ) → AreZero old → n < 2 ^ 32 →
    AreSmall flows → AreAdded base (brought keys flows n) old new → HaveRoom new
room_after base keys flows n old new none_yet few small added k below =
    let count : length new ≡ length old = added.count in
    let inside : k < length old = omega (arith, count, below) in
    let none : slice_index old k ≡ 0 = none_yet k inside in
    let more : slice_index new k ≡ slice_index old k + brought keys flows n (base + k) = added.each k inside in
    let most : brought keys flows n (base + k) ≤ n * 2 ^ 48 = brought_small keys flows n (base + k) small in
    omega (arith, none, more, most, few)

pub sums_whole : (base : ℕ) (a b x y old mid new : List ℕ) → length a ≡ length x → AreZero old →
    AreAdded base (brought a x (length a)) old mid → AreAdded base (brought b y (length b)) mid new →
    HaveSums (a ++ b) (x ++ y) base new
sums_whole base a b x y old mid new same none_yet first second k below =
    let count : length mid ≡ length old = first.count in
    let longer : length new ≡ length mid = second.count in
    let inside : k < length old = omega (arith, count, longer, below) in
    let none : slice_index old k ≡ 0 = none_yet k inside in
    let one : slice_index mid k ≡ slice_index old k + brought a x (length a) (base + k) = first.each k inside in
    let two : slice_index new k ≡ slice_index mid k + brought b y (length b) (base + k) =
    second.each k (omega (arith, count, inside)) in
    let split : at_node (a ++ b) (x ++ y) (base + k) ≡ brought a x (length a) (base + k) + brought b y (length b)
    (base + k) = at_node_split a b x y (base + k) same in
    omega (arith, none, one, two, split)

-- the node of a counter
abbrev differs : List ℕ → List ℕ → List ℕ → ℕ → Bool
differs heads tails flows v = not (at_node heads flows v == at_node tails flows v)

counted_at : (heads tails flows into out : List ℕ) (base v : ℕ) → HaveSums heads flows base into →
    HaveSums tails flows base out → base ≤ v → v - base < length into → v - base < length out →
    differ_at into out (v - base) ≡ differs heads tails flows v
counted_at heads tails flows into out base v inflow outflow from first second =
    let node : base + (v - base) ≡ v = omega arith in
    ap (λ (n : ℕ). not (n == slice_index out (v - base))) (inflow (v - base) first ∙ ap (λ (k : ℕ). at_node heads
    flows k) node)
    ∙ ap (λ (n : ℕ). not (at_node heads flows v == n)) (outflow (v - base) second ∙ ap (λ (k : ℕ). at_node tails
    flows k) node)

pub none_differs : (heads tails flows into out : List ℕ) (base width : ℕ) → HaveSums heads flows base into →
    HaveSums tails flows base out → width ≤ length into → width ≤ length out → HasNone (differ_at into out) 0 width →
    HasNone (differs heads tails flows) base (base + width)
none_differs heads tails flows into out base width inflow outflow first second none v from below =
    sym (counted_at heads tails flows into out base v inflow outflow from (omega arith) (omega arith))
    ∙ none (v - base) (omega arith) (omega arith)

pub first_differs : (heads tails flows into out : List ℕ) (base width k : ℕ) → HaveSums heads flows base into →
    HaveSums tails flows base out → width ≤ length into → width ≤ length out →
    IsFirst (differ_at into out) 0 width k → IsFirst (differs heads tails flows) base (base + width) (base + k)
first_differs heads tails flows into out base width k inflow outflow first second is =
    let below : k < width = is.below in
    let back : base + k - base ≡ k = omega arith in
    record {
      from_on = omega arith;
      below = omega arith;
      passes = sym (counted_at heads tails flows into out base (base + k) inflow outflow (omega arith)
          (omega arith) (omega arith)) ∙ (ap (λ (j : ℕ). differ_at into out j) back ∙ is.passes);
      before = λ v from earlier. sym (counted_at heads tails flows into out base v inflow outflow from
          (omega arith) (omega arith)) ∙ is.before (v - base) (omega arith) (omega arith);
    }
