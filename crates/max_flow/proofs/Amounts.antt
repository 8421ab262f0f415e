-- A walk back raises no edge twice, so no edge by more than what the walk adds to the value.
use Rattle.std.proofs.Common.{◌≡◌, ◌≢◌, ℕ, ◌+◌, ◌-◌, ◌≤◌, ◌<◌, eqb, true, false, List}
use Rattle.std.proofs.Common.{length, set, slice_index, ap, subst, ⊎_elim, arith}
use Rattle.std.proofs.lemmas.Bool.{cases_eq, eq-eqb, ne_eqb, cond-true, cond-false, cases_Bool}
use Rattle.std.proofs.lemmas.List.{get_or-set_same, get_or-set_other}
use Rattle.max_flow.specs.Private.Networks.{Net}
use Rattle.max_flow.specs.Flows.{AreAtMost}
use Rattle.max_flow.specs.Private.Rooms.{other_end, pushed}
use Rattle.max_flow.specs.Private.Searching.{IsWalking, IsRaising}
use Rattle.max_flow.proofs.WalksBack.{walk_arrives}

pub raising_first : (net : Net) (flow places : List ℕ) (value at d : ℕ) → AreAtMost value flow →
    IsRaising net flow places value at d
raising_first net flow places value at d most = record {
  most = λ i. let m : slice_index flow i ≤ value = most i in omega (arith, m);
  ahead = λ i tail head. most i;
}

pushed_most : (net : Net) (flow : List ℕ) (e v d : ℕ) → pushed net flow e v d ≤ slice_index flow e + d
pushed_most net flow e v d =
    ⊎_elim
    (λ (test : eqb (slice_index net.heads e) v ≡ true).
    let new : pushed net flow e v d ≡ slice_index flow e + d = cond-true (eqb (slice_index net.heads e) v) _ _ test in
    omega (arith, new))
    (λ (test : eqb (slice_index net.heads e) v ≡ false).
    let new : pushed net flow e v d ≡ slice_index flow e - d = cond-false (eqb (slice_index net.heads e) v) _ _ test in
    omega (arith, new))
    (cases_Bool (eqb (slice_index net.heads e) v))

-- the ends of the edge of the node where the walk stands: the node itself, and one found before
record Ends (net : Net) (places : List ℕ) (e at : ℕ) : Type 0 where
  tail : slice_index places (slice_index net.tails e) ≤ slice_index places at
  head : slice_index places (slice_index net.heads e) ≤ slice_index places at
  left : slice_index places (slice_index net.tails e) ≤ slice_index places (other_end net e at) → slice_index places
      (slice_index net.heads e) ≤ slice_index places (other_end net e at) → slice_index places at ≤ slice_index places
      (other_end net e at)

ends_of : (net : Net) (places : List ℕ) (e at : ℕ) → (slice_index net.heads e ≢ at → slice_index net.tails e ≡ at) →
    slice_index places (other_end net e at) < slice_index places at → Ends net places e at
ends_of net places e at joins earlier =
    ⊎_elim
    (λ (head : slice_index net.heads e ≡ at).
    let end : other_end net e at ≡ slice_index net.tails e = cond-true (eqb (slice_index net.heads e) at) _ _
    (eq-eqb (slice_index net.heads e) at head) in
    let far : slice_index places (other_end net e at) ≡ slice_index places (slice_index net.tails e) =
    ap (slice_index places) end in
    let near : slice_index places (slice_index net.heads e) ≡ slice_index places at = ap (slice_index places) head in
    record {
      tail = omega (arith, far, earlier);
      head = omega (arith, near);
      left = λ t h. omega (arith, near, h);
    })
    (λ (ne : slice_index net.heads e ≢ at).
    let end : other_end net e at ≡ slice_index net.heads e = cond-false (eqb (slice_index net.heads e) at) _ _
    (ne_eqb (slice_index net.heads e) at ne) in
    let far : slice_index places (other_end net e at) ≡ slice_index places (slice_index net.heads e) =
    ap (slice_index places) end in
    let near : slice_index places (slice_index net.tails e) ≡ slice_index places at = ap (slice_index places)
    (joins ne) in
    record {
      tail = omega (arith, near);
      head = omega (arith, far, earlier);
      left = λ t h. omega (arith, near, t);
    })
    (cases_eq (slice_index net.heads e) at)

raised_on : (net : Net) (flow places : List ℕ) (value at d e : ℕ) → e < length flow →
    slice_index places (other_end net e at) < slice_index places at → Ends net places e at →
    IsRaising net flow places value at d →
    IsRaising net (set flow e (pushed net flow e at d)) places value (other_end net e at) d
raised_on net flow places value at d e inside earlier ends raising = record {
  most = λ i.
      ⊎_elim
      (λ (same : i ≡ e).
      let here : slice_index (set flow e (pushed net flow e at d)) e ≡ pushed net flow e at d = get_or-set_same flow e
      (pushed net flow e at d) 0 inside in
      let new : pushed net flow e at d ≤ slice_index flow e + d = pushed_most net flow e at d in
      let old : slice_index flow e ≤ value = raising.ahead e ends.tail ends.head in
      rw same (omega (arith, here, new, old)))
      (λ (ne : i ≢ e).
      let there : slice_index (set flow e (pushed net flow e at d)) i ≡ slice_index flow i = get_or-set_other flow e i
      (pushed net flow e at d) 0 ne in
      let old : slice_index flow i ≤ value + d = raising.most i in omega (arith, there, old))
      (cases_eq i e);
  ahead = λ i tail head.
      ⊎_elim
      (λ (same : i ≡ e).
      let t : slice_index places (slice_index net.tails e) ≤ slice_index places (other_end net e at) =
      subst (λ k. slice_index places (slice_index net.tails k) ≤ slice_index places (other_end net e at)) same tail in
      let h : slice_index places (slice_index net.heads e) ≤ slice_index places (other_end net e at) =
      subst (λ k. slice_index places (slice_index net.heads k) ≤ slice_index places (other_end net e at)) same head in
      let over : slice_index places at ≤ slice_index places (other_end net e at) = ends.left t h in
      omega (arith, over, earlier))
      (λ (ne : i ≢ e).
      let there : slice_index (set flow e (pushed net flow e at d)) i ≡ slice_index flow i = get_or-set_other flow e i
      (pushed net flow e at d) 0 ne in
      let old : slice_index flow i ≤ value = raising.ahead i (omega (arith, tail, earlier)) (omega (
        arith,
        head,
        earlier,
      )) in
      omega (arith, there, old))
      (cases_eq i e);
}

pub raising_on : (net : Net) (flow places arrivals rooms : List ℕ) (value at d : ℕ) →
    IsWalking net flow places arrivals rooms value at d → at ≢ 0 → IsRaising net flow places value at d →
    IsRaising net (set flow (slice_index arrivals at) (pushed net flow (slice_index arrivals at) at d)) places value
    (other_end net (slice_index arrivals at) at) d
raising_on net flow places arrivals rooms value at d walking ne raising =
    let arrives = walk_arrives net flow places arrivals rooms value at d walking ne in
    let count : length flow ≡ length net.tails = walking.bounded.count in
    let edge : slice_index arrivals at < length net.tails = arrives.edge in
    raised_on net flow places value at d (slice_index arrivals at) (omega (arith, count, edge)) arrives.earlier
    (ends_of net places (slice_index arrivals at) at arrives.joins arrives.earlier) raising
