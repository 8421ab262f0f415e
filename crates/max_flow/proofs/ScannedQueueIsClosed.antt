-- Edge by edge along a chain, and node by node along the queue.
use Rattle.std.proofs.Common.{◌≡◌, ◌≢◌, ℕ, ◌+◌, ◌-◌, ◌≤◌, ◌<◌, eqb, true, false, List, length}
use Rattle.std.proofs.Common.{slice_index, refl, sym, ap, ◌∙◌, subst, ⊎_elim, arith}
use Rattle.std.proofs.lemmas.Bool.{cases_eq, cases_lt, ltb-true, lt-ltb, eq-eqb, ne_eqb, cond-true, cond-false}
use Rattle.max_flow.specs.Private.Networks.{Net, IsNet}
use Rattle.max_flow.specs.Private.Rooms.{bound, IsClosed}
use Rattle.max_flow.specs.Private.Chains.{IsLast, AreChains}
use Rattle.max_flow.specs.Private.Searching.{IsFound, HasGrown, HasLeft, HasEntered, IsScanned, Reaches, is_found}

pub left_first : (net : Net) (flow places : List ℕ) (at c : ℕ) → IsLast net.tails (length net.tails) at c →
    HasLeft net flow places at c
left_first net flow places at c last = record { left = λ i from below is room. absurd (last.above i from below is) }

pub left_more : (net : Net) (flow places : List ℕ) (count : ℕ) (later : List ℕ) (more at cursor next : ℕ) →
    HasLeft net flow places at cursor → 0 < cursor → HasGrown places count later more → IsLast net.tails (cursor - 1)
    at next →
    (0 < bound net.limits (cursor - 1) - slice_index flow (cursor - 1) → 0 < slice_index later
    (slice_index net.heads (cursor - 1))) →
    HasLeft net flow later at next
left_more net flow places count later more at cursor next left some grown last found = record {
  left = λ i from below is room.
      ⊎_elim
      (λ (earlier : i < cursor - 1). absurd (last.above i from earlier is))
      (λ (rest : cursor - 1 ≤ i).
      ⊎_elim
      (λ (e : i ≡ cursor - 1).
      subst (λ k. 0 < slice_index later (slice_index net.heads k)) (sym e)
      (found (subst (λ k. 0 < bound net.limits k - slice_index flow k) e (omega (arith, room)))))
      (λ (ne : i ≢ cursor - 1).
      let old : 0 < slice_index places (slice_index net.heads i) = left.left i (omega arith) below is room in
      let same : slice_index later (slice_index net.heads i) ≡ slice_index places (slice_index net.heads i) =
      grown.kept (slice_index net.heads i) old in
      omega (arith, old, same))
      (cases_eq i (cursor - 1)))
      (cases_lt i (cursor - 1));
}

pub left_grown : (net : Net) (flow places : List ℕ) (count : ℕ) (later : List ℕ) (more at cursor : ℕ) →
    HasLeft net flow places at cursor → HasGrown places count later more → HasLeft net flow later at cursor
left_grown net flow places count later more at cursor left grown = record {
  left = λ i from below is room.
      let old : 0 < slice_index places (slice_index net.heads i) = left.left i from below is room in
      let same : slice_index later (slice_index net.heads i) ≡ slice_index places (slice_index net.heads i) =
      grown.kept (slice_index net.heads i) old in
      omega (arith, old, same);
}

pub entered_first : (net : Net) (flow places : List ℕ) (at c : ℕ) → IsLast net.heads (length net.tails) at c →
    HasEntered net flow places at c
entered_first net flow places at c last =
    record { entered = λ i from below is room. absurd (last.above i from below is) }

pub entered_more : (net : Net) (flow places : List ℕ) (count : ℕ) (later : List ℕ) (more at cursor next : ℕ) →
    HasEntered net flow places at cursor → 0 < cursor → HasGrown places count later more → IsLast net.heads
    (cursor - 1) at next →
    (0 < slice_index flow (cursor - 1) → 0 < slice_index later (slice_index net.tails (cursor - 1))) →
    HasEntered net flow later at next
entered_more net flow places count later more at cursor next entered some grown last found = record {
  entered = λ i from below is room.
      ⊎_elim
      (λ (earlier : i < cursor - 1). absurd (last.above i from earlier is))
      (λ (rest : cursor - 1 ≤ i).
      ⊎_elim
      (λ (e : i ≡ cursor - 1).
      subst (λ k. 0 < slice_index later (slice_index net.tails k)) (sym e)
      (found (subst (λ k. 0 < slice_index flow k) e room)))
      (λ (ne : i ≢ cursor - 1).
      let old : 0 < slice_index places (slice_index net.tails i) = entered.entered i (omega arith) below is room in
      let same : slice_index later (slice_index net.tails i) ≡ slice_index places (slice_index net.tails i) =
      grown.kept (slice_index net.tails i) old in
      omega (arith, old, same))
      (cases_eq i (cursor - 1)))
      (cases_lt i (cursor - 1));
}

pub scanned_none : (net : Net) (flow places : List ℕ) → IsScanned net flow places 0
scanned_none net flow places = record {
  forward = λ i below found within room. absurd (omega (arith, found, within));
  backward = λ i below found within room. absurd (omega (arith, found, within));
}

pub scanned_more : (net : Net) (flow places arrivals rooms queue later : List ℕ) (more next : ℕ) → IsNet net →
    IsFound net flow places arrivals rooms queue → next < length queue → IsScanned net flow places next →
    HasGrown places (length queue) later more → HasLeft net flow later (slice_index queue next) 0 → HasEntered net
    flow later (slice_index queue next) 0 →
    IsScanned net flow later (next + 1)
scanned_more net flow places arrivals rooms queue later more next is found inside scanned grown left entered =
    let before : (v : ℕ) → 0 < slice_index later v → slice_index later v ≤ next + 1 → 0 < slice_index places v =
    λ v placed within.
    ⊎_elim
    (λ (some : 0 < slice_index places v). some)
    (λ (none : slice_index places v ≤ 0).
    let e : slice_index places v ≡ 0 = omega arith in
    let fresh : length queue < slice_index later v = grown.fresh v e placed in absurd (omega arith))
    (cases_lt 0 (slice_index places v)) in
    let at : (v : ℕ) → v < net.nodes → 0 < slice_index places v → slice_index places v ≡ next + 1 → v ≡ slice_index
    queue next = λ v below placed last.
    let e : slice_index places v - 1 ≡ next = omega (arith, last) in
    sym (found.queued v below placed) ∙ ap (slice_index queue) e in
    let kept : (v : ℕ) → 0 < slice_index places v → 0 < slice_index later v = λ v placed.
    let same : slice_index later v ≡ slice_index places v = grown.kept v placed in omega (arith, same, placed) in
    record {
      forward = λ i below placed within room.
          let old : 0 < slice_index places (slice_index net.tails i) = before (slice_index net.tails i) placed within in
          let same : slice_index later (slice_index net.tails i) ≡ slice_index places (slice_index net.tails i) =
          grown.kept (slice_index net.tails i) old in
          ⊎_elim
          (λ (e : slice_index places (slice_index net.tails i) ≡ next + 1).
          left.left i (omega arith) below (at (slice_index net.tails i) (is.tails_inside i below) old e) room)
          (λ (ne : slice_index places (slice_index net.tails i) ≢ next + 1).
          kept (slice_index net.heads i) (scanned.forward i below old (omega (arith, same, within, ne)) room))
          (cases_eq (slice_index places (slice_index net.tails i)) (next + 1));
      backward = λ i below placed within room.
          let old : 0 < slice_index places (slice_index net.heads i) = before (slice_index net.heads i) placed within in
          let same : slice_index later (slice_index net.heads i) ≡ slice_index places (slice_index net.heads i) =
          grown.kept (slice_index net.heads i) old in
          ⊎_elim
          (λ (e : slice_index places (slice_index net.heads i) ≡ next + 1).
          entered.entered i (omega arith) below (at (slice_index net.heads i) (is.heads_inside i below) old e) room)
          (λ (ne : slice_index places (slice_index net.heads i) ≢ next + 1).
          kept (slice_index net.tails i) (scanned.backward i below old (omega (arith, same, within, ne)) room))
          (cases_eq (slice_index places (slice_index net.heads i)) (next + 1));
    }

pub scanned_all : (net : Net) (flow places arrivals rooms queue : List ℕ) (next : ℕ) → IsNet net → IsFound net flow
    places arrivals rooms queue →
    length queue ≤ next → IsScanned net flow places next → IsClosed net flow (is_found places)
scanned_all net flow places arrivals rooms queue next is found all scanned = record {
  forward = λ i below room from.
      let placed : 0 < slice_index places (slice_index net.tails i) =
      ltb-true 0 (slice_index places (slice_index net.tails i)) from in
      let within : slice_index places (slice_index net.tails i) ≤ length queue =
      found.within (slice_index net.tails i) (is.tails_inside i below) in
      lt-ltb 0 (slice_index places (slice_index net.heads i)) (scanned.forward i below placed (omega arith) room);
  backward = λ i below room from.
      let placed : 0 < slice_index places (slice_index net.heads i) =
      ltb-true 0 (slice_index places (slice_index net.heads i)) from in
      let within : slice_index places (slice_index net.heads i) ≤ length queue =
      found.within (slice_index net.heads i) (is.heads_inside i below) in
      lt-ltb 0 (slice_index places (slice_index net.tails i)) (scanned.backward i below placed (omega arith) room);
}

-- over an edge that leaves a found node its head is reached
pub reaches_head : (net : Net) (flow places : List ℕ) (at edge room : ℕ) → IsNet net → at < net.nodes →
    0 < slice_index places at → edge < length net.tails →
    slice_index net.tails edge ≡ at → room ≡ bound net.limits edge - slice_index flow edge →
    Reaches net flow places at edge (slice_index net.heads edge) room
reaches_head net flow places at edge room is inside placed below tail room_is =
    let test : eqb (slice_index net.heads edge) (slice_index net.heads edge) ≡ true =
    eq-eqb (slice_index net.heads edge) (slice_index net.heads edge) refl in
    record {
      source_inside = inside;
      source_placed = placed;
      node_inside = is.heads_inside edge below;
      edge_inside = below;
      joins = λ ne. absurd (ne refl);
      end = cond-true (eqb (slice_index net.heads edge) (slice_index net.heads edge)) _ _ test ∙ tail;
      room_is = room_is ∙ sym (cond-true (eqb (slice_index net.heads edge) (slice_index net.heads edge)) _ _ test);
    }

-- over an edge that enters a found node its tail is reached, where the tail is not found yet
pub reaches_tail : (net : Net) (flow places : List ℕ) (at edge room : ℕ) → IsNet net → at < net.nodes →
    0 < slice_index places at → edge < length net.tails →
    slice_index net.heads edge ≡ at → room ≡ slice_index flow edge → slice_index places (slice_index net.tails edge) ≡
    0 →
    Reaches net flow places at edge (slice_index net.tails edge) room
reaches_tail net flow places at edge room is inside placed below head room_is none =
    let differs : slice_index net.heads edge ≢ slice_index net.tails edge = λ e.
    let p : slice_index places at ≡ 0 = ap (slice_index places) (sym head ∙ e) ∙ none in omega (arith, p, placed) in
    let test : eqb (slice_index net.heads edge) (slice_index net.tails edge) ≡ false =
    ne_eqb (slice_index net.heads edge) (slice_index net.tails edge) differs in
    record {
      source_inside = inside;
      source_placed = placed;
      node_inside = is.tails_inside edge below;
      edge_inside = below;
      joins = λ ne. refl;
      end = cond-false (eqb (slice_index net.heads edge) (slice_index net.tails edge)) _ _ test ∙ head;
      room_is = room_is ∙ sym (cond-false (eqb (slice_index net.heads edge) (slice_index net.tails edge)) _ _ test);
    }

-- one edge back along the chain of the edges that leave a node
pub left_next : (net : Net) (flow places : List ℕ) (count : ℕ) (later : List ℕ) (more at cursor : ℕ)
    (first next : List ℕ) (result node room : ℕ) →
    AreChains net.tails (length net.tails) net.nodes first next → HasLeft net flow places at cursor → 0 < cursor →
    cursor ≤ length net.tails →
    slice_index net.tails (cursor - 1) ≡ at → HasGrown places count later more → result ≡ slice_index next
    (cursor - 1) →
    node ≡ slice_index net.heads (cursor - 1) → room ≡ bound net.limits (cursor - 1) - slice_index flow (cursor - 1) →
    (0 < room → 0 < slice_index later node) →
    (HasLeft net flow later at result) × (result ≤ length net.tails) ×
    (0 < result → slice_index net.tails (result - 1) ≡ at)
left_next net flow places count later more at cursor first next result node room chains left some within here grown
    result_is node_is room_is found =
    let old : IsLast net.tails (cursor - 1) (slice_index net.tails (cursor - 1)) (slice_index next (cursor - 1)) =
    chains.goes_on (cursor - 1) (omega arith) in
    let last : IsLast net.tails (cursor - 1) at result =
    subst (λ c. IsLast net.tails (cursor - 1) at c) (sym result_is)
    (subst (λ v. IsLast net.tails (cursor - 1) v (slice_index next (cursor - 1))) here old) in
    let below : result ≤ cursor - 1 = last.within in (
      left_more net flow places count later more at cursor result left some grown last
          (λ (wide : 0 < bound net.limits (cursor - 1) - slice_index flow (cursor - 1)).
          subst (λ v. 0 < slice_index later v) node_is (found (omega (arith, wide, room_is)))),
      omega arith,
      last.here,
    )

pub entered_next : (net : Net) (flow places : List ℕ) (count : ℕ) (later : List ℕ) (more at cursor : ℕ)
    (first next : List ℕ) (result node : ℕ) →
    AreChains net.heads (length net.tails) net.nodes first next → HasEntered net flow places at cursor → 0 < cursor →
    cursor ≤ length net.tails →
    slice_index net.heads (cursor - 1) ≡ at → HasGrown places count later more → result ≡ slice_index next
    (cursor - 1) →
    node ≡ slice_index net.tails (cursor - 1) → (0 < slice_index flow (cursor - 1) → 0 < slice_index later node) →
    (HasEntered net flow later at result) × (result ≤ length net.tails) ×
    (0 < result → slice_index net.heads (result - 1) ≡ at)
entered_next net flow places count later more at cursor first next result node chains entered some within here grown
    result_is node_is found =
    let old : IsLast net.heads (cursor - 1) (slice_index net.heads (cursor - 1)) (slice_index next (cursor - 1)) =
    chains.goes_on (cursor - 1) (omega arith) in
    let last : IsLast net.heads (cursor - 1) at result =
    subst (λ c. IsLast net.heads (cursor - 1) at c) (sym result_is)
    (subst (λ v. IsLast net.heads (cursor - 1) v (slice_index next (cursor - 1))) here old) in
    let below : result ≤ cursor - 1 = last.within in (
      entered_more net flow places count later more at cursor result entered some grown last
          (λ (wide : 0 < slice_index flow (cursor - 1)). subst (λ v. 0 < slice_index later v) node_is (found wide)),
      omega arith,
      last.here,
    )
