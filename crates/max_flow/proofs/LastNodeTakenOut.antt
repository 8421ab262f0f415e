-- The last node of a walk is taken out again.
use Rattle.std.proofs.Common.{◌≡◌, ◌≢◌, ℕ, ◌+◌, ◌-◌, ◌≤◌, ◌<◌, ◌∷◌, [], cond, eqb, List, length}
use Rattle.std.proofs.Common.{set, take, slice_index, get_or, sym, ap, ◌∙◌, subst, ⊎_elim, arith}
use Rattle.std.proofs.lemmas.Bool.{cases_eq, cases_lt, eq-eqb, ne_eqb, cond-true, cond-false}
use Rattle.std.proofs.lemmas.List.{length-set, get_or-set_same, get_or-set_other, length-take, get_or-take, get_or_past}
use Rattle.max_flow.specs.Private.Networks.{Net, sum_below}
use Rattle.max_flow.specs.Private.Rooms.{other_end}
use Rattle.max_flow.specs.Private.Chains.{IsLast, AreChains}
use Rattle.max_flow.specs.Private.Searching.{IsFound, IsStart, unfound}
use Rattle.max_flow.specs.Private.Deepening.{IsStack, AreCursors}
use Rattle.max_flow.proofs.Sums.{sum_changed}

pub stack_of : (net : Net) (flow places arrivals rooms queue : List ℕ) → IsFound net flow places arrivals rooms queue →
    slice_index places 0 ≡ 1 → IsStack net.nodes places arrivals rooms queue
stack_of net flow places arrivals rooms queue found root = record {
  places_count = found.places_count;
  arrivals_count = found.arrivals_count;
  rooms_count = found.rooms_count;
  others = found.others;
  root = root;
  within = found.within;
  queued = found.queued;
  inside = found.inside;
  placed = found.placed;
  wide = found.wide;
}

unfound_less : (places : List ℕ) (nodes node : ℕ) → length places ≡ nodes → node < nodes → 0 < slice_index places node →
    unfound (set places node 0) nodes ≡ unfound places nodes + 1
unfolding unfound
unfound_less places nodes node count below placed =
    let here : slice_index (set places node 0) node ≡ 0 = get_or-set_same places node 0 0
    (omega (arith, count, below)) in
    let later : ◌≡◌ {A = ℕ} (cond (eqb (slice_index (set places node 0) node) 0) 1 0) 1 =
    cond-true (eqb (slice_index (set places node 0) node) 0) 1 0 (eq-eqb (slice_index (set places node 0) node) 0
    here) in
    let before : ◌≡◌ {A = ℕ} (cond (eqb (slice_index places node) 0) 1 0) 0 =
    cond-false (eqb (slice_index places node) 0) 1 0
    (ne_eqb (slice_index places node) 0 (λ e. omega (arith, e, placed))) in
    let changed : sum_below nodes (λ v. cond (eqb (slice_index (set places node 0) v) 0) 1 0) + cond
    (eqb (slice_index places node) 0) 1 0
    ≡ sum_below nodes (λ v. cond (eqb (slice_index places v) 0) 1 0) + cond
    (eqb (slice_index (set places node 0) node) 0) 1 0 =
    sum_changed nodes (λ v. cond (eqb (slice_index (set places node 0) v) 0) 1 0)
    (λ v. cond (eqb (slice_index places v) 0) 1 0) node below
    (λ v under ne. ap (λ p. cond (eqb p 0) 1 0) (get_or-set_other places node v 0 0 ne)) in
    omega (arith, later, before, changed)

-- the last node, which is not the only one
pub record IsTop (places queue : List ℕ) (node : ℕ) : Type 0 where
  pub more : 1 < length queue
  pub last : slice_index queue (length queue - 1) ≡ node

top_place : (nodes : ℕ) (places arrivals rooms queue : List ℕ) (node : ℕ) → IsStack nodes places arrivals rooms
    queue → IsTop places queue node →
    slice_index places node ≡ length queue
top_place nodes places arrivals rooms queue node stack top =
    let more : 1 < length queue = top.more in
    ap (slice_index places) (sym top.last) ∙ (stack.placed (length queue - 1) (omega arith) ∙ omega arith)

top_inside : (nodes : ℕ) (places arrivals rooms queue : List ℕ) (node : ℕ) → IsStack nodes places arrivals rooms
    queue → IsTop places queue node → node < nodes
top_inside nodes places arrivals rooms queue node stack top =
    let more : 1 < length queue = top.more in
    subst (λ v. v < nodes) top.last (stack.inside (length queue - 1) (omega arith))

-- each other node comes before it
others_before : (nodes : ℕ) (places arrivals rooms queue : List ℕ) (node v : ℕ) → IsStack nodes places arrivals rooms
    queue → IsTop places queue node →
    v < nodes → v ≢ node → slice_index places v ≤ length queue - 1
others_before nodes places arrivals rooms queue node v stack top below ne =
    let more : 1 < length queue = top.more in
    let within : slice_index places v ≤ length queue = stack.within v below in
    ⊎_elim
    (λ (e : slice_index places v ≡ length queue).
    absurd (ne (sym (stack.queued v below (omega arith)) ∙ (ap (λ p. slice_index queue (p - 1)) e ∙ top.last))))
    (λ (differs : slice_index places v ≢ length queue). omega arith)
    (cases_eq (slice_index places v) (length queue))

pub top_more : (nodes : ℕ) (places arrivals rooms queue : List ℕ) (at : ℕ) → 0 < nodes →
    IsStack nodes places arrivals rooms queue → slice_index queue (length queue - 1) ≡ at → 0 < at → 1 < length queue
top_more nodes places arrivals rooms queue at some stack last not_source =
    let root : slice_index places 0 ≡ 1 = stack.root in
    let within : slice_index places 0 ≤ length queue = stack.within 0 some in
    ⊎_elim
    (λ (e : length queue ≡ 1).
    let first : slice_index queue 0 ≡ 0 = ap (λ p. slice_index queue (p - 1)) (sym root) ∙ stack.queued 0 some
    (omega arith) in
    let same : at ≡ 0 = sym last ∙ (ap (λ n. slice_index queue (n - 1)) e ∙ first) in absurd (omega arith))
    (λ (ne : length queue ≢ 1). omega arith)
    (cases_eq (length queue) 1)

pub stack_less : (nodes : ℕ) (places arrivals rooms queue : List ℕ) (node : ℕ) → IsStack nodes places arrivals rooms
    queue → IsTop places queue node →
    IsStack nodes (set places node 0) arrivals rooms (take (length queue - 1) queue)
stack_less nodes places arrivals rooms queue node stack top =
    let more : 1 < length queue = top.more in
    let inside : node < nodes = top_inside nodes places arrivals rooms queue node stack top in
    let place : slice_index places node ≡ length queue = top_place nodes places arrivals rooms queue node stack top in
    let shorter : length (take (length queue - 1) queue) ≡ length queue - 1 = length-take (length queue - 1) queue ∙
    omega arith in
    let there : (v : ℕ) → v ≢ node → slice_index (set places node 0) v ≡ slice_index places v =
    λ v ne. get_or-set_other places node v 0 0 ne in
    let here : slice_index (set places node 0) node ≡ 0 =
    get_or-set_same places node 0 0 (let count : length places ≡ nodes = stack.places_count in omega arith) in
    let zero_here : (v : ℕ) → v ≡ node → slice_index (set places node 0) v ≡ 0 =
    λ v e. ap (slice_index (set places node 0)) e ∙ here in
    let root : slice_index places 0 ≡ 1 = stack.root in
    record {
      places_count = length-set places node 0 ∙ stack.places_count;
      arrivals_count = stack.arrivals_count;
      rooms_count = stack.rooms_count;
      others =
          let fewer : unfound (set places node 0) nodes ≡ unfound places nodes + 1 =
          unfound_less places nodes node stack.places_count inside (omega arith) in
          let all : length queue + unfound places nodes ≡ nodes = stack.others in
          omega (arith, shorter, fewer, all, more);
      root = there 0 (λ e. let p : slice_index places 0 ≡ slice_index places node = ap (slice_index places) e in omega
          (arith, p, root, place, more)) ∙ root;
      within = λ v below.
          ⊎_elim
          (λ (e : v ≡ node). let z = zero_here v e in omega (arith, z))
          (λ (ne : v ≢ node).
          let t = there v ne in
          let b = others_before nodes places arrivals rooms queue node v stack top below ne in omega
          (arith, t, b, shorter))
          (cases_eq v node);
      queued = λ v below placed.
          ⊎_elim
          (λ (e : v ≡ node). let z = zero_here v e in absurd (omega (arith, z, placed)))
          (λ (ne : v ≢ node).
          let t : slice_index (set places node 0) v ≡ slice_index places v = there v ne in
          let b = others_before nodes places arrivals rooms queue node v stack top below ne in
          let some : 0 < slice_index places v = omega (arith, t, placed) in
          ap (λ p. slice_index (take (length queue - 1) queue) (p - 1)) t
          ∙ (get_or-take (length queue - 1) queue (slice_index places v - 1) 0 (omega (arith, b, some)) ∙
          stack.queued v below some))
          (cases_eq v node);
      inside = λ q below.
          let same : slice_index (take (length queue - 1) queue) q ≡ slice_index queue q =
          get_or-take (length queue - 1) queue q 0 (omega (arith, shorter, below)) in
          let i : slice_index queue q < nodes = stack.inside q (omega (arith, shorter, below)) in
          omega (arith, same, i);
      placed = λ q below.
          let same : slice_index (take (length queue - 1) queue) q ≡ slice_index queue q =
          get_or-take (length queue - 1) queue q 0 (omega (arith, shorter, below)) in
          let old : slice_index places (slice_index queue q) ≡ q + 1 = stack.placed q (omega (arith, shorter, below)) in
          let ne : slice_index queue q ≢ node = λ e. let p : slice_index places (slice_index queue q) ≡ slice_index
          places node = ap (slice_index places) e in omega (arith, p, old, place, shorter, below) in
          ap (slice_index (set places node 0)) same ∙ (there (slice_index queue q) ne ∙ old);
      wide = λ v below placed.
          ⊎_elim
          (λ (e : v ≡ node). let z = zero_here v e in absurd (omega (arith, z, placed)))
          (λ (ne : v ≢ node). let t = there v ne in stack.wide v below (omega (arith, t, placed)))
          (cases_eq v node);
    }

pub found_less : (net : Net) (flow places arrivals rooms queue : List ℕ) (node : ℕ) → IsFound net flow places arrivals
    rooms queue →
    slice_index places 0 ≡ 1 → IsTop places queue node → IsFound net flow (set places node 0) arrivals rooms
    (take (length queue - 1) queue)
found_less net flow places arrivals rooms queue node found root top =
    let stack = stack_of net flow places arrivals rooms queue found root in
    let less = stack_less net.nodes places arrivals rooms queue node stack top in
    let place : slice_index places node ≡ length queue = top_place net.nodes places arrivals rooms queue node stack
    top in
    let there : (v : ℕ) → v ≢ node → slice_index (set places node 0) v ≡ slice_index places v =
    λ v ne. get_or-set_other places node v 0 0 ne in
    let here : slice_index (set places node 0) node ≡ 0 =
    get_or-set_same places node 0 0 (let count : length places ≡ net.nodes = found.places_count in let i =
    top_inside net.nodes places arrivals rooms queue node stack top in omega (arith, count, i)) in
    let differs : (v : ℕ) → 0 < slice_index (set places node 0) v → v ≢ node = λ v placed e.
    let z : slice_index (set places node 0) v ≡ 0 = ap (slice_index (set places node 0)) e ∙
    here in omega (arith, z, placed) in
    let old_placed : (v : ℕ) → 0 < slice_index (set places node 0) v → 0 < slice_index places v = λ v placed.
    let t = there v (differs v placed) in omega (arith, t, placed) in
    record {
      places_count = less.places_count;
      arrivals_count = less.arrivals_count;
      rooms_count = less.rooms_count;
      others = less.others;
      source = let r : slice_index (set places node 0) 0 ≡ 1 = less.root in omega arith;
      walks = record {
        arrives = λ v below not_source placed within.
            let old = found.walks.arrives v below not_source (old_placed v placed) (found.within v below) in
            let at : slice_index (set places node 0) v ≡ slice_index places v = there v (differs v placed) in
            let end_placed : 0 < slice_index places (other_end net (slice_index arrivals v) v) = old.placed in
            let earlier : slice_index places (other_end net (slice_index arrivals v) v) < slice_index places v =
            old.earlier in
            let w : slice_index places v ≤ length queue = found.within v below in
            let end_ne : other_end net (slice_index arrivals v) v ≢ node = λ e.
            let p : slice_index places (other_end net (slice_index arrivals v) v) ≡ slice_index places node =
            ap (slice_index places) e in
            omega (arith, p, place, earlier, w) in
            let end : slice_index (set places node 0) (other_end net (slice_index arrivals v) v) ≡ slice_index places
            (other_end net (slice_index arrivals v) v) =
            there (other_end net (slice_index arrivals v) v) end_ne in
            record {
              edge = old.edge;
              joins = old.joins;
              placed = omega (arith, end, end_placed);
              earlier = omega (arith, end, at, earlier);
              narrower = old.narrower;
              room = old.room;
              some = old.some;
            };
      };
      within = less.within;
      queued = less.queued;
      inside = less.inside;
      placed = less.placed;
      wide = less.wide;
      least = λ s source_in shut v below placed. found.least s source_in shut v below (old_placed v placed);
    }

one_item : (xs : List ℕ) (x : ℕ) → length xs ≡ 1 → get_or xs 0 0 ≡ x → xs ≡ x ∷ []
one_item [] x count first = absurd (omega arith)
one_item (y ∷ []) x count first = ap (λ z. z ∷ []) first
one_item (y ∷ (z ∷ zs)) x count first = absurd (omega arith)

-- where one node is left it is the source
pub start_left : (nodes : ℕ) (places arrivals rooms queue : List ℕ) → 0 < nodes → IsStack nodes places arrivals rooms
    queue → length queue ≡ 1 →
    IsStart nodes places arrivals rooms queue
start_left nodes places arrivals rooms queue some stack one =
    let root : slice_index places 0 ≡ 1 = stack.root in
    let first : slice_index queue 0 ≡ 0 = ap (λ p. slice_index queue (p - 1)) (sym root) ∙ stack.queued 0 some
    (omega arith) in
    let count : length places ≡ nodes = stack.places_count in
    record {
      places_count = stack.places_count;
      arrivals_count = stack.arrivals_count;
      rooms_count = stack.rooms_count;
      queued = one_item queue 0 one first;
      source = root;
      others = λ v ne.
          ⊎_elim
          (λ (below : v < nodes).
          let within : slice_index places v ≤ length queue = stack.within v below in
          ⊎_elim
          (λ (e : slice_index places v ≡ 1).
          absurd (ne (sym (stack.queued v below (omega arith)) ∙ (ap (λ p. slice_index queue (p - 1)) e ∙
          first))))
          (λ (n : slice_index places v ≢ 1). let z : slice_index places v ≡ 0 = omega arith in z)
          (cases_eq (slice_index places v) 1))
          (λ (past : nodes ≤ v). get_or_past places v 0 (omega arith))
          (cases_lt v nodes);
      wide = stack.wide 0 some (omega arith);
    }

-- ---- edges that are still to be tried

pub cursors_first : (keys : List ℕ) (nodes : ℕ) (first next : List ℕ) → AreChains keys (length keys) nodes first
    next → AreCursors keys nodes first
cursors_first keys nodes first next chains = record {
  count = chains.firsts;
  within = λ v below. (chains.starts v below).within;
  here = λ v below. (chains.starts v below).here;
}

pub cursors_on : (keys : List ℕ) (nodes : ℕ) (first next cursors : List ℕ) (at before : ℕ) → AreChains keys
    (length keys) nodes first next → AreCursors keys nodes cursors →
    at < nodes → 0 < slice_index cursors at → before ≡ slice_index next (slice_index cursors at - 1) → AreCursors keys
    nodes (set cursors at before)
cursors_on keys nodes first next cursors at before chains old below some is =
    let count : length cursors ≡ nodes = old.count in
    let within : slice_index cursors at ≤ length keys = old.within at below in
    let key : slice_index keys (slice_index cursors at - 1) ≡ at = old.here at below some in
    let last : IsLast keys (slice_index cursors at - 1) (slice_index keys (slice_index cursors at - 1))
    (slice_index next (slice_index cursors at - 1)) =
    chains.goes_on (slice_index cursors at - 1) (omega arith) in
    let mine : IsLast keys (slice_index cursors at - 1) at before =
    subst (IsLast keys (slice_index cursors at - 1) at) (sym is)
    (subst (λ v. IsLast keys (slice_index cursors at - 1) v (slice_index next (slice_index cursors at - 1))) key
    last) in
    let here : slice_index (set cursors at before) at ≡ before = get_or-set_same cursors at before 0 (omega arith) in
    let less : before ≤ slice_index cursors at - 1 = mine.within in
    record {
      count = length-set cursors at before ∙ old.count;
      within = λ v inside.
          ⊎_elim
          (λ (e : v ≡ at). let h : slice_index (set cursors at before) v ≡ before =
          ap (slice_index (set cursors at before)) e ∙ here in omega (arith, h, less, within))
          (λ (ne : v ≢ at). let t = get_or-set_other cursors at v before 0 ne in let w = old.within v inside in omega
          (arith, t, w))
          (cases_eq v at);
      here = λ v inside placed.
          ⊎_elim
          (λ (e : v ≡ at).
          let h : slice_index (set cursors at before) v ≡ before = ap (slice_index (set cursors at before)) e ∙
          here in
          ap (λ c. slice_index keys (c - 1)) h ∙ (mine.here (omega (arith, h, placed)) ∙ sym e))
          (λ (ne : v ≢ at).
          let t : slice_index (set cursors at before) v ≡ slice_index cursors v = get_or-set_other cursors at v
          before 0 ne in
          ap (λ c. slice_index keys (c - 1)) t ∙ old.here v inside (omega (arith, t, placed)))
          (cases_eq v at);
    }
