-- The cut of united events: its masks are those of all runs, and so no more bits cross than the capacity of its side.
use Rattle.std.proofs.Common.{◌≡◌, ℕ, zero, suc, ◌+◌, ◌≤◌, ◌<◌, ◌++◌, ◌∷◌, [], cond, not, Bool, true, false}
use Rattle.std.proofs.Common.{List, length, get_or, take, refl, sym, ap, ◌∙◌, subst, arith, inl, inr}
use Rattle.std.specs.Prelude.{if◌then◌else◌}
use Rattle.std.specs.List.{AllByRecursion, list_all, sum_by}
use Rattle.std.proofs.lemmas.Bool.{and_parts, cases_Bool, cond-true, cond-false, or_cases}
use Rattle.std.proofs.lemmas.List.Sums.{sum_by-append, sum_by-cons}
use Rattle.std.proofs.Math.Seq.{take-suc}
use Rattle.cut_file.specs.declared.points.CutPoint.{CutPoint}
use Rattle.cut_file.specs.Cuts.{CutPicture, has_slot}
use Rattle.flow_base.specs.declared.points.Point.{Point}
use Rattle.flow_base.specs.Points.{is_slot, width_of}
use Rattle.flow_base.specs.PointOrders.{is_same}
use Rattle.flow_base.specs.Words.{bit_count}
use Rattle.flow_base.proofs.PointEquality.{points_alike}
use Rattle.flow_base.proofs.PointOrders.{one_if_same}
use Rattle.flow_graph.specs.declared.events.Event.{Event}
use Rattle.flow_graph.specs.declared.events.Event.TheVariants.{Pass, Link, FromSecret, Implicit, Out}
use Rattle.flow_graph.specs.declared.graphs.Graph.{Graph}
use Rattle.flow_graph.specs.declared.nodes.Node.{Node}
use Rattle.flow_graph.specs.EventGraphs.{IsGraphOf, bits_at, passed}
use Rattle.flow_graph.proofs.MaskBitCounts.{bit_count_zero}
use Rattle.max_flow.specs.declared.answers.Half.{Half}
use Rattle.max_flow.specs.Flows.{IsSideOf, has_first, side_capacity}
use Rattle.replay_machine.specs.Runs.{Masks, mask_at, times_passed}
use Rattle.acceptance_law.specs.RunCuts.{mask_at_event, HasVisitMasks, IsCutOf, is_inner, names_point, visit_masks}
use Rattle.acceptance_law.specs.Sides.{NamedSide, halves_at, is_split, named_side}
use Rattle.acceptance_law.proofs.CutVisits.{IsLike, like_exact}
use Rattle.acceptance_law.proofs.GraphCapacities.{capacity_law}
use Rattle.acceptance_law.proofs.PastsOfEvents.{pasts}
use Rattle.many_runs.proofs.BitsOfUnions.{visit_bits}
use Rattle.many_runs.proofs.PastBits.{past_more, past_none, past_bits}
use Rattle.many_runs.proofs.RunPasts.{HaveSlots, times_pasts}

-- ---- the event of a visit

-- the event of the visit of a point that comes after so many
record Visit (events : List Event) (point : Point) (n : ℕ) : Type 0 where
  seen : List Event
  mask : ℕ
  rest : List Event
  are : events ≡ seen ++ (Pass point mask ∷ rest)
  count : length (visit_masks point seen) ≡ n
  at : get_or (visit_masks point events) n 0 ≡ mask

visit_later : (event : Event) (events : List Event) (point : Point) (n : ℕ) → mask_at_event point event ≡ [] →
    Visit events point n → Visit (event ∷ events) point n
unfolding visit_masks
visit_later event events point n none visit = record {
  seen = event ∷ visit.seen;
  mask = visit.mask;
  rest = visit.rest;
  are = ap (λ es. event ∷ es) visit.are;
  count = ap (λ masks. length (masks ++ visit_masks point visit.seen)) none ∙ visit.count;
  at = ap (λ masks. get_or (masks ++ visit_masks point events) n 0) none ∙ visit.at;
}

visit_behind : (event : Event) (events : List Event) (point : Point) (mask n : ℕ) →
    mask_at_event point event ≡ mask ∷ [] → Visit events point n → Visit (event ∷ events) point (suc n)
unfolding visit_masks
visit_behind event events point mask n one visit = record {
  seen = event ∷ visit.seen;
  mask = visit.mask;
  rest = visit.rest;
  are = ap (λ es. event ∷ es) visit.are;
  count = ap (λ masks. length (masks ++ visit_masks point visit.seen)) one ∙ ap suc visit.count;
  at = ap (λ masks. get_or (masks ++ visit_masks point events) (suc n) 0) one ∙ visit.at;
}

visit_here : (other : Point) (mask : ℕ) (events : List Event) (point : Point) → point ≡ other →
    mask_at_event point (Pass other mask) ≡ mask ∷ [] → Visit (Pass other mask ∷ events) point 0
unfolding visit_masks
visit_here other mask events point same one = record {
  seen = [];
  mask = mask;
  rest = events;
  are = ap (λ p. Pass p mask ∷ events) (sym same);
  count = refl;
  at = ap (λ masks. get_or (masks ++ visit_masks point events) 0 0) one;
}

visit_in : (events : List Event) (point : Point) (n : ℕ) → n < length (visit_masks point events) → Visit events point n
unfolding visit_masks
visit_in [] point n below = absurd (omega arith)
visit_in (Pass other mask ∷ events) point n below =
    pick (visit_in events point) (is_same point other) refl n below
  where
    pick : ((k : ℕ) → k < length (visit_masks point events) → Visit events point k) → (b : Bool) →
        is_same point other ≡ b → (n : ℕ) →
        n < length (mask_at_event point (Pass other mask) ++ visit_masks point events) →
        Visit (Pass other mask ∷ events) point n
    pick inner true same zero below =
        visit_here other mask events point (one_if_same point other same) (ap (λ b. cond b (mask ∷ []) []) same)
    pick inner true same (suc n) below =
        visit_behind (Pass other mask) events point mask n (ap (λ b. cond b (mask ∷ []) []) same)
        (inner n
        (let all : length (mask_at_event point (Pass other mask) ++ visit_masks point events)
        ≡ suc (length (visit_masks point events)) =
        ap (λ b. length (cond b (mask ∷ []) [] ++ visit_masks point events)) same in omega (arith, below, all)))
    pick inner false other_point n below =
        visit_later (Pass other mask) events point n (ap (λ b. cond b (mask ∷ []) []) other_point)
        (inner n
        (let all : length (mask_at_event point (Pass other mask) ++ visit_masks point events)
        ≡ length (visit_masks point events) =
        ap (λ b. length (cond b (mask ∷ []) [] ++ visit_masks point events)) other_point in omega (arith, below, all)))
visit_in (Link source target ∷ events) point n below =
    visit_later (Link source target) events point n refl (visit_in events point n below)
visit_in (FromSecret other ∷ events) point n below =
    visit_later (FromSecret other) events point n refl (visit_in events point n below)
visit_in (Implicit other region ∷ events) point n below =
    visit_later (Implicit other region) events point n refl (visit_in events point n below)
visit_in (Out region other ∷ events) point n below =
    visit_later (Out region other) events point n refl (visit_in events point n below)

-- ---- what a cut has of united events

-- the cut of these events and a side of their graph, with masks that are the cut's wherever it lists them; the masks of
-- the events are within the widths of their slots
pub record Cuts (events : List Event) (graph : Graph) (halves : List Half) (relays : List Bool)
    (secret_len capacity : ℕ) (cut : CutPicture) (masks : Masks) : Type 0 where
  pub graph_of : IsGraphOf events graph
  pub side_of : IsSideOf graph halves relays
  pub cut_of : IsCutOf secret_len events (named_side graph halves relays) capacity cut
  pub slots : list_all has_slot cut.points ≡ true
  pub like : IsLike cut.points masks
  pub fits : (point : Point) (n : ℕ) → n < length (visit_masks point events) →
      get_or (visit_masks point events) n 0 ≤ width_of point.slot

pub named_slot : (points : List CutPoint) (point : Point) → list_all has_slot points ≡ true →
    names_point points point ≡ true → is_slot point.slot ≡ true
named_slot [] point slots named = absurd (cc)
named_slot (first ∷ points) point slots named =
    let both = and_parts (has_slot first) (list_all has_slot points) slots in
    elim (or_cases (is_same first.point point) (names_point points point) named) [
      | inl same ↦ ap (λ (p : Point). is_slot p.slot) (sym (one_if_same first.point point same)) ∙ both.0
      | inr later ↦ named_slot points point both.1 later
    ]

module _ (events : List Event) (graph : Graph) (halves : List Half) (relays : List Bool) (secret_len capacity : ℕ)
    (cut : CutPicture) (masks : Masks) (cuts : Cuts events graph halves relays secret_len capacity cut masks) where
  abbrev side : NamedSide
  side = named_side graph halves relays

  -- at each visit the cut has the mask of the events
  pub exact-at : (point : Point) (n : ℕ) → names_point cut.points point ≡ true →
      n < length (visit_masks point events) → masks point (suc n) ≡ get_or (visit_masks point events) n 0
  exact-at point n named below =
      let visit = visit_in events point n below in
      let passings : times_passed point (pasts visit.seen []) ≡ length (visit_masks point visit.seen) =
      (let all : times_passed point (pasts visit.seen []) ≡ 0 + length (visit_masks point visit.seen) =
      times_pasts point visit.seen [] in omega (arith, all)) in
      let times : times_passed point (pasts visit.seen []) ≡ n = passings ∙ visit.count in
      let fits : visit.mask ≤ width_of point.slot =
      (let most = cuts.fits point n below in let at = visit.at in omega (arith, most, at)) in
      ap (λ k. masks point (suc k)) (sym times)
      ∙ (like_exact cut.points masks cuts.like visit.seen visit.rest (pasts visit.seen []) point visit.mask
      (subst (λ es. AllByRecursion (HasVisitMasks es) cut.points) visit.are cuts.cut_of.masks) cuts.slots
      (fits, named_slot cut.points point cuts.slots named) passings named
      ∙ sym visit.at)

  -- ---- the passings of a run as events

  past_events : List Point → List Event
  past_events [] = []
  past_events (point ∷ past) = Pass point (mask_at masks past point) ∷ past_events past

  -- the masks at so many visits of a point
  upto : Point → ℕ → List ℕ
  upto point zero = []
  upto point (suc n) = masks point (suc n) ∷ upto point n

  passed-upto : (q : Point) (past : List Point) →
      passed (past_events past) q ≡ sum_by bit_count (upto q (times_passed q past))
  unfolding past_events upto
  passed-upto q [] = omega arith
  passed-upto q (point ∷ past) =
      let all = sum_by-cons (bits_at q) (Pass point (mask_at masks past point)) (past_events past) in
      all ∙ pick (passed-upto q past) (is_same q point) refl
    where
      pick : passed (past_events past) q ≡ sum_by bit_count (upto q (times_passed q past)) → (b : Bool) →
          is_same q point ≡ b →
          cond (is_same point q) (bit_count (mask_at masks past point)) 0 + passed (past_events past) q
          ≡ sum_by bit_count (upto q (if b then suc (times_passed q past) else times_passed q past))
      pick rest true same =
          let one : point ≡ q = sym (one_if_same q point same) in
          let here : cond (is_same point q) (bit_count (mask_at masks past point)) 0
          ≡ bit_count (mask_at masks past point) =
          cond-true (is_same point q) (bit_count (mask_at masks past point)) 0 (points_alike.symm point q ∙ same) in
          let mask : bit_count (mask_at masks past point) ≡ bit_count (mask_at masks past q) =
          ap (λ p. bit_count (mask_at masks past p)) one in
          let more = sum_by-cons bit_count (masks q (suc (times_passed q past))) (upto q (times_passed q past)) in
          omega (arith, here, mask, rest, more)
      pick rest false other =
          let none : cond (is_same point q) (bit_count (mask_at masks past point)) 0 ≡ 0 =
          cond-false (is_same point q) (bit_count (mask_at masks past point)) 0 (points_alike.symm point q ∙ other) in
          omega (arith, none, rest)

  upto-taken : (q : Point) (list : List ℕ) (n : ℕ) → n ≤ length list →
      ((k : ℕ) → k < n → masks q (suc k) ≡ get_or list k 0) →
      sum_by bit_count (upto q n) ≡ sum_by bit_count (take n list)
  unfolding upto
  upto-taken q list zero few same = refl
  upto-taken q list (suc n) few same =
      let rest = upto-taken q list n (omega (arith, few)) (λ k below. same k (omega (arith, below))) in
      let here : bit_count (masks q (suc n)) ≡ bit_count (get_or list n 0) =
      ap (λ m. bit_count m) (same n (omega arith)) in
      let more = sum_by-cons bit_count (masks q (suc n)) (upto q n) in
      let taken : sum_by bit_count (take (suc n) list)
      ≡ sum_by bit_count (take n list ++ get_or list n 0 ∷ []) =
      ap (λ l. sum_by bit_count l) (take-suc list n 0 (omega (arith, few))) in
      let parts = sum_by-append bit_count (take n list) (get_or list n 0 ∷ []) in
      let one = sum_by-cons bit_count (get_or list n 0) [] in
      omega (arith, rest, here, more, taken, parts, one)

  take-few : (n : ℕ) (list : List ℕ) → sum_by bit_count (take n list) ≤ sum_by bit_count list
  take-few zero list = omega arith
  take-few (suc n) [] = omega arith
  take-few (suc n) (m ∷ list) =
      let rest = take-few n list in
      let one = sum_by-cons bit_count m (take n list) in
      let all = sum_by-cons bit_count m list in omega (arith, rest, one, all)

  -- no more bits pass a point of the cut than in the events
  named-few : (q : Point) (past : List Point) → names_point cut.points q ≡ true →
      times_passed q past ≤ length (visit_masks q events) → passed (past_events past) q ≤ passed events q
  named-few q past named few =
      let upto_bits = passed-upto q past in
      let taken = upto-taken q (visit_masks q events) (times_passed q past) few
      (λ k below. exact-at q k named (omega (arith, few, below))) in
      let most = take-few (times_passed q past) (visit_masks q events) in
      let all = visit_bits q events in
      omega (arith, upto_bits, taken, most, all)

  -- and none pass another point
  unnamed-none : (q : Point) (past : List Point) → names_point cut.points q ≡ false → HaveSlots past →
      passed (past_events past) q ≡ 0
  unfolding past_events
  unnamed-none q [] none slots = omega arith
  unnamed-none q (point ∷ past) none slots =
      let all = sum_by-cons (bits_at q) (Pass point (mask_at masks past point)) (past_events past) in
      let rest = unnamed-none q past none slots.1 in
      let here = pick (is_same point q) refl in omega (arith, all, rest, here)
    where
      pick : (b : Bool) → is_same point q ≡ b → cond b (bit_count (mask_at masks past point)) 0 ≡ 0
      pick true same =
          ap (λ m. bit_count m) (cuts.like.missing point (suc (times_passed point past)) slots.0
          (ap (λ p. names_point cut.points p) (one_if_same point q same) ∙ none))
          ∙ bit_count_zero
      pick false other = refl

  -- ---- their bits at the points of the graph

  abbrev share : List Event → Node → ℕ
  share list node = cond (is_split side node.point) (passed list node.point) 0

  abbrev share_of : Event → Node → ℕ
  share_of event node = cond (is_split side node.point) (bits_at node.point event) 0

  sum-two : (f g h : Node → ℕ) → ((node : Node) → f node ≡ g node + h node) → (nodes : List Node) →
      sum_by f nodes ≡ sum_by g nodes + sum_by h nodes
  sum-two f g h both [] = omega arith
  sum-two f g h both (node ∷ nodes) =
      let here = both node in
      let rest = sum-two f g h both nodes in
      let one = sum_by-cons f node nodes in
      let two = sum_by-cons g node nodes in
      let three = sum_by-cons h node nodes in
      omega (arith, here, rest, one, two, three)

  share-more : (event : Event) (list : List Event) (node : Node) →
      share (event ∷ list) node ≡ share_of event node + share list node
  share-more event list node =
      both (is_split side node.point) (bits_at node.point event) (passed list node.point) (passed (event ∷ list) node.point)
      (sum_by-cons (bits_at node.point) event list)
    where
      both : (b : Bool) (m n k : ℕ) → k ≡ m + n → cond b k 0 ≡ cond b m 0 + cond b n 0
      both true m n k e = e
      both false m n k e = omega arith

  -- a point that the side splits is one of the graph's
  found : (nodes : List Node) (list : List Half) (point : Point) (mask : ℕ) →
      has_first (halves_at nodes list point) ≡ true → is_split side point ≡ true →
      bit_count mask ≤ sum_by (share_of (Pass point mask)) nodes
  found [] list point mask inside split = absurd (cc)
  found (node ∷ nodes) [] point mask inside split = absurd (cc)
  found (node ∷ nodes) (half ∷ list) point mask inside split =
      let all = sum_by-cons (share_of (Pass point mask)) node nodes in
      elim (cases_Bool (is_same point node.point)) [
        | inl same ↦
            let there : is_split side node.point ≡ true =
            ap (λ p. is_split side p) (sym (one_if_same point node.point same)) ∙ split in
            let here : share_of (Pass point mask) node ≡ bit_count mask =
            cond-true (is_split side node.point) (cond (is_same point node.point) (bit_count mask) 0) 0 there
            ∙ cond-true (is_same point node.point) (bit_count mask) 0 same in
            omega (arith, all, here)
        | inr other ↦
            let rest = found nodes list point mask
            (ap has_first (sym (cond-false (is_same point node.point) half (halves_at nodes list point) other)) ∙ inside)
            split in omega (arith, all, rest)
      ]

  -- the bits at the passings are shared among the points of the graph
  bits-shared : (past : List Point) → HaveSlots past →
      past_bits masks past ≤ sum_by (share (past_events past)) graph.points
  unfolding past_events
  bits-shared [] slots = omega (arith, past_none masks)
  bits-shared (point ∷ past) slots =
      let more = past_more masks point past in
      let rest = bits-shared past slots.1 in
      let parts = sum-two (share (past_events (point ∷ past))) (share_of (Pass point (mask_at masks past point)))
      (share (past_events past)) (share-more (Pass point (mask_at masks past point)) (past_events past)) graph.points in
      let here : bit_count (mask_at masks past point)
      ≤ sum_by (share_of (Pass point (mask_at masks past point))) graph.points =
      elim (cases_Bool (names_point cut.points point)) [
        | inl named ↦
            let both = and_parts (is_split side point) (not (is_inner cut.skip point))
            (sym (cuts.cut_of.points point) ∙ named) in
            let first = and_parts (has_first (halves_at graph.points halves point)) _ both.0 in
            found graph.points halves point (mask_at masks past point) first.0 both.0
        | inr other ↦
            let none : bit_count (mask_at masks past point) ≡ 0 =
            ap (λ m. bit_count m) (cuts.like.missing point (suc (times_passed point past)) slots.0 other)
            ∙ bit_count_zero in
            omega (arith, none)
      ] in
      omega (arith, more, rest, parts, here)

  sum-fewer : (f g : Node → ℕ) → ((node : Node) → f node ≤ g node) → (nodes : List Node) →
      sum_by f nodes ≤ sum_by g nodes
  sum-fewer f g fewer [] = omega arith
  sum-fewer f g fewer (node ∷ nodes) =
      let here = fewer node in
      let rest = sum-fewer f g fewer nodes in
      let one = sum_by-cons f node nodes in
      let two = sum_by-cons g node nodes in omega (arith, here, rest, one, two)

  -- so they are at most the capacity of the side
  pub bits-within : (past : List Point) → HaveSlots past →
      ((point : Point) → names_point cut.points point ≡ true →
      times_passed point past ≤ length (visit_masks point events)) →
      past_bits masks past ≤ side_capacity graph halves relays
  bits-within past slots few =
      let shared = bits-shared past slots in
      let fewer = sum-fewer (share (past_events past)) (share events)
      (λ node. cond-fewer (is_split side node.point) (passed (past_events past) node.point) (passed events node.point)
      (elim (cases_Bool (names_point cut.points node.point)) [
        | inl named ↦ named-few node.point past named (few node.point named)
        | inr other ↦ let none = unnamed-none node.point past other slots in omega (arith, none)
      ])) graph.points in
      let capacity = capacity_law events graph halves relays cuts.graph_of cuts.side_of in
      omega (arith, shared, fewer, capacity)
    where
      cond-fewer : (b : Bool) (m n : ℕ) → m ≤ n → cond b m 0 ≤ cond b n 0
      cond-fewer true m n most = most
      cond-fewer false m n most = omega arith
