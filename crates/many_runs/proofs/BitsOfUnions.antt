-- A union of masks has no fewer bits than each of them, and what passes a point in one of several runs passes it in all
-- of them together.
use Rattle.std.proofs.Common.{◌≡◌, ◌⊎◌, ℕ, zero, suc, ◌/◌, ◌%◌, ◌≤◌, ◌<◌, ◌==◌, ◌||◌, ◌∷◌, [], cond, not}
use Rattle.std.proofs.Common.{Bool, true, false, List, refl, ap, ◌∙◌, inl, inr, arith}
use Rattle.std.specs.Prelude.{bit_or}
use Rattle.std.specs.List.{sum_by}
use Rattle.std.proofs.lemmas.Bool.{or_cases, ne_eqb}
use Rattle.std.proofs.lemmas.List.Sums.{sum_by-append, sum_by-cons}
use Rattle.std.proofs.lemmas.Nat.{or_comm, or_mod, or_shr}
use Rattle.flow_base.specs.declared.points.Point.{Point}
use Rattle.flow_base.specs.PointOrders.{is_same}
use Rattle.flow_base.proofs.PointEquality.{points_alike}
use Rattle.flow_base.specs.Words.{bit_count, count_below}
use Rattle.flow_graph.specs.declared.events.Event.{Event}
use Rattle.flow_graph.specs.declared.events.Event.TheVariants.{Pass, Link, FromSecret, Implicit, Out}
use Rattle.flow_graph.specs.EventGraphs.{bits_at, has_passed, passed}
use Rattle.acceptance_law.specs.RunCuts.{mask_at_event, visit_masks}
use Rattle.many_runs.specs.Uniting.{united_masks, joined_masks}

-- ---- the bits of a union

parity : (n : ℕ) → (n % 2 ≡ 0) ⊎ (n % 2 ≡ 1)
parity n = elim (n % 2) as (λ r. n % 2 ≡ r → (n % 2 ≡ 0) ⊎ (n % 2 ≡ 1)) [
  | zero ↦ (λ e. inl e)
  | suc r ↦ (λ e. inr (omega (arith, e)))
] refl

one_or : (r : ℕ) → r < 2 → bit_or 1 r ≡ 1
one_or zero small = refl
one_or (suc zero) small = refl
one_or (suc (suc r)) small = absurd (omega arith)

odd_or : (a b : ℕ) → a % 2 ≡ 1 → bit_or a b % 2 ≡ 1
odd_or a b odd = or_mod a b 1 ∙ (ap (λ m. bit_or m (b % 2)) odd ∙ one_or (b % 2) (omega arith))

half_or : (a b : ℕ) → bit_or a b / 2 ≡ bit_or (a / 2) (b / 2)
half_or a b = or_shr a b 1

count_odd : (p m : ℕ) → m % 2 ≡ 1 → count_below (suc p) m ≡ suc (count_below p (m / 2))
unfolding count_below
count_odd p m e = rw e refl

count_even : (p m : ℕ) → m % 2 ≡ 0 → count_below (suc p) m ≡ count_below p (m / 2)
unfolding count_below
count_even p m e = rw e refl

count_none : (m : ℕ) → count_below zero m ≡ 0
unfolding count_below
count_none m = refl

count_half : (p m : ℕ) → count_below p (m / 2) ≤ count_below (suc p) m
count_half p m = elim (parity m) [
  | inl e ↦ omega (arith, count_even p m e)
  | inr e ↦ omega (arith, count_odd p m e)
]

count_or : (p a b : ℕ) → count_below p a ≤ count_below p (bit_or a b)
count_or zero a b = omega (arith, count_none a)
count_or (suc p) a b =
    let halves : count_below p (bit_or a b / 2) ≡ count_below p (bit_or (a / 2) (b / 2)) =
    ap (λ m. count_below p m) (half_or a b) in
    let inner = count_or p (a / 2) (b / 2) in
    elim (parity a) [
      | inl e ↦ omega (arith, count_even p a e, halves, inner, count_half p (bit_or a b))
      | inr e ↦ omega (arith, count_odd p a e, halves, inner, count_odd p (bit_or a b) (odd_or a b e))
    ]

or_first : (a b : ℕ) → bit_count a ≤ bit_count (bit_or a b)
or_first a b = count_or 32 a b

or_second : (a b : ℕ) → bit_count b ≤ bit_count (bit_or a b)
or_second a b =
    let turned : bit_count (bit_or b a) ≡ bit_count (bit_or a b) = ap (λ m. bit_count m) (or_comm b a) in
    let first = or_first b a in omega (arith, turned, first)

pub joined_first : (masks others : List ℕ) → sum_by bit_count masks ≤ sum_by bit_count (united_masks masks others)
unfolding united_masks
joined_first [] others = omega arith
joined_first (mask ∷ masks) [] = omega arith
joined_first (mask ∷ masks) (other ∷ others) =
    let here = or_first mask other in
    let rest = joined_first masks others in
    let one = sum_by-cons bit_count mask masks in
    let all = sum_by-cons bit_count (bit_or mask other) (united_masks masks others) in
    omega (arith, here, rest, one, all)

pub joined_second : (masks others : List ℕ) → sum_by bit_count others ≤ sum_by bit_count (united_masks masks others)
unfolding united_masks
joined_second [] others = omega arith
joined_second (mask ∷ masks) [] = omega arith
joined_second (mask ∷ masks) (other ∷ others) =
    let here = or_second mask other in
    let rest = joined_second masks others in
    let one = sum_by-cons bit_count other others in
    let all = sum_by-cons bit_count (bit_or mask other) (united_masks masks others) in
    omega (arith, here, rest, one, all)

-- ---- what passes a point

one_bits : (b : Bool) (mask : ℕ) → sum_by bit_count (cond b (mask ∷ []) []) ≡ cond b (bit_count mask) 0
one_bits true mask = let all = sum_by-cons bit_count mask [] in omega (arith, all)
one_bits false mask = omega arith

event_bits : (point : Point) (event : Event) → sum_by bit_count (mask_at_event point event) ≡ bits_at point event
event_bits point (Pass other mask) =
    one_bits (is_same point other) mask ∙ ap (λ b. cond b (bit_count mask) 0) (points_alike.symm point other)
event_bits point (Link source target) = omega arith
event_bits point (FromSecret other) = omega arith
event_bits point (Implicit other region) = omega arith
event_bits point (Out region other) = omega arith

pub visit_bits : (point : Point) (events : List Event) → sum_by bit_count (visit_masks point events) ≡ passed events point
unfolding visit_masks
visit_bits point [] = omega arith
visit_bits point (event ∷ events) =
    let parts = sum_by-append bit_count (mask_at_event point event) (visit_masks point events) in
    let one = event_bits point event in
    let rest = visit_bits point events in
    let all = sum_by-cons (bits_at point) event events in
    omega (arith, parts, one, rest, all)

some_not : (n : ℕ) → 0 < n → not (n == 0) ≡ true
some_not n some = ap not (ne_eqb n 0 (λ e. omega (arith, e, some)))

not_some : (n : ℕ) → not (n == 0) ≡ true → 0 < n
not_some zero known = absurd (cc)
not_some (suc n) known = omega arith

-- in some run a mask other than 0 has passed the point
unfoldable pub is_passed : Point → List (List Event) → Bool
is_passed point [] = false
is_passed point (events ∷ runs) = has_passed events point || is_passed point runs

-- what has passed a point in one of the runs has bits
pub joined_some : (point : Point) (runs : List (List Event)) → is_passed point runs ≡ true →
    0 < sum_by bit_count (joined_masks point runs)
unfolding is_passed joined_masks
joined_some point [] passed = absurd (cc)
joined_some point (events ∷ runs) any = elim (or_cases (has_passed events point) (is_passed point runs) any) [
  | inl here ↦
      let some : 0 < passed events point = not_some (passed events point) here in
      let bits = visit_bits point events in
      let more = joined_first (visit_masks point events) (joined_masks point runs) in
      omega (arith, some, bits, more)
  | inr later ↦
      let some = joined_some point runs later in
      let more = joined_second (visit_masks point events) (joined_masks point runs) in
      omega (arith, some, more)
]

-- and so have events with the masks of all runs there
pub has_united : (point : Point) (runs : List (List Event)) (events : List Event) → is_passed point runs ≡ true →
    visit_masks point events ≡ joined_masks point runs → has_passed events point ≡ true
has_united point runs events any masks =
    let some = joined_some point runs any in
    let bits = visit_bits point events in
    let same : sum_by bit_count (visit_masks point events) ≡ sum_by bit_count (joined_masks point runs) =
    ap (λ list. sum_by bit_count list) masks in
    some_not (passed events point) (omega (arith, some, bits, same))
