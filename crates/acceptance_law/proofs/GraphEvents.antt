-- Events that name only points that have passed a mask other than 0 are passed over nowhere: a side that no link of
-- their graph leaves is closed for each of them.
use Rattle.std.proofs.Common.{◌≡◌, ℕ, zero, suc, ◌+◌, ◌<◌, ◌^◌, ◌==◌, ◌&&◌, ◌++◌, ◌∷◌, [], not, Bool, true, false}
use Rattle.std.proofs.Common.{List, refl, sym, ap, subst, arith, append_assoc}
use Rattle.std.specs.List.{AllByRecursion}
use Rattle.std.specs.Ordering.{is_eq, ordering_reverse}
use Rattle.std.specs.declared.cmp.Ordering.{Ordering}
use Rattle.std.specs.declared.cmp.Ordering.TheVariants.{Less, Equal, Greater}
use Rattle.std.proofs.lemmas.Bool.{and_from, cond-true, ne_eqb}
use Rattle.std.proofs.lemmas.List.Sums.{sum_by-append}
use Rattle.flow_base.specs.declared.points.Point.{Point}
use Rattle.flow_base.specs.Words.{bit_count}
use Rattle.flow_graph.specs.declared.events.Event.{Event}
use Rattle.flow_graph.specs.declared.events.Event.TheVariants.{Pass, Link, FromSecret, Implicit, Out}
use Rattle.flow_graph.specs.declared.named_links.NamedEnd.{NamedEnd}
use Rattle.flow_graph.specs.declared.named_links.NamedEnd.TheVariants.{Source, At, Relay}
use Rattle.flow_graph.specs.EventGraphs.{bits_at, passed, has_passed, one_if, outlet_of, links_after}
use Rattle.flow_base.specs.PointOrders.{point_cmp, is_same}
use Rattle.flow_graph.proofs.MaskBitCounts.{bit_count_ones, ones_some}
use Rattle.flow_graph.proofs.KeptAfterEvent.{passed_push}
use Rattle.flow_base.proofs.PointOrders.{point_total}
use Rattle.acceptance_law.specs.Sides.{NamedSide}
use Rattle.acceptance_law.specs.ClosedEvents.{Stays, IsClosedFor, AreClosedEvents}

-- ---- lists

pub all_append : {X : Type 0} (P : X → Type 0) (xs ys : List X) → AllByRecursion P xs → AllByRecursion P ys →
    AllByRecursion P (xs ++ ys)
all_append P [] ys first second = second
all_append P (x ∷ xs) ys first second = (first.0, all_append P xs ys first.1 second)

pub all_parts : {X : Type 0} (P : X → Type 0) (xs ys : List X) → AllByRecursion P (xs ++ ys) →
    AllByRecursion P xs × AllByRecursion P ys
all_parts P [] ys all = (tt, all)
all_parts P (x ∷ xs) ys all = let rest = all_parts P xs ys all.1 in ((all.0, rest.0), rest.1)

pub all_more : {X : Type 0} (P Q : X → Type 0) → ((x : X) → P x → Q x) → (xs : List X) → AllByRecursion P xs →
    AllByRecursion Q xs
all_more P Q more [] all = tt
all_more P Q more (x ∷ xs) all = (more x all.0, all_more P Q more xs all.1)

-- ---- points that have passed a mask other than 0

abbrev pub Knows : List Event → Point → Type 0
Knows before point = has_passed before point ≡ true

some_not : (n : ℕ) → 0 < n → not (n == 0) ≡ true
some_not n some = ap not (ne_eqb n 0 (λ e. omega (arith, e, some)))

not_some : (n : ℕ) → not (n == 0) ≡ true → 0 < n
not_some zero known = absurd (cc)
not_some (suc n) known = omega arith

pub itself : (o : Ordering) → o ≡ ordering_reverse o → o ≡ Equal
itself Less e = absurd (cc)
itself Equal e = refl
itself Greater e = absurd (cc)

pub same_itself : (point : Point) → is_same point point ≡ true
same_itself point = ap is_eq (itself (point_cmp point point) (point_total.antisymm point point))

pub knows_more : (before more : List Event) (point : Point) → Knows before point → Knows (before ++ more) point
knows_more before more point known =
    let all : passed (before ++ more) point ≡ passed before point + passed more point =
    sum_by-append (bits_at point) before more in
    let some : 0 < passed before point = not_some (passed before point) known in
    some_not (passed (before ++ more) point) (omega (arith, all, some))

pub count_some : (mask : ℕ) → 0 < mask → mask < 2 ^ 32 → 0 < bit_count mask
count_some mask some word = omega (arith, bit_count_ones mask word, ones_some mask some)

pub knows_pass : (before : List Event) (point : Point) (mask : ℕ) → 0 < mask → mask < 2 ^ 32 →
    Knows (before ++ Pass point mask ∷ []) point
knows_pass before point mask some word =
    let all : passed (before ++ Pass point mask ∷ []) point ≡ passed before point + bits_at point (Pass point mask) =
    passed_push before (Pass point mask) point in
    let here : bits_at point (Pass point mask) ≡ bit_count mask =
    cond-true (is_same point point) (bit_count mask) 0 (same_itself point) in
    let bits : 0 < bit_count mask = count_some mask some word in
    some_not (passed (before ++ Pass point mask ∷ []) point) (omega (arith, all, here, bits))

-- ---- events that name such points alone

abbrev pub Names : List Event → Event → Type 0
Names before (Pass point mask) = Unit {0}
Names before (Link source target) = Knows before source × Knows before target
Names before (FromSecret point) = Knows before point
Names before (Implicit point region) = Knows before point
Names before (Out region point) = Knows before point × ((region == 0) ≡ false)

abbrev pub AreNamed : List Event → List Event → Type 0
AreNamed before [] = Unit {0}
AreNamed before (event ∷ events) = Names before event × AreNamed (before ++ event ∷ []) events

names_more : (before more : List Event) (event : Event) → Names before event → Names (before ++ more) event
names_more before more (Pass point mask) names = tt
names_more before more (Link source target) names =
    (knows_more before more source names.0, knows_more before more target names.1)
names_more before more (FromSecret point) names = knows_more before more point names
names_more before more (Implicit point region) names = knows_more before more point names
names_more before more (Out region point) names = (knows_more before more point names.0, names.1)

pub all_named : (before events : List Event) → AllByRecursion (Names before) events → AreNamed before events
all_named before [] all = tt
all_named before (event ∷ events) all = (
  all.0,
  all_named (before ++ event ∷ []) events
      (all_more (Names before) (Names (before ++ event ∷ [])) (λ e names. names_more before (event ∷ []) e names) events
      all.1),
)

pub named_append : (before events more : List Event) → AreNamed before events → AreNamed (before ++ events) more →
    AreNamed before (events ++ more)
named_append before [] more first second = subst (λ b. AreNamed b more) (append-none before) second
  where
    append-none : (xs : List Event) → xs ++ [] ≡ xs
    append-none [] = refl
    append-none (x ∷ xs) = ap (λ ys. x ∷ ys) (append-none xs)
named_append before (event ∷ events) more first second = (
  first.0,
  named_append (before ++ event ∷ []) events more first.1
      (subst (λ b. AreNamed b more) (sym (append_assoc before (event ∷ []) events)) second),
)

-- ---- their links are all there

one_first : (side : NamedSide) (there : Bool) (source target : NamedEnd) (rest : List _) → there ≡ true →
    IsClosedFor side (one_if there source target ++ rest) → Stays side source target × IsClosedFor side rest
one_first side true source target rest is closed = closed
one_first side false source target rest is closed = absurd (cc)

pub named_closed : (side : NamedSide) (before events : List Event) → AreNamed before events →
    IsClosedFor side (links_after before events) → AreClosedEvents side events
named_closed side before [] named closed = tt
named_closed side before (Pass point mask ∷ events) named closed =
    (tt, named_closed side (before ++ Pass point mask ∷ []) events named.1 closed)
named_closed side before (Link source target ∷ events) named closed =
    let first = one_first side (has_passed before source && has_passed before target) (At source) (At target)
    (links_after (before ++ Link source target ∷ []) events) (and_from _ _ named.0.0 named.0.1) closed in
    (first.0, named_closed side (before ++ Link source target ∷ []) events named.1 first.1)
named_closed side before (FromSecret point ∷ events) named closed =
    let first = one_first side (has_passed before point) Source (At point)
    (links_after (before ++ FromSecret point ∷ []) events) named.0 closed in
    (first.0 refl, named_closed side (before ++ FromSecret point ∷ []) events named.1 first.1)
named_closed side before (Implicit point region ∷ events) named closed =
    let first = one_first side (has_passed before point) (At point) (outlet_of region)
    (links_after (before ++ Implicit point region ∷ []) events) named.0 closed in
    (first.0, named_closed side (before ++ Implicit point region ∷ []) events named.1 first.1)
named_closed side before (Out region point ∷ events) named closed =
    let first = one_first side (has_passed before point && not (region == 0)) (Relay region) (At point)
    (links_after (before ++ Out region point ∷ []) events) (and_from _ _ named.0.0 (ap not named.0.1)) closed in
    (first.0, named_closed side (before ++ Out region point ∷ []) events named.1 first.1)
