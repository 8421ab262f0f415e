-- One event more: the bits that pass, the link that it makes, and what is kept then.
use Rattle.std.proofs.Common.{◌≡◌, ℕ, ◌+◌, ◌*◌, ◌≤◌, ◌<◌, ◌==◌, ◌&&◌, ◌||◌, ◌++◌, ◌∷◌, [], cond, not, Bool}
use Rattle.std.proofs.Common.{true, false, List, length, Option, Some, None, unwrap_or, refl, sym, ap, ◌∙◌, subst}
use Rattle.std.proofs.Common.{⊎_elim, arith, append_assoc, append-nil}
use Rattle.std.specs.Option.{is_some}
use Rattle.std.specs.List.{list_all, sum_by}
use Rattle.std.proofs.lemmas.Bool.{and_parts, and_from, cases_Bool, ltb-true, ne_eqb, cond-true}
use Rattle.std.proofs.lemmas.Bool.{cond-false}
use Rattle.std.proofs.lemmas.List.Folds.{list_any-append}
use Rattle.std.proofs.lemmas.List.Sums.{sum_by-append, sum_by-cons}
use Rattle.flow_base.specs.declared.points.Point.{Point}
use Rattle.flow_base.specs.Words.{bit_count}
use Rattle.flow_base.specs.PointOrders.{is_same}
use Rattle.flow_graph.specs.declared.events.Event.{Event}
use Rattle.flow_graph.specs.declared.events.Event.TheVariants.{Pass, Link, FromSecret, Implicit, Out}
use Rattle.flow_graph.specs.declared.named_links.NamedLink.{NamedLink}
use Rattle.flow_graph.specs.declared.named_links.NamedEnd.{NamedEnd}
use Rattle.flow_graph.specs.declared.named_links.NamedEnd.TheVariants.{Source, At, Relay, Sink}
use Rattle.flow_graph.specs.EventGraphs.{bits_at, passed, has_passed, one_if, outlet_of, links_by, links_after}
use Rattle.flow_graph.specs.EventGraphs.{named_links, is_among}
use Rattle.flow_graph.specs.Keeping.{Keeps, TakesLinks, capacity_in, count_in, is_known, is_positive}
use Rattle.flow_graph.specs.Keeping.{is_sound, is_there, may_lead}
use Rattle.flow_graph.proofs.MaskBitCounts.{bit_count_bound}

pub passed_push : (events : List Event) (e : Event) (q : Point) → passed (events ++ e ∷ []) q ≡ passed events q + bits_at
    q e
passed_push events e q =
    let all : sum_by (bits_at q) (events ++ e ∷ []) ≡ sum_by (bits_at q) events + sum_by (bits_at q) (e ∷ []) =
    sum_by-append (bits_at q) events (e ∷ []) in
    let one : sum_by (bits_at q) (e ∷ []) ≡ bits_at q e = omega arith in
    omega (arith, all, one)

bits_bound : (q : Point) (e : Event) → bits_at q e ≤ 32
bits_bound q (Pass p mask) =
    ⊎_elim
    (λ (t : is_same p q ≡ true). let c = cond-true (is_same p q) (bit_count mask) 0 t in let b : bit_count mask ≤ 32 =
    bit_count_bound mask in omega (arith, c, b))
    (λ (t : is_same p q ≡ false). let c = cond-false (is_same p q) (bit_count mask) 0 t in omega (arith, c))
    (cases_Bool (is_same p q))
bits_bound q (Link s t) = omega arith
bits_bound q (FromSecret p) = omega arith
bits_bound q (Implicit p r) = omega arith
bits_bound q (Out r p) = omega arith

pub passed_bound : (events : List Event) (q : Point) → passed events q ≤ 32 * length events
passed_bound [] q = omega arith
passed_bound (e ∷ es) q =
    let one : bits_at q e ≤ 32 = bits_bound q e in
    let rest : passed es q ≤ 32 * length es = passed_bound es q in
    let all : passed (e ∷ es) q ≡ bits_at q e + passed es q = sum_by-cons (bits_at q) e es in
    omega (arith, one, rest, all)

links_after_push : (before events : List Event) (e : Event) → links_after before (events ++ e ∷ []) ≡ links_after
    before events ++ links_by (has_passed (before ++ events)) e
links_after_push before [] e =
    append-nil (links_by (has_passed before) e) ∙ ap (λ b. links_by (has_passed b) e) (sym (append-nil before))
links_after_push before (x ∷ xs) e =
    ap (λ l. links_by (has_passed before) x ++ l) (links_after_push (before ++ x ∷ []) xs e)
    ∙ (sym (append_assoc (links_by (has_passed before) x) (links_after (before ++ x ∷ []) xs)
    (links_by (has_passed ((before ++ x ∷ []) ++ xs)) e))
    ∙ ap (λ b. (links_by (has_passed before) x ++ links_after (before ++ x ∷ []) xs) ++ links_by (has_passed b) e)
    (append_assoc before (x ∷ []) xs))

named_links_push : (events : List Event) (e : Event) → named_links (events ++ e ∷ []) ≡ named_links events ++ links_by
    (has_passed events) e
named_links_push events e = links_after_push [] events e

pub among_push : (events : List Event) (e : Event) (j : NamedLink) → is_among (named_links (events ++ e ∷ [])) j ≡
    (is_among (named_links events) j || is_among (links_by (has_passed events) e) j)
among_push events e j = ap (λ js. is_among js j) (named_links_push events e) ∙ list_any-append _ (named_links events)
    (links_by (has_passed events) e)

there_more : (has more : Point → Bool) → ((p : Point) → has p ≡ true → more p ≡ true) → (end : NamedEnd) →
    is_there has end ≡ true → is_there more end ≡ true
there_more has more grows Source is = refl
there_more has more grows (At p) is = grows p is
there_more has more grows (Relay r) is = refl
there_more has more grows Sink is = refl

pub all_more : (has more : Point → Bool) → ((p : Point) → has p ≡ true → more p ≡ true) → (js : List NamedLink) →
    list_all (is_sound has) js ≡ true → list_all (is_sound more) js ≡ true
all_more has more grows [] all = refl
all_more has more grows (j ∷ js) all =
    let parts = and_parts (is_sound has j) (list_all (is_sound has) js) all in
    let both = and_parts (is_there has j.source) _ parts.0 in
    let rest = and_parts (is_there has j.target) (may_lead j.source j.target) both.1 in
    and_from (is_sound more j) (list_all (is_sound more) js)
    (and_from (is_there more j.source) _ (there_more has more grows j.source both.0)
    (and_from (is_there more j.target) (may_lead j.source j.target) (there_more has more grows j.target rest.0) rest.1))
    (all_more has more grows js parts.1)

pub has_known : (o : Option ℕ) → is_positive o ≡ true → is_some o ≡ not (unwrap_or o 0 == 0)
has_known None e = refl
has_known (Some n) e = let some : 0 < n = ltb-true 0 n e in ap not (sym (ne_eqb n 0 (λ z. omega (arith, z, some))))

-- the points that are kept are those that have passed a mask
pub known_same : (capacities : List (Point × ℕ)) (links : List NamedLink) (events : List Event) → Keeps capacities links
    events → (p : Point) → is_known capacities p ≡ has_passed events p
known_same capacities links events keeps p =
    has_known (capacity_in capacities p) (keeps.positive p) ∙ ap (λ n. not (n == 0)) (keeps.counted p)

pub keeps_pass : (old new : List (Point × ℕ)) (links : List NamedLink) (p : Point) (mask : ℕ) (events : List Event) →
    Keeps old links events → ((q : Point) → is_positive (capacity_in new q) ≡ true) →
    ((q : Point) → count_in new q ≡ count_in old q + cond (is_same p q) (bit_count mask) 0) →
    ((q : Point) → is_known old q ≡ true → is_known new q ≡ true) → Keeps new links (events ++ Pass p mask ∷ [])
keeps_pass old new links p mask events keeps positive counted grows = record {
  positive = positive;
  counted = λ q. counted q ∙ (ap (λ n. n + cond (is_same p q) (bit_count mask) 0) (keeps.counted q) ∙
      sym (passed_push events (Pass p mask) q));
  linked = λ j. keeps.linked j ∙ sym (ap (λ js. is_among js j) (named_links_push events (Pass p mask) ∙
      append-nil (named_links events)));
  sound = all_more (is_known old) (is_known new) grows links keeps.sound;
}

one_if_sound : (test : NamedLink → Bool) (b : Bool) (s t : NamedEnd) → (b ≡ true → test (record { source = s; target = t }) ≡
    true) → list_all test (one_if b s t) ≡ true
one_if_sound test true s t h = and_from (test (record { source = s; target = t })) true (h refl) refl
one_if_sound test false s t h = refl

outlet_sound : (has : Point → Bool) (p : Point) (r : ℕ) → has p ≡ true →
    is_sound has (record { source = At p; target = outlet_of r }) ≡ true
outlet_sound has p r h =
    ⊎_elim
    (λ (t : (r == 0) ≡ true). let o : outlet_of r ≡ Sink = cond-true (r == 0) Sink (Relay r) t in
    subst (λ x. is_sound has (record { source = At p; target = x }) ≡ true) (sym o) (and_from (has p) true h refl))
    (λ (t : (r == 0) ≡ false). let o : outlet_of r ≡ Relay r = cond-false (r == 0) Sink (Relay r) t in
    subst (λ x. is_sound has (record { source = At p; target = x }) ≡ true) (sym o) (and_from (has p) true h refl))
    (cases_Bool (r == 0))

-- the links that an event makes lead between ends that there are
pub links_by_sound : (has : Point → Bool) (e : Event) → list_all (is_sound has) (links_by has e) ≡ true
links_by_sound has (Pass p mask) = refl
links_by_sound has (Link s t) =
    one_if_sound (is_sound has) (has s && has t) (At s) (At t)
    (λ h. let p = and_parts (has s) (has t) h in and_from (has s) _ p.0 (and_from (has t) true p.1 refl))
links_by_sound has (FromSecret p) =
    one_if_sound (is_sound has) (has p) Source (At p) (λ h. and_from (has p) true h refl)
links_by_sound has (Implicit p r) = one_if_sound (is_sound has) (has p) (At p) (outlet_of r) (outlet_sound has p r)
links_by_sound has (Out r p) =
    one_if_sound (is_sound has) (has p && not (r == 0)) (Relay r) (At p)
    (λ h. let k = and_parts (has p) (not (r == 0)) h in and_from (has p) true k.0 refl)

pub keeps_links : (capacities : List (Point × ℕ)) (old new : List NamedLink) (e : Event) (events : List Event) →
    Keeps capacities old events → TakesLinks old new (links_by (is_known capacities) e) →
    ((q : Point) → bits_at q e ≡ 0) → Keeps capacities new (events ++ e ∷ [])
keeps_links capacities old new e events keeps takes none =
    let has : is_known capacities ≡ has_passed events = λ i p. known_same capacities old events keeps p i in
    record {
      positive = keeps.positive;
      counted = λ q.
          keeps.counted q
          ∙ (let z : bits_at q e ≡ 0 = none q in let p : passed (events ++ e ∷ []) q ≡ passed
          events q + bits_at q e = passed_push events e q in omega (arith, z, p));
      linked = λ j.
          takes.linked j
          ∙ (ap (λ b. b || is_among (links_by (is_known capacities) e) j) (keeps.linked j)
          ∙ (ap (λ h. is_among (named_links events) j || is_among (links_by h e) j) has ∙ sym (among_push events e j)));
      sound = takes.sound (is_sound (is_known capacities)) keeps.sound (links_by_sound (is_known capacities) e);
    }
