-- No more points than events have passed a mask.
use Rattle.std.proofs.Common.{◌≡◌, suc, ◌+◌, ◌^◌, ◌≤◌, ◌<◌, ◌==◌, not, Bool, true, false, List}
use Rattle.std.proofs.Common.{[], ◌∷◌, length, refl, sym, ap, ◌∙◌, ⊎_elim, arith}
use Rattle.std.specs.List.{list_all, filter, AllByRecursion}
use Rattle.std.specs.List.Sorted.{IsStrictlySortedBy}
use Rattle.std.specs.declared.cmp.Ordering.TheVariants.{Less, Equal}
use Rattle.std.proofs.lemmas.Bool.{and_parts, and_from, cases_Bool, eqb-true, eqb-false, cond-true}
use Rattle.std.proofs.lemmas.Bool.{cond-false}
use Rattle.std.proofs.lemmas.List.Kept.{IsStrictlySortedBy-filter}
use Rattle.std.proofs.lemmas.List.Sums.{sum_by-cons}
use Rattle.std.proofs.lemmas.Map.Keys.{sorted_head, sorted_tail}
use Rattle.flow_base.specs.declared.points.Point.{Point}
use Rattle.flow_base.specs.Words.{bit_count}
use Rattle.flow_graph.specs.declared.events.Event.{Event}
use Rattle.flow_graph.specs.declared.events.Event.TheVariants.{Pass, Link, FromSecret, Implicit, Out}
use Rattle.flow_base.specs.PointOrders.{point_cmp, is_same}
use Rattle.flow_base.proofs.PointOrders.{point_total, is_equal}
use Rattle.flow_graph.specs.EventGraphs.{bits_at, passed, has_passed, HasFewPoints}

-- an event passes nothing here
abbrev is_spared : Event → Point → Bool
is_spared e q = bits_at q e == 0

-- two points at which one event passes bits are the same
touched : (e : Event) (p q : Point) → is_spared e p ≡ false → is_spared e q ≡ false → point_cmp p q ≡ Equal
touched (Pass at mask) p q a b =
    ⊎_elim
    (λ (s : is_same at p ≡ true).
    ⊎_elim
    (λ (t : is_same at q ≡ true). sym (point_total.congr at p q (is_equal (point_cmp at p) s)) ∙
    is_equal (point_cmp at q) t)
    (λ (t : is_same at q ≡ false). absurd (eqb-false (bits_at q (Pass at mask)) 0 b
    (cond-false (is_same at q) (bit_count mask) 0 t)))
    (cases_Bool (is_same at q)))
    (λ (s : is_same at p ≡ false). absurd (eqb-false (bits_at p (Pass at mask)) 0 a
    (cond-false (is_same at p) (bit_count mask) 0 s)))
    (cases_Bool (is_same at p))
touched (Link s t) p q a b = absurd (cc)
touched (FromSecret at) p q a b = absurd (cc)
touched (Implicit at r) p q a b = absurd (cc)
touched (Out r at) p q a b = absurd (cc)

all_spared : (e : Event) (p : Point) (qs : List Point) → is_spared e p ≡ false → AllByRecursion
    (λ q. point_cmp p q ≡ Less) qs → length (filter (is_spared e) qs) ≡ length qs
all_spared e p [] a less = refl
all_spared e p (q ∷ qs) a less =
    ⊎_elim
    (λ (t : is_spared e q ≡ true). ap length (cond-true (is_spared e q) (q ∷ filter (is_spared e) qs)
    (filter (is_spared e) qs) t) ∙ ap (λ n. suc n) (all_spared e p qs a less.1))
    (λ (t : is_spared e q ≡ false). absurd (let no : Less ≡ Equal = sym less.0 ∙ touched e p q a t in cc))
    (cases_Bool (is_spared e q))

one_less : (e : Event) (ps : List Point) → IsStrictlySortedBy point_cmp ps → length ps ≤ length
    (filter (is_spared e) ps) + 1
one_less e [] ordered = omega arith
one_less e (p ∷ ps) ordered =
    ⊎_elim
    (λ (t : is_spared e p ≡ true).
    let kept = ap length (cond-true (is_spared e p) (p ∷ filter (is_spared e) ps) (filter (is_spared e) ps) t) in
    let rest = one_less e ps (sorted_tail point_cmp p ps ordered) in omega (arith, kept, rest))
    (λ (t : is_spared e p ≡ false).
    let kept = ap length (cond-false (is_spared e p) (p ∷ filter (is_spared e) ps) (filter (is_spared e) ps) t) in
    let rest = all_spared e p ps t (sorted_head point_cmp p ps ordered) in omega (arith, kept, rest))
    (cases_Bool (is_spared e p))

still_passed : (e : Event) (es : List Event) (q : Point) → is_spared e q ≡ true → has_passed (e ∷ es) q ≡ has_passed
    es q
still_passed e es q spared =
    let none : bits_at q e ≡ 0 = eqb-true (bits_at q e) 0 spared in
    let all : passed (e ∷ es) q ≡ bits_at q e + passed es q = sum_by-cons (bits_at q) e es in
    ap (λ n. not (n == 0)) (let same : passed (e ∷ es) q ≡ passed es q = omega (arith, none, all) in same)

all_passed : (e : Event) (es : List Event) (ps : List Point) → list_all (has_passed (e ∷ es)) ps ≡ true →
    list_all (has_passed es) (filter (is_spared e) ps) ≡ true
all_passed e es [] all = refl
all_passed e es (p ∷ ps) all =
    let parts = and_parts (has_passed (e ∷ es) p) (list_all (has_passed (e ∷ es)) ps) all in
    ⊎_elim
    (λ (t : is_spared e p ≡ true).
    ap (list_all (has_passed es)) (cond-true (is_spared e p) (p ∷ filter (is_spared e) ps) (filter (is_spared e) ps) t)
    ∙ and_from (has_passed es p) (list_all (has_passed es) (filter (is_spared e) ps)) (sym (still_passed e es p t) ∙
    parts.0) (all_passed e es ps parts.1))
    (λ (t : is_spared e p ≡ false).
    ap (list_all (has_passed es)) (cond-false (is_spared e p) (p ∷ filter (is_spared e) ps) (filter (is_spared e) ps)
    t) ∙ all_passed e es ps parts.1)
    (cases_Bool (is_spared e p))

no_more : (events : List Event) (ps : List Point) → IsStrictlySortedBy point_cmp ps → list_all (has_passed events) ps
    ≡ true → length ps ≤ length events
no_more [] [] ordered all = omega arith
no_more [] (p ∷ ps) ordered all = absurd (cc)
no_more (e ∷ es) ps ordered all =
    let less : length ps ≤ length (filter (is_spared e) ps) + 1 = one_less e ps ordered in
    let rest : length (filter (is_spared e) ps) ≤ length es =
    no_more es (filter (is_spared e) ps) (IsStrictlySortedBy-filter point_cmp (is_spared e) ps ordered)
    (all_passed e es ps all) in
    omega (arith, less, rest)

pub few_points : (events : List Event) → length events < 2 ^ 32 → HasFewPoints events
few_points events few ps ordered all = let less : length ps ≤ length events = no_more events ps ordered all in omega
    arith
