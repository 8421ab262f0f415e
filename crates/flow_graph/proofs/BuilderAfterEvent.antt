-- What a builder stands for with one event more.
use Rattle.std.proofs.Common.{◌≡◌, ℕ, ◌+◌, ◌<◌, ◌==◌, ◌&&◌, ◌||◌, ◌++◌, ◌∷◌, [], cond, not, Bool}
use Rattle.std.proofs.Common.{true, false, List, Option, Some, unwrap_or, refl, sym, ◌∙◌, subst}
use Rattle.std.proofs.Common.{arith}
use Rattle.std.specs.BTreeSet as sorted
use Rattle.std.specs.Ordering.{match_ordering}
use Rattle.std.specs.declared.cmp.Ordering.{Ordering}
use Rattle.std.specs.declared.cmp.Ordering.TheVariants.{Less, Equal, Greater}
use Rattle.std.specs.List.{list_all}
use Rattle.std.proofs.lemmas.Bool.{and_parts, and_from, lt-ltb}
use Rattle.flow_base.specs.declared.points.Point.{Point}
use Rattle.flow_base.specs.Words.{bit_count}
use Rattle.flow_base.specs.PointOrders.{is_same}
use Rattle.flow_graph.specs.declared.builders.Builder.{Builder}
use Rattle.flow_graph.specs.declared.events.Event.{Event}
use Rattle.flow_graph.specs.declared.events.Event.TheVariants.{Pass, Link, FromSecret, Implicit, Out}
use Rattle.flow_graph.specs.declared.named_links.NamedLink.{NamedLink}
use Rattle.flow_graph.specs.declared.named_links.NamedEnd.{NamedEnd}
use Rattle.flow_graph.specs.declared.named_links.NamedEnd.TheVariants.{Source, At, Relay}
use Rattle.flow_graph.specs.EventGraphs.{bits_at, one_if, outlet_of, links_by}
use Rattle.flow_graph.specs.EventGraphs.{link_cmp}
use Rattle.flow_graph.specs.Builders.{StandsFor, Takes, ArePositive, count_at, has_point}
use Rattle.flow_graph.specs.Keeping.{Keeps, is_positive}
use Rattle.flow_graph.proofs.KeptAfterEvent.{keeps_pass, keeps_links}

pub stands_pass : (old new : Builder) (p : Point) (mask : ℕ) (events : List Event) → StandsFor old events →
    ArePositive new →
    ((q : Point) → count_at new q ≡ count_at old q + cond (is_same p q) (bit_count mask) 0) →
    ((q : Point) → has_point old q ≡ true → has_point new q ≡ true) →
    new.links ≡ old.links → StandsFor new (events ++ Pass p mask ∷ [])
stands_pass old new p mask events stands positive counted grows same =
    subst (λ l. Keeps new.capacities.entries l.keys (events ++ Pass p mask ∷ [])) (sym same)
    (keeps_pass old.capacities.entries new.capacities.entries old.links.keys p mask events stands positive counted grows)

pub stands_linked : (old new : Builder) (e : Event) (events : List Event) → StandsFor old events →
    Takes old new (links_by (has_point old) e) → ((q : Point) → bits_at q e ≡ 0) → StandsFor new (events ++ e ∷ [])
stands_linked old new e events stands takes none =
    subst (λ m. Keeps m.entries new.links.keys (events ++ e ∷ [])) (sym takes.capacities)
    (keeps_links old.capacities.entries old.links.keys new.links.keys e events stands takes.links none)

pub stands_link : (old new : Builder) (s t : Point) (b : Bool) (events : List Event) →
    b ≡ (has_point old s && has_point old t) → Takes old new (one_if b (At s) (At t)) →
    StandsFor old events → StandsFor new (events ++ Link s t ∷ [])
stands_link old new s t b events is takes stands =
    stands_linked old new (Link s t) events stands (subst (λ h. Takes old new (one_if h (At s) (At t))) is takes)
    (λ q. refl)

pub stands_secret : (old new : Builder) (p : Point) (b : Bool) (events : List Event) → b ≡ has_point old p →
    Takes old new (one_if b Source (At p)) →
    StandsFor old events → StandsFor new (events ++ FromSecret p ∷ [])
stands_secret old new p b events is takes stands =
    stands_linked old new (FromSecret p) events stands (subst (λ h. Takes old new (one_if h Source (At p))) is takes)
    (λ q. refl)

pub stands_implicit : (old new : Builder) (p : Point) (r : ℕ) (b : Bool) (end : NamedEnd) (events : List Event) →
    b ≡ has_point old p → end ≡ outlet_of r →
    Takes old new (one_if b (At p) end) → StandsFor old events → StandsFor new (events ++ Implicit p r ∷ [])
stands_implicit old new p r b end events is at takes stands =
    stands_linked old new (Implicit p r) events stands
    (subst (λ x. Takes old new (one_if (has_point old p) (At p) x)) at
    (subst (λ h. Takes old new (one_if h (At p) end)) is takes)) (λ q. refl)

pub stands_out : (old new : Builder) (p : Point) (r : ℕ) (b : Bool) (events : List Event) →
    b ≡ (has_point old p && not (r == 0)) →
    Takes old new (one_if b (Relay r) (At p)) → StandsFor old events → StandsFor new (events ++ Out r p ∷ [])
stands_out old new p r b events is takes stands =
    stands_linked old new (Out r p) events stands (subst (λ h. Takes old new (one_if h (Relay r) (At p))) is takes)
    (λ q. refl)

-- ---- what is put into the map and into the set

cond_or : (x b : Bool) → cond x true b ≡ (b || (x || false))
cond_or true true = refl
cond_or true false = refl
cond_or false true = refl
cond_or false false = refl

pub put_links : (x b c : Bool) → c ≡ cond x true b → c ≡ (b || (x || false))
put_links x b c e = e ∙ cond_or x b

all_in_order : (test : NamedLink → Bool) (o : Ordering) (k x : NamedLink) (xs more : List NamedLink) → test k ≡ true →
    list_all test (x ∷ xs) ≡ true → list_all test more ≡ true →
    list_all test (match_ordering o (k ∷ x ∷ xs) (x ∷ xs) (x ∷ more)) ≡ true
all_in_order test Less k x xs more new old rest = and_from (test k) (list_all test (x ∷ xs)) new old
all_in_order test Equal k x xs more new old rest = old
all_in_order test Greater k x xs more new old rest = and_from (test x) (list_all test more)
    (and_parts (test x) (list_all test xs) old).0 rest

pub all_inserted : (test : NamedLink → Bool) (k : NamedLink) (ks : List NamedLink) → list_all test ks ≡ true → list_all test (k ∷ [])
    ≡ true →
    list_all test (sorted.insert_key link_cmp ks k) ≡ true
all_inserted test k [] old new = new
all_inserted test k (x ∷ xs) old new =
    all_in_order test (link_cmp k x) k x xs (sorted.insert_key link_cmp xs k) (and_parts (test k) true new).0 old
    (all_inserted test k xs (and_parts (test x) (list_all test xs) old).1 new)

pub positive_put : (b : Bool) (n : ℕ) (o : Option ℕ) → 0 < n → is_positive o ≡ true → is_positive (cond b (Some n) o)
    ≡ true
positive_put true n o some old = lt-ltb 0 n some
positive_put false n o some old = old

pub counted_put : (b : Bool) (n c : ℕ) (o : Option ℕ) → (b ≡ true → n ≡ unwrap_or o 0 + c) →
    unwrap_or (cond b (Some n) o) 0 ≡ unwrap_or o 0 + cond b c 0
counted_put true n c o h = h refl
counted_put false n c o h = omega arith
