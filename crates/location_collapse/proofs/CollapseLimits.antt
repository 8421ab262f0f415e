-- The graph of the events for which a collapse stands exceeds no limit, and the graph of those with one more does where
-- there is no room for it.
use Rattle.std.proofs.Common.{◌≡◌, ℕ, ◌+◌, ◌≤◌, ◌<◌, ◌^◌, ◌==◌, ◌||◌, ◌++◌, ◌∷◌, [], cond, not, Bool, true}
use Rattle.std.proofs.Common.{false, List, length, refl, sym, ap, ◌∙◌, inl, inr}
use Rattle.std.proofs.Common.{⊎_elim, arith}
use Rattle.std.specs.List.{list_all, list_any, IsDistinct}
use Rattle.std.specs.Map.{keys_of, lookup}
use Rattle.std.specs.Option.{is_some}
use Rattle.std.proofs.lemmas.Bool.{and_from, and_parts, or_cases, or_left, or_right, cases_Bool, ne_eqb, eqb-false}
use Rattle.std.proofs.lemmas.List.{length-append, length-map}
use Rattle.std.proofs.lemmas.List.Folds.{list_all-append}
use Rattle.std.proofs.lemmas.Map.Keys.{IsDistinct-push}
use Rattle.std.proofs.lemmas.Map.Made.{is_some-lookup, length-le_from_is_member}
use Rattle.flow_base.specs.declared.points.Point.{Point}
use Rattle.flow_base.specs.Words.{bit_count}
use Rattle.flow_base.specs.PointOrders.{is_same}
use Rattle.flow_graph.specs.declared.events.Event.{Event}
use Rattle.flow_graph.specs.declared.events.Event.TheVariants.{Pass}
use Rattle.flow_graph.specs.declared.named_links.NamedLink.{NamedLink}
use Rattle.flow_graph.specs.EventGraphs.{bits_at, passed, has_passed, named_links, is_among, links_by}
use Rattle.flow_graph.specs.Keeping.{Keeps, count_in, is_known}
use Rattle.flow_graph.proofs.KeptAfterEvent.{known_same, passed_push, among_push}
use Rattle.location_collapse.specs.Limits.{ExceedsLimit, HasMorePoints, HasMoreLinks, HasCapacity}
use Rattle.location_collapse.specs.Limits.{HasAllLinks, LacksRoom, is_same_link, is_kept_capacity}
use Rattle.flow_base.proofs.PointEquality.{points_alike, same_tests}
use Rattle.location_collapse.proofs.EqualityByOrder.{links_alike, any_flipped}
use Rattle.location_collapse.proofs.CapacityMaps.{found_small}

-- ---- no limit is exceeded

-- what holds of each item of a list holds of what is the same as one of them
pub of_members : {K : Type 0} (eq : K → K → Bool) (test : K → Bool) → ((x q : K) → eq q x ≡ true → test x ≡ true → test q ≡
    true) → (xs : List K) → list_all test xs ≡ true → (q : K) → list_any (eq q) xs ≡ true → test q ≡ true
of_members eq test alike [] all q any = absurd (cc)
of_members eq test alike (x ∷ xs) all q any =
    let parts = and_parts (test x) (list_all test xs) all in
    ⊎_elim (λ (h : eq q x ≡ true). alike x q h parts.0)
    (λ (h : list_any (eq q) xs ≡ true). of_members eq test alike xs parts.1 q h)
    (or_cases (eq q x) (list_any (eq q) xs) any)

points_within : (capacities : List (Point × ℕ)) (links : List NamedLink) (events : List Event) → Keeps capacities links
    events → (points : List Point) → IsDistinct is_same points → list_all (has_passed events) points ≡ true →
    length points ≤ length capacities
points_within capacities links events keeps points differ passed =
    let within : length points ≤ length (keys_of capacities) =
    length-le_from_is_member points_alike points (keys_of capacities) differ
    (λ q member. sym (is_some-lookup (is_same q) capacities) ∙ (known_same capacities links events keeps q ∙
    of_members is_same (has_passed events)
    (λ x p e has. sym (known_same capacities links events keeps p) ∙ (ap (λ test. is_some (lookup test capacities))
    (same_tests p x e) ∙ (known_same capacities links events keeps x ∙ has)))
    points passed q member)) in
    let count : length (keys_of capacities) ≡ length capacities = length-map capacities (λ e. e.0) in
    omega (arith, within, count)

links_within : (capacities : List (Point × ℕ)) (links : List NamedLink) (events : List Event) → Keeps capacities links
    events → (more : List NamedLink) → IsDistinct is_same_link more → list_all (is_among (named_links events)) more ≡
    true → length more ≤ length links
links_within capacities links events keeps more differ occur =
    length-le_from_is_member links_alike more links differ
    (λ q member. any_flipped links q ∙ of_members is_same_link (is_among links)
    (λ x p e has. sym (among_same links x p e) ∙ has) more (all_kept more occur) q member)
  where
    among_same : (keys : List NamedLink) (x p : NamedLink) → is_same_link p x ≡ true → is_among keys x ≡ is_among keys p
    among_same [] x p e = refl
    among_same (k ∷ ks) x p e =
        ap (λ b. b || is_among ks x) (links_alike.symm k x ∙ (sym (links_alike.congr p x k e) ∙ links_alike.symm p k))
        ∙ ap (λ b. is_same_link k p || b) (among_same ks x p e)

    all_kept : (js : List NamedLink) → list_all (is_among (named_links events)) js ≡ true → list_all (is_among links) js ≡
        true
    all_kept [] all = refl
    all_kept (j ∷ js) all =
        let parts = and_parts (is_among (named_links events) j) (list_all (is_among (named_links events)) js) all in
        and_from (is_among links j) (list_all (is_among links) js) (keeps.linked j ∙ parts.0) (all_kept js parts.1)

pub not_exceeding : (capacities : List (Point × ℕ)) (links : List NamedLink) (events : List Event) →
    Keeps capacities links events → list_all is_kept_capacity capacities ≡ true → length capacities ≤ 65536 →
    length links ≤ 1048576 → ExceedsLimit events → ⊥
not_exceeding capacities links events keeps small few few_links (inl more) =
    let within : length more.points ≤ length capacities =
    points_within capacities links events keeps more.points more.differ more.passed in
    let over : 65536 < length more.points = more.more in omega (arith, within, few, over)
not_exceeding capacities links events keeps small few few_links (inr (inl more)) =
    let within : length more.links ≤ length links =
    links_within capacities links events keeps more.links more.differ more.occur in
    let over : 1048576 < length more.links = more.more in omega (arith, within, few_links, over)
not_exceeding capacities links events keeps small few few_links (inr (inr large)) =
    let below : count_in capacities large.point < 2 ^ 48 = found_small (is_same large.point) capacities small in
    let same : count_in capacities large.point ≡ passed events large.point = keeps.counted large.point in
    let over : 2 ^ 48 ≤ passed events large.point = large.reached in omega (arith, below, same, over)

-- ---- a limit is exceeded

pub all_more : {K : Type 0} (test other : K → Bool) → ((x : K) → test x ≡ true → other x ≡ true) → (xs : List K) →
    list_all test xs ≡ true → list_all other xs ≡ true
all_more test other grows [] all = refl
all_more test other grows (x ∷ xs) all =
    let parts = and_parts (test x) (list_all test xs) all in
    and_from (other x) (list_all other xs) (grows x parts.0) (all_more test other grows xs parts.1)

-- each item of a list is in it
all_own : {K : Type 0} (eq : K → K → Bool) → ((x : K) → eq x x ≡ true) → (xs : List K) →
    list_all (λ x. list_any (eq x) xs) xs ≡ true
all_own eq itself [] = refl
all_own eq itself (x ∷ xs) =
    and_from (list_any (eq x) (x ∷ xs)) (list_all (λ y. list_any (eq y) (x ∷ xs)) xs)
    (or_left (eq x x) (list_any (eq x) xs) (itself x))
    (all_more (λ y. list_any (eq y) xs) (λ y. list_any (eq y) (x ∷ xs))
    (λ y any. or_right (eq y x) (list_any (eq y) xs) any) xs (all_own eq itself xs))

still : (n m : ℕ) → not (n == 0) ≡ true → not (n + m == 0) ≡ true
still n m has =
    ⊎_elim
    (λ (e : (n == 0) ≡ true). absurd (let no : false ≡ true = ap not (sym e) ∙ has in cc))
    (λ (e : (n == 0) ≡ false). ap not (ne_eqb (n + m) 0 (λ z. eqb-false n 0 e (omega (arith, z)))))
    (cases_Bool (n == 0))

pub still_passed : (events : List Event) (e : Event) (q : Point) → has_passed events q ≡ true → has_passed
    (events ++ e ∷ []) q ≡ true
still_passed events e q has = ap (λ n. not (n == 0)) (passed_push events e q) ∙ still (passed events q) (bits_at q e) has

now_passed : (events : List Event) (p : Point) (mask : ℕ) → 0 < bit_count mask → has_passed
    (events ++ Pass p mask ∷ []) p ≡ true
now_passed events p mask some =
    let bits : bits_at p (Pass p mask) ≡ bit_count mask = ap (λ b. cond b (bit_count mask) 0) (points_alike.refl p) in
    let all : passed (events ++ Pass p mask ∷ []) p ≡ passed events p + bits_at p (Pass p mask) =
    passed_push events (Pass p mask) p in
    ap not (ne_eqb (passed (events ++ Pass p mask ∷ []) p) 0 (λ z. omega (arith, z, all, bits, some)))

pub exceeds_points : (capacities : List (Point × ℕ)) (links : List NamedLink) (events : List Event) (p : Point) (mask :
    ℕ) → Keeps capacities links events → LacksRoom capacities p mask → HasMorePoints (events ++ Pass p mask ∷ []) 65536
exceeds_points capacities links events p mask keeps lacks =
    let absent : list_any (is_same p) (keys_of capacities) ≡ false =
    sym (is_some-lookup (is_same p) capacities) ∙ lacks.wants.unknown in
    let own : list_all (λ q. list_any (is_same q) (keys_of capacities)) (keys_of capacities) ≡ true =
    all_own is_same points_alike.refl (keys_of capacities) in
    let count : length (keys_of capacities) ≡ length capacities = length-map capacities (λ e. e.0) in
    let both : length (keys_of capacities ++ p ∷ []) ≡ length (keys_of capacities) + 1 =
    length-append (keys_of capacities) (p ∷ []) in
    record {
      points = keys_of capacities ++ p ∷ [];
      differ = IsDistinct-push points_alike (keys_of capacities) p lacks.full.differ absent;
      passed = list_all-append (has_passed (events ++ Pass p mask ∷ [])) (keys_of capacities) (p ∷ [])
          ∙ and_from (list_all (has_passed (events ++ Pass p mask ∷ [])) (keys_of capacities)) _
          (all_more (λ q. list_any (is_same q) (keys_of capacities)) (has_passed (events ++ Pass p mask ∷ []))
          (λ q any. still_passed events (Pass p mask) q (sym (known_same capacities links events keeps q) ∙
          (is_some-lookup (is_same q) capacities ∙ any))) (keys_of capacities) own)
          (and_from (has_passed (events ++ Pass p mask ∷ []) p) true (now_passed events p mask lacks.wants.some) refl);
      more = let full : 65536 ≤ length capacities = lacks.full.full in omega (arith, full, count, both);
    }

pub exceeds_capacity : (capacities : List (Point × ℕ)) (links : List NamedLink) (events : List Event) (p : Point) (mask
    : ℕ) → Keeps capacities links events → 2 ^ 48 ≤ count_in capacities p + bit_count mask →
    HasCapacity (events ++ Pass p mask ∷ []) (2 ^ 48)
exceeds_capacity capacities links events p mask keeps large = record {
  point = p;
  reached =
      let bits : bits_at p (Pass p mask) ≡ bit_count mask = ap (λ b. cond b (bit_count mask) 0) (points_alike.refl p) in
      let all : passed (events ++ Pass p mask ∷ []) p ≡ passed events p + bits_at p (Pass p mask) =
      passed_push events (Pass p mask) p in
      let same : count_in capacities p ≡ passed events p = keeps.counted p in omega (arith, large, bits, all, same);
}

pub exceeds_links : (capacities : List (Point × ℕ)) (links : List NamedLink) (events : List Event) (e : Event) (link :
    NamedLink) → Keeps capacities links events → links_by (is_known capacities) e ≡ link ∷ [] → is_among links link ≡
    false → HasAllLinks links → HasMoreLinks (events ++ e ∷ []) 1048576
exceeds_links capacities links events e link keeps made absent full =
    let has : is_known capacities ≡ has_passed events = λ i p. known_same capacities links events keeps p i in
    let none : list_any (is_same_link link) links ≡ false = any_flipped links link ∙ absent in
    let own : list_all (λ q. list_any (is_same_link q) links) links ≡ true = all_own is_same_link links_alike.refl links in
    let both : length (links ++ link ∷ []) ≡ length links + 1 = length-append links (link ∷ []) in
    record {
      links = links ++ link ∷ [];
      differ = IsDistinct-push links_alike links link full.differ none;
      occur = list_all-append (is_among (named_links (events ++ e ∷ []))) links (link ∷ [])
          ∙ and_from (list_all (is_among (named_links (events ++ e ∷ []))) links) _
          (all_more (λ q. list_any (is_same_link q) links) (is_among (named_links (events ++ e ∷ [])))
          (λ q any. among_push events e q ∙ or_left (is_among (named_links events) q)
          (is_among (links_by (has_passed events) e) q) (sym (keeps.linked q) ∙ (sym (any_flipped links q) ∙ any))) links own)
          (and_from (is_among (named_links (events ++ e ∷ [])) link) true
          (among_push events e link ∙ or_right (is_among (named_links events) link)
          (is_among (links_by (has_passed events) e) link)
          (ap (λ h. is_among (links_by h e) link) (sym has) ∙ (ap (λ l. is_among l link) made ∙
          or_left (is_same_link link link) false (links_alike.refl link)))) refl);
      more = let all : 1048576 ≤ length links = full.full in omega (arith, all, both);
    }
