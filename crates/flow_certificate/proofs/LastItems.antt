-- What comes after the last item of a list.
use Rattle.std.proofs.Common.{◌≡◌, ℕ, suc, ◌-◌, ◌<◌, ◌&&◌, nat_lt, Bool, true, false, List, [], ◌∷◌, ◌++◌, length}
use Rattle.std.proofs.Common.{map, get_or, refl, sym, ap, ◌∙◌, append_assoc, arith}
use Rattle.std.specs.Ordering.{is_lt, nat_cmp}
use Rattle.std.specs.declared.cmp.Ordering.{Ordering}
use Rattle.std.proofs.lemmas.Bool.{and_from, and_parts}
use Rattle.std.specs.List.{list_all}
use Rattle.flow_graph.specs.Graphs.{are_relays, ascend}
use Rattle.flow_certificate.specs.declared.drafts.Draft.{Draft}
use Rattle.flow_certificate.specs.declared.lines.RelayLine.{RelayLine}
use Rattle.flow_certificate.specs.Certificates.{region_of}
use Rattle.flow_certificate.specs.Private.Drafts.{IsDraft, is_empty, is_open, may_add_relay, may_follow, sketch_of}

pub follows_last : {A : Type 0} (cmp : A → A → Ordering) (xs : List A) (x other : A) → 0 < length xs →
    may_follow cmp xs x ≡ is_lt (cmp (get_or xs (length xs - 1) other) x)
follows_last cmp [] x other some = absurd (omega arith)
follows_last cmp (y ∷ []) x other some = refl
follows_last cmp (y ∷ (z ∷ zs)) x other some =
    let e : length (y ∷ (z ∷ zs)) - 1 ≡ suc (length (z ∷ zs) - 1) = omega arith in
    follows_last cmp (z ∷ zs) x other (omega arith)
    ∙ ap (λ (i : ℕ). is_lt (cmp (get_or (y ∷ (z ∷ zs)) i other) x)) (sym e)

pub is_lt_nat : (a b : ℕ) → is_lt (nat_cmp a b) ≡ nat_lt a b
is_lt_nat a b = grind arith

and_true : (b : Bool) → (b && true) ≡ b
and_true true = refl
and_true false = refl

and_assoc : (a b c : Bool) → (a && (b && c)) ≡ ((a && b) && c)
and_assoc true b c = refl
and_assoc false b c = refl

pub ascend_push : {A : Type 0} (cmp : A → A → Ordering) (xs : List A) (x : A) →
    ascend cmp (xs ++ (x ∷ [])) ≡ (ascend cmp xs && may_follow cmp xs x)
ascend_push cmp [] x = refl
ascend_push cmp (y ∷ []) x = and_true (is_lt (cmp y x))
ascend_push cmp (y ∷ (z ∷ zs)) x =
    ap (λ (b : Bool). is_lt (cmp y z) && b) (ascend_push cmp (z ∷ zs) x)
    ∙ and_assoc (is_lt (cmp y z)) (ascend cmp (z ∷ zs)) (may_follow cmp (z ∷ zs) x)

pub ascend_front : {A : Type 0} (cmp : A → A → Ordering) (xs ys : List A) → ascend cmp (xs ++ ys) ≡ true →
    ascend cmp xs ≡ true
ascend_front cmp [] ys up = refl
ascend_front cmp (x ∷ []) ys up = refl
ascend_front cmp (x ∷ (z ∷ zs)) ys up =
    let parts = and_parts (is_lt (cmp x z)) (ascend cmp ((z ∷ zs) ++ ys)) up in
    and_from (is_lt (cmp x z)) (ascend cmp (z ∷ zs)) parts.0 (ascend_front cmp (z ∷ zs) ys parts.1)

pub map_over_both : {A B : Type 0} (f : A → B) (xs ys : List A) → map f (xs ++ ys) ≡ map f xs ++ map f ys
map_over_both f [] ys = refl
map_over_both f (x ∷ xs) ys = ap (λ rest. f x ∷ rest) (map_over_both f xs ys)

pub regions_grow : (draft : Draft) (line : RelayLine) (regions : List ℕ) (relays : List RelayLine) → IsDraft draft →
    regions ≡ draft.regions ++ (line.region ∷ []) → relays ≡ draft.relays ++ (line ∷ []) →
    regions ≡ map region_of relays
regions_grow draft line regions relays is first second =
    first ∙ (ap (λ (l : List ℕ). l ++ (line.region ∷ [])) is.same
    ∙ (sym (map_over_both region_of draft.relays (line ∷ [])) ∙ ap (map region_of) (sym second)))

pub relays_grow : (draft : Draft) (line : RelayLine) (regions : List ℕ) → IsDraft draft →
    may_add_relay (sketch_of draft) line ≡ true → regions ≡ draft.regions ++ (line.region ∷ []) →
    are_relays regions ≡ true
relays_grow draft line regions is may grown =
    let parts = and_parts (is_open draft.stage) _ may in
    let more = and_parts (is_empty draft.links) (may_follow nat_cmp (map region_of draft.relays) line.region) parts.1 in
    ap are_relays grown ∙ (ascend_push nat_cmp draft.regions line.region
    ∙ and_from (ascend nat_cmp draft.regions) (may_follow nat_cmp draft.regions line.region) is.ascend
    (ap (λ (l : List ℕ). may_follow nat_cmp l line.region) is.same ∙ more.1))

-- an item in the middle of an ascending list comes after those before it
pub ascend_middle : {A : Type 0} (cmp : A → A → Ordering) (xs ys : List A) (x : A) →
    ascend cmp (xs ++ (x ∷ ys)) ≡ true → may_follow cmp xs x ≡ true
ascend_middle cmp xs ys x up =
    let front : ascend cmp (xs ++ (x ∷ [])) ≡ true = ascend_front cmp (xs ++ (x ∷ [])) ys
    (ap (ascend cmp) (append_assoc xs (x ∷ []) ys) ∙ up) in
    (and_parts (ascend cmp xs) (may_follow cmp xs x) (sym (ascend_push cmp xs x) ∙ front)).1

pub all_push : {A : Type 0} (test : A → Bool) (xs : List A) (x : A) → list_all test xs ≡ true → test x ≡ true →
    list_all test (xs ++ (x ∷ [])) ≡ true
all_push test [] x all here = and_from (test x) true here refl
all_push test (y ∷ ys) x all here =
    let parts = and_parts (test y) (list_all test ys) all in
    and_from (test y) (list_all test (ys ++ (x ∷ []))) parts.0 (all_push test ys x parts.1 here)

pub all_middle : {A : Type 0} (test : A → Bool) (xs ys : List A) (x : A) → list_all test (xs ++ (x ∷ ys)) ≡ true →
    test x ≡ true
all_middle test [] ys x all = (and_parts (test x) (list_all test ys) all).0
all_middle test (y ∷ xs) ys x all =
    all_middle test xs ys x (and_parts (test y) (list_all test (xs ++ (x ∷ ys))) all).1

pub follow_map : {A B : Type 0} (f : A → B) (cmp : B → B → Ordering) (xs : List A) (x : A) →
    may_follow cmp (map f xs) (f x) ≡ may_follow (λ a b. cmp (f a) (f b)) xs x
follow_map f cmp [] x = refl
follow_map f cmp (y ∷ []) x = refl
follow_map f cmp (y ∷ (z ∷ zs)) x = follow_map f cmp (z ∷ zs) x
