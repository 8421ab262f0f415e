-- Equal sets of links name the same relays.
use Rattle.std.proofs.Common.{◌≡◌, ℕ, suc, ◌<◌, ◌||◌, nat_eq, nat_lt, Bool}
use Rattle.std.proofs.Common.{true, false, List, [], ◌∷◌, slice_index, refl, sym, ap, ◌∙◌}
use Rattle.std.proofs.Common.{⊎_elim, arith}
use Rattle.std.specs.BTreeSet as sorted
use Rattle.std.specs.BTreeSet.{BTreeSet}
use Rattle.std.specs.List.{list_any}
use Rattle.std.specs.List.Sorted.{IsStrictlySortedBy}
use Rattle.std.specs.Ordering.{is_eq, is_lt, eq_by_cmp, nat_cmp, ordering_then, ordering_reverse}
use Rattle.std.specs.declared.cmp.Ordering.{Ordering}
use Rattle.std.specs.declared.cmp.Ordering.TheVariants.{Less, Equal, Greater}
use Rattle.std.proofs.lemmas.Bool.{and_from, or_cases, or_left, or_right, eqb-true, lt-ltb}
use Rattle.std.proofs.lemmas.Cmp.{tied_itself}
use Rattle.std.proofs.lemmas.Map.Lookups.{exact_unsigned}
use Rattle.std.proofs.lemmas.Map.Keys.{sorted_head, sorted_tail}
use Rattle.flow_graph.specs.declared.named_links.NamedLink.{NamedLink}
use Rattle.flow_graph.specs.declared.named_links.NamedEnd.{NamedEnd}
use Rattle.flow_graph.specs.declared.named_links.NamedEnd.TheVariants.{Source, At, Relay, Sink}
use Rattle.flow_graph.specs.Graphs.{are_relays, is_relay}
use Rattle.flow_graph.specs.EventGraphs.{link_cmp, is_among, is_relay_of, names_relay}
use Rattle.flow_graph.proofs.LinksByIndex.{named_end_cmp, link_total}

both_ways : (s t : Bool) → (s ≡ true → t ≡ true) → (t ≡ true → s ≡ true) → s ≡ t
both_ways true t f g = sym (f refl)
both_ways false true f g = g refl
both_ways false false f g = refl

then_equal : (o r : Ordering) → ordering_then o r ≡ Equal → (o ≡ Equal) × (r ≡ Equal)
then_equal Less r e = absurd (cc)
then_equal Equal r e = (refl, e)
then_equal Greater r e = absurd (cc)

end_relay : (r : ℕ) (s t : NamedEnd) → named_end_cmp s t ≡ Equal → is_relay_of r s ≡ is_relay_of r t
end_relay r Source Source e = refl
end_relay r Source (At q) e = refl
end_relay r Source (Relay b) e = absurd (cc)
end_relay r Source Sink e = refl
end_relay r (At p) Source e = refl
end_relay r (At p) (At q) e = refl
end_relay r (At p) (Relay b) e = absurd (cc)
end_relay r (At p) Sink e = refl
end_relay r (Relay a) Source e = absurd (cc)
end_relay r (Relay a) (At q) e = absurd (cc)
end_relay r (Relay a) (Relay b) e = ap (nat_eq r) (exact_unsigned a b e)
end_relay r (Relay a) Sink e = absurd (cc)
end_relay r Sink Source e = refl
end_relay r Sink (At q) e = refl
end_relay r Sink (Relay b) e = absurd (cc)
end_relay r Sink Sink e = refl

relay_alike : (r : ℕ) (a b : NamedLink) → link_cmp a b ≡ Equal → names_relay r a ≡ names_relay r b
relay_alike r a b e =
    let parts = then_equal (named_end_cmp a.source b.source) (named_end_cmp a.target b.target) e in
    ap (λ x. x || is_relay_of r a.target) (end_relay r a.source b.source parts.0)
    ∙ ap (λ x. is_relay_of r b.source || x) (end_relay r a.target b.target parts.1)

equal_from : (o : Ordering) → is_eq o ≡ true → o ≡ Equal
equal_from Less e = absurd (cc)
equal_from Equal e = refl
equal_from Greater e = absurd (cc)

any_at : (r : ℕ) (j : NamedLink) (ys : List NamedLink) → is_among ys j ≡ true → names_relay r j ≡ true →
    list_any (names_relay r) ys ≡ true
any_at r j [] among is = absurd (cc)
any_at r j (y ∷ ys) among is =
    ⊎_elim
    (λ (h : eq_by_cmp link_cmp y j ≡ true). or_left (names_relay r y) (list_any (names_relay r) ys)
    (relay_alike r y j (equal_from (link_cmp y j) h) ∙ is))
    (λ (h : is_among ys j ≡ true). or_right (names_relay r y) (list_any (names_relay r) ys) (any_at r j ys h is))
    (or_cases (eq_by_cmp link_cmp y j) (is_among ys j) among)

any_through : (r : ℕ) (xs ys : List NamedLink) → ((j : NamedLink) → is_among xs j ≡ true → is_among ys j ≡ true) →
    list_any (names_relay r) xs ≡ true → list_any (names_relay r) ys ≡ true
any_through r [] ys sub any = absurd (cc)
any_through r (x ∷ xs) ys sub any =
    ⊎_elim
    (λ (h : names_relay r x ≡ true). any_at r x ys
    (sub x (or_left (eq_by_cmp link_cmp x x) (is_among xs x) (ap is_eq (tied_itself link_total x)))) h)
    (λ (h : list_any (names_relay r) xs ≡ true). any_through r xs ys
    (λ j among. sub j (or_right (eq_by_cmp link_cmp x j) (is_among xs j) among)) h)
    (or_cases (names_relay r x) (list_any (names_relay r) xs) any)

pub same_relays : (r : ℕ) (xs ys : List NamedLink) → ((j : NamedLink) → is_among xs j ≡ is_among ys j) →
    list_any (names_relay r) xs ≡ list_any (names_relay r) ys
same_relays r xs ys same =
    both_ways (list_any (names_relay r) xs) (list_any (names_relay r) ys)
    (any_through r xs ys (λ j e. sym (same j) ∙ e)) (any_through r ys xs (λ j e. same j ∙ e))

eq_reversed : (o : Ordering) → is_eq (ordering_reverse o) ≡ is_eq o
eq_reversed Less = refl
eq_reversed Equal = refl
eq_reversed Greater = refl

-- the set has what is among its keys
keys_among : (keys : List NamedLink) (j : NamedLink) → list_any (λ k. is_eq (link_cmp j k)) keys ≡ is_among keys j
keys_among [] j = refl
keys_among (k ∷ ks) j =
    ap (λ o. is_eq o || list_any (λ x. is_eq (link_cmp j x)) ks) (link_total.antisymm j k)
    ∙ (ap (λ b. b || list_any (λ x. is_eq (link_cmp j x)) ks) (eq_reversed (link_cmp k j)) ∙
    ap (λ b. is_eq (link_cmp k j) || b) (keys_among ks j))

pub contains_among : (set : BTreeSet NamedLink) (j : NamedLink) → sorted.contains link_cmp set j ≡ is_among set.keys j
contains_among set j = keys_among set.keys j

-- ---- the numbers of regions

pub relays_ascend : (relays : List ℕ) → IsStrictlySortedBy nat_cmp relays → are_relays relays ≡ true
relays_ascend [] ordered = refl
relays_ascend (x ∷ []) ordered = refl
relays_ascend (x ∷ (y ∷ ys)) ordered =
    and_from (is_lt (nat_cmp x y)) (are_relays (y ∷ ys)) (ap is_lt (sorted_head nat_cmp x (y ∷ ys) ordered).0)
    (relays_ascend (y ∷ ys) (sorted_tail nat_cmp x (y ∷ ys) ordered))

any_below : (relays : List ℕ) (r n : ℕ) → ((i : ℕ) → slice_index relays i < n) → list_any (nat_eq r) relays ≡ true →
    r < n
any_below [] r n small any = absurd (cc)
any_below (x ∷ xs) r n small any =
    ⊎_elim
    (λ (h : nat_eq r x ≡ true). let e : r ≡ x = eqb-true r x h in let b : x < n = small 0 in omega (arith, e, b))
    (λ (h : list_any (nat_eq r) xs ≡ true). any_below xs r n (λ i. small (suc i)) h)
    (or_cases (nat_eq r x) (list_any (nat_eq r) xs) any)

pub relay_there : (relays : List ℕ) (r : ℕ) → ((i : ℕ) → slice_index relays i < 65536) → list_any (nat_eq r) relays ≡
    true → is_relay relays r ≡ true
relay_there relays r small any = and_from (nat_lt r 65536) (list_any (nat_eq r) relays)
    (lt-ltb r 65536 (any_below relays r 65536 small any)) any
