-- The points and links of a collapse in order stand for the same events.
use Rattle.std.proofs.Common.{◌≡◌, ℕ, List, [], true, refl, sym, ap, ◌∙◌, subst, unwrap_or}
use Rattle.std.proofs.lemmas.List.Elements.{All-contains, All-weaker}
use Rattle.std.proofs.lemmas.List.Sums.{AllPass-from_list_all, list_all-from_AllPass}
use Rattle.std.proofs.lemmas.Map.Lookups.{CmpEqualImpliesEq, exact_unsigned}
use Rattle.std.proofs.lemmas.Map.Made.{update_all_none}
use Rattle.std.proofs.lemmas.Map.Views.{All-set_contains, btree_map_len-le_from_list, btree_set_contains_from_list}
use Rattle.std.specs.BTreeMap as tree
use Rattle.std.specs.BTreeMap.{BTreeMap}
use Rattle.std.specs.BTreeSet as sorted
use Rattle.std.specs.BTreeSet.{BTreeSet}
use Rattle.std.specs.List.{IsDistinct, list_all}
use Rattle.std.specs.Map.{keys_of}
use Rattle.std.specs.Option.{is_some}
use Rattle.std.specs.Ordering.{is_eq, ordering_then}
use Rattle.std.specs.declared.cmp.Ordering.{Ordering}
use Rattle.std.specs.declared.cmp.Ordering.TheVariants.{Less, Equal, Greater}
use Rattle.flow_base.specs.declared.points.Point.{Point}
use Rattle.flow_base.specs.PointOrders.{is_same, point_cmp}
use Rattle.flow_base.proofs.PointEquality.{points_alike}
use Rattle.flow_base.proofs.PointOrders.{point_total, one_if_same}
use Rattle.flow_graph.specs.declared.events.Event.{Event}
use Rattle.flow_graph.specs.declared.named_links.NamedEnd.{NamedEnd}
use Rattle.flow_graph.specs.declared.named_links.NamedEnd.TheVariants.{Source, At, Relay, Sink}
use Rattle.flow_graph.specs.declared.named_links.NamedLink.{NamedLink}
use Rattle.flow_graph.specs.EventGraphs.{link_cmp}
use Rattle.flow_graph.specs.Keeping.{Keeps, TakesLinks, capacity_in, is_known, is_positive, is_sound}
use Rattle.flow_graph.proofs.LinksByIndex.{link_total, named_end_cmp}
use Rattle.flow_graph.proofs.SameLinksSameRelays.{contains_among}
use Rattle.location_collapse.specs.Limits.{is_kept_capacity}
use Rattle.location_collapse.specs.Private.Sorting.{HasSame}
use Rattle.location_collapse.proofs.CapacityMaps.{found_positive}
use Rattle.location_collapse.proofs.EqualityByOrder.{any_flipped}

-- points that differ, each with its capacity, as one map
pub points_sorted : (entries : List (Point × ℕ)) (map : BTreeMap Point ℕ) → IsDistinct is_same (keys_of entries) →
    tree.IsFromIterResult point_cmp entries map → HasSame map.entries entries
points_sorted entries map differ made = record {
  same = λ q. made.0 q ∙ update_all_none points_alike is_same (λ x y. refl) entries q differ;
  few = btree_map_len-le_from_list point_total entries map made;
}

then_both : (o r : Ordering) → ordering_then o r ≡ Equal → (o ≡ Equal) × (r ≡ Equal)
then_both Less r e = absurd (cc)
then_both Equal r e = (refl, e)
then_both Greater r e = absurd (cc)

end_exact : (s t : NamedEnd) → named_end_cmp s t ≡ Equal → s ≡ t
end_exact Source Source e = refl
end_exact Source (At q) e = absurd (cc)
end_exact Source (Relay r) e = absurd (cc)
end_exact Source Sink e = absurd (cc)
end_exact (At p) Source e = absurd (cc)
end_exact (At p) (At q) e = ap At (one_if_same p q (ap is_eq e))
end_exact (At p) (Relay r) e = absurd (cc)
end_exact (At p) Sink e = absurd (cc)
end_exact (Relay r) Source e = absurd (cc)
end_exact (Relay r) (At q) e = absurd (cc)
end_exact (Relay r) (Relay t) e = ap Relay (exact_unsigned r t e)
end_exact (Relay r) Sink e = absurd (cc)
end_exact Sink Source e = absurd (cc)
end_exact Sink (At q) e = absurd (cc)
end_exact Sink (Relay r) e = absurd (cc)
end_exact Sink Sink e = refl

link_exact : CmpEqualImpliesEq link_cmp
link_exact j k e =
    let both = then_both (named_end_cmp j.source k.source) (named_end_cmp j.target k.target) e in
    let source : j.source ≡ k.source = end_exact j.source k.source both.0 in
    let target : j.target ≡ k.target = end_exact j.target k.target both.1 in
    λ i. record { source = source i; target = target i }

-- links as one set
pub links_sorted : (links : List NamedLink) (set : BTreeSet NamedLink) → sorted.IsFromIterResult link_cmp links set →
    TakesLinks [] set.keys links
links_sorted links set made = record {
  linked = λ j. sym (contains_among set j) ∙ (made.0 j ∙ any_flipped links j);
  sound = λ test none all.
      list_all-from_AllPass test set.keys (All-weaker (λ k. sorted.contains link_cmp set k ≡ true) (λ k. test k ≡ true)
      (λ k has. All-contains (λ x. test x ≡ true) links k (AllPass-from_list_all test links all)
      ((btree_set_contains_from_list link_total link_exact links set made k).0 has)) set.keys
      (All-set_contains link_total set));
}

known_same : (sorted entries : List (Point × ℕ)) → HasSame sorted entries → is_known entries ≡ is_known sorted
known_same sorted entries has = λ i p. is_some (sym (has.same p) i)

pub sorted_positive : (sorted entries : List (Point × ℕ)) → HasSame sorted entries → list_all is_kept_capacity entries ≡ true →
    (q : Point) → is_positive (capacity_in sorted q) ≡ true
sorted_positive sorted entries has small q = ap is_positive (has.same q) ∙ found_positive (is_same q) entries small

pub sorted_sound : (sorted entries : List (Point × ℕ)) (links named : List NamedLink) → HasSame sorted entries →
    TakesLinks [] links named → list_all (is_sound (is_known entries)) named ≡ true →
    list_all (is_sound (is_known sorted)) links ≡ true
sorted_sound sorted entries links named has takes sound =
    takes.sound (is_sound (is_known sorted)) refl
    (subst (λ known. list_all (is_sound known) named ≡ true) (known_same sorted entries has) sound)

pub sorted_keeps : (sorted entries : List (Point × ℕ)) (links named : List NamedLink) (events : List Event) →
    HasSame sorted entries → TakesLinks [] links named → Keeps entries named events → Keeps sorted links events
sorted_keeps sorted entries links named events has takes keeps = record {
  positive = λ q. ap is_positive (has.same q) ∙ keeps.positive q;
  counted = λ q. ap (λ o. unwrap_or o 0) (has.same q) ∙ keeps.counted q;
  linked = λ j. takes.linked j ∙ keeps.linked j;
  sound = sorted_sound sorted entries links named has takes keeps.sound;
}
