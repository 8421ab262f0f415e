-- The links that are kept, and what one link more makes of them.
use Rattle.std.proofs.Common.{◌≡◌, ◌||◌, ◌++◌, ◌∷◌, [], cond, Bool, true, false, List, refl, sym, ap, ◌∙◌}
use Rattle.std.proofs.Common.{ℕ, Option, Some, None, slice_get}
use Rattle.std.specs.List.{IsDistinct, list_all}
use Rattle.std.specs.Map.{keys_of, lookup}
use Rattle.std.specs.Option.{is_some, IfNone, IfSome}
use Rattle.std.proofs.lemmas.Bool.{and_from}
use Rattle.std.proofs.lemmas.List.Folds.{list_all-append, list_any-append}
use Rattle.std.proofs.lemmas.Map.Made.{is_some-lookup}
use Rattle.flow_graph.specs.declared.named_links.NamedLink.{NamedLink}
use Rattle.flow_graph.specs.EventGraphs.{is_among}
use Rattle.flow_graph.specs.Keeping.{TakesLinks}
use Rattle.indexmap.specs.IndexMap.{IndexMap}
use Rattle.hinted_map.specs.Maps.{StandsAt}
use Rattle.hinted_map.proofs.Places.{stands}
use Rattle.location_collapse.specs.Limits.{is_same_link}
use Rattle.location_collapse.proofs.EqualityByOrder.{any_flipped, links_alike}

-- the keys after which a link is put
pub takes_put : (old new : List NamedLink) (link : NamedLink) → new ≡ old ++ link ∷ [] → TakesLinks old new (link ∷ [])
takes_put old new link added = record {
  linked = λ q. ap (λ keys. is_among keys q) added ∙ list_any-append (λ other. is_same_link other q) old (link ∷ []);
  sound = λ test all more. ap (list_all test) added ∙ (list_all-append test old (link ∷ []) ∙ and_from (list_all test old)
      (list_all test (link ∷ [])) all more);
}

-- a link that is found by its order is among the keys
among_found : (entries : List (NamedLink × Unit {0})) (link : NamedLink) →
    is_some (lookup (is_same_link link) entries) ≡ is_among (keys_of entries) link
among_found entries link = is_some-lookup (is_same_link link) entries ∙ any_flipped (keys_of entries) link

pub found_among : (entries : List (NamedLink × Unit {0})) (link : NamedLink) (found : Option ℕ) →
    IfSome found (StandsAt is_same_link entries link) → IfNone found (lookup (is_same_link link) entries ≡ None) →
    is_some found ≡ is_among (keys_of entries) link
found_among entries link (Some i) place none = sym (ap is_some place.found) ∙ among_found entries link
found_among entries link None place none = sym (ap is_some none) ∙ among_found entries link

-- a link that stands at an index is among the keys
pub stands_known : {S : Type 0} (map : IndexMap NamedLink (Unit {0}) S) (link : NamedLink) (index : ℕ)
    (none : Unit {0}) → IsDistinct is_same_link (keys_of map.entries) → slice_get map.entries index ≡ Some (link, none) →
    is_among (keys_of map.entries) link ≡ true
stands_known map link index none differ at =
    sym (found_among map.entries link (Some index)
    (stands links_alike map link link index none differ (links_alike.refl link) at) tt)

is_none : {A : Type 0} (o : Option A) → is_some o ≡ false → o ≡ None
is_none None e = refl
is_none (Some x) e = absurd (cc)

pub unknown_none : (entries : List (NamedLink × Unit {0})) (link : NamedLink) →
    is_among (keys_of entries) link ≡ false → lookup (is_same_link link) entries ≡ None
unknown_none entries link unknown = is_none (lookup (is_same_link link) entries) (among_found entries link ∙ unknown)

pub among_alike : (keys : List NamedLink) (link q : NamedLink) → is_same_link link q ≡ true → is_among keys link ≡ is_among
    keys q
among_alike [] link q e = refl
among_alike (k ∷ ks) link q e =
    ap (λ b. b || is_among ks link) (links_alike.symm k link ∙ (links_alike.congr link q k e ∙ links_alike.symm q k))
    ∙ ap (λ b. is_same_link k q || b) (among_alike ks link q e)

or_none : (b : Bool) → b ≡ (b || false)
or_none true = refl
or_none false = refl

known_or : (b c : Bool) → (c ≡ true → b ≡ true) → b ≡ (b || (c || false))
known_or true c h = refl
known_or false true h = h refl
known_or false false h = refl

-- a link that has occurred changes nothing
pub known_takes : (b : Bool) (keys : List NamedLink) (link : NamedLink) → is_among keys link ≡ true →
    TakesLinks keys keys (cond b (link ∷ []) [])
known_takes true keys link known = record {
  linked = λ q. known_or (is_among keys q) (is_same_link link q)
      (λ e. sym (among_alike keys link q e) ∙ known);
  sound = λ test old more. old;
}
known_takes false keys link known = record {
  linked = λ q. or_none (is_among keys q);
  sound = λ test old more. old;
}

pub no_link : (keys : List NamedLink) → TakesLinks keys keys []
no_link keys = record { linked = λ q. or_none (is_among keys q); sound = λ test old more. old }
