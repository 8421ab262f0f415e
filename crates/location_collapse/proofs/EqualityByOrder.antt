-- The equality of links is that of their order.
use Rattle.std.proofs.Common.{◌≡◌, Bool, List, [], ◌∷◌, ◌||◌, refl, ap, ◌∙◌}
use Rattle.std.specs.Cmp.{IsEquivalence, eq_by_cmp_equiv}
use Rattle.std.specs.List.{list_any}
use Rattle.flow_graph.specs.declared.named_links.NamedLink.{NamedLink}
use Rattle.flow_graph.specs.contracts.named_links.NamedLinkPartialEq.TheImpl as link_eq_impl
use Rattle.flow_graph.specs.contracts.named_links.NamedLinkOrd.TheImpl.Laws as link_laws
use Rattle.flow_graph.specs.EventGraphs.{is_among}
use Rattle.location_collapse.specs.Limits.{is_same_link}

abbrev pub link_eq : NamedLink → NamedLink → Bool
link_eq = (link_eq_impl.ghosts).eq

pub links_same : link_eq ≡ is_same_link
links_same = λ i p q. link_laws.matches_eq-law p q i

pub links_alike : IsEquivalence is_same_link
links_alike = eq_by_cmp_equiv link_laws.total-law

pub any_flipped : (keys : List NamedLink) (j : NamedLink) → list_any (is_same_link j) keys ≡ is_among keys j
any_flipped [] j = refl
any_flipped (k ∷ ks) j =
    ap (λ b. b || list_any (is_same_link j) ks) (links_alike.symm j k) ∙ ap (λ b. is_same_link k j || b)
    (any_flipped ks j)
