-- Links are the same where they are one.
use Rattle.std.proofs.Common.{◌≡◌, ◌∷◌, [], true, List, refl, ap, ◌∙◌, subst, inl, inr}
use Rattle.std.specs.List.{AllByRecursion}
use Rattle.std.specs.Ordering.{is_eq, ordering_then}
use Rattle.std.specs.declared.cmp.Ordering.{Ordering}
use Rattle.std.specs.declared.cmp.Ordering.TheVariants.{Less, Equal, Greater}
use Rattle.std.proofs.lemmas.Bool.{or_cases, or_left, or_right}
use Rattle.flow_base.proofs.PointOrders.{is_equal, nat_equal, one_if_same}
use Rattle.flow_graph.specs.declared.named_links.NamedEnd.{NamedEnd}
use Rattle.flow_graph.specs.declared.named_links.NamedEnd.TheVariants.{Source, At, Relay, Sink}
use Rattle.flow_graph.specs.declared.named_links.NamedLink.{NamedLink}
use Rattle.flow_graph.specs.EventGraphs.{is_among, link_cmp}
use Rattle.flow_graph.proofs.LinksByIndex.{named_end_cmp}
use Rattle.acceptance_law.proofs.GraphSides.{link_itself}

end_one : (s t : NamedEnd) → named_end_cmp s t ≡ Equal → s ≡ t
end_one Source Source e = refl
end_one Source (At q) e = absurd (cc)
end_one Source (Relay r) e = absurd (cc)
end_one Source Sink e = absurd (cc)
end_one (At p) Source e = absurd (cc)
end_one (At p) (At q) e = ap At (one_if_same p q (ap is_eq e))
end_one (At p) (Relay r) e = absurd (cc)
end_one (At p) Sink e = absurd (cc)
end_one (Relay r) Source e = absurd (cc)
end_one (Relay r) (At q) e = absurd (cc)
end_one (Relay r) (Relay s) e = ap Relay (nat_equal r s e)
end_one (Relay r) Sink e = absurd (cc)
end_one Sink Source e = absurd (cc)
end_one Sink (At q) e = absurd (cc)
end_one Sink (Relay r) e = absurd (cc)
end_one Sink Sink e = refl

then_both : (o r : Ordering) → ordering_then o r ≡ Equal → (o ≡ Equal) × (r ≡ Equal)
then_both Less r e = absurd (cc)
then_both Equal r e = (refl, e)
then_both Greater r e = absurd (cc)

between : NamedEnd → NamedEnd → NamedLink
between source target = record { source = source; target = target }

pub link_one : (j k : NamedLink) → is_eq (link_cmp j k) ≡ true → j ≡ k
unfolding between
link_one j k same =
    let both = then_both (named_end_cmp j.source k.source) (named_end_cmp j.target k.target)
    (is_equal (link_cmp j k) same) in
    ap (λ s. between s j.target) (end_one j.source k.source both.0)
    ∙ ap (λ t. between k.source t) (end_one j.target k.target both.1)

-- what holds of each link of a list holds of each that is among them
pub of_among : (P : NamedLink → Type 0) (links : List NamedLink) (k : NamedLink) → AllByRecursion P links →
    is_among links k ≡ true → P k
of_among P [] k all among = absurd (cc)
of_among P (j ∷ links) k all among = elim (or_cases (is_eq (link_cmp j k)) (is_among links k) among) [
  | inl same ↦ subst P (link_one j k same) all.0
  | inr later ↦ of_among P links k all.1 later
]

pub each_among : (P : NamedLink → Type 0) (links : List NamedLink) →
    ((k : NamedLink) → is_among links k ≡ true → P k) → AllByRecursion P links
each_among P [] holds = tt
each_among P (j ∷ links) holds = (
  holds j (or_left (is_eq (link_cmp j j)) (is_among links j) (link_itself j)),
  each_among P links (λ k among. holds k (or_right (is_eq (link_cmp j k)) (is_among links k) among)),
)
