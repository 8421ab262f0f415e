-- A link whose ends are those of the latest one of its kind has occurred.
use Rattle.std.proofs.Common.{◌≡◌, ◌≢◌, ℕ, ◌==◌, ◌&&◌, Bool, true, false, List, Option, Some, refl, sym, ap, subst, ◌∙◌}
use Rattle.std.specs.Option.{IfSome}
use Rattle.std.proofs.lemmas.Bool.{and_from, eq-eqb, ne_eqb, false≢true}
use Rattle.flow_base.specs.declared.points.Point.{Point}
use Rattle.flow_graph.specs.declared.named_links.NamedLink.{NamedLink}
use Rattle.flow_graph.specs.declared.named_links.NamedEnd.TheVariants.{At, Relay}
use Rattle.flow_graph.specs.EventGraphs.{is_among}
use Rattle.flow_base.specs.PointOrders.{is_same}
use Rattle.location_collapse.specs.KeptLinks.{has_flow, has_output, is_latest_flow, is_latest_output}
use Rattle.flow_base.proofs.PointEquality.{point_eq, points_same}
use Rattle.flow_base.proofs.PointOrders.{one_if_same}
use Rattle.location_collapse.proofs.EqualityByOrder.{link_eq, links_same}
use Rattle.location_collapse.proofs.LinkMarks.{among_alike}

-- what equals a link that has occurred has occurred
equal_known : (keys : List NamedLink) (latest link : NamedLink) → is_among keys latest ≡ true →
    link_eq latest link ≡ true → is_among keys link ≡ true
equal_known keys latest link known e =
    sym (among_alike keys latest link (ap (λ eq. eq latest link) (sym links_same) ∙ e)) ∙ known

flow_eq : (s t from to : Point) → link_eq (record { source = At from; target = At to })
    (record { source = At s; target = At t }) ≡ (point_eq from s && point_eq to t)
flow_eq s t from to = refl

output_eq : (r region : ℕ) (p to : Point) → link_eq (record { source = Relay region; target = At to })
    (record { source = Relay r; target = At p }) ≡ ((region == r) && point_eq to p)
output_eq r region p to = refl

same_point : (p q : Point) → point_eq p q ≡ true → p ≡ q
same_point p q e = one_if_same p q (ap (λ eq. eq p q) (sym points_same) ∙ e)

-- a link whose ends equal two points leads from the one to the other
pub led : (link : NamedLink) (from to s t : Point) → link.source ≡ At from → link.target ≡ At to →
    point_eq from s ≡ true → point_eq to t ≡ true → link ≡ record { source = At s; target = At t }
led link from to s t starts ends first second =
    let source : link.source ≡ At s = starts ∙ ap At (same_point from s first) in
    let target : link.target ≡ At t = ends ∙ ap At (same_point to t second) in
    λ i. record { source = source i; target = target i }

pub flow_known : (keys : List NamedLink) (flow : Option (Point × Point)) (s t from to : Point) →
    IfSome flow (λ ends. has_flow keys ends.0 ends.1 ≡ true) → flow ≡ Some (from, to) →
    point_eq from s ≡ true → point_eq to t ≡ true → has_flow keys s t ≡ true
flow_known keys flow s t from to latest is first second =
    equal_known keys (record { source = At from; target = At to }) (record { source = At s; target = At t })
    (subst (λ o. IfSome o (λ ends. has_flow keys ends.0 ends.1 ≡ true)) is latest)
    (flow_eq s t from to ∙ and_from (point_eq from s) (point_eq to t) first second)

pub output_known : (keys : List NamedLink) (output : Option (ℕ × Point)) (r : ℕ) (p : Point) (from : ℕ) (to : Point) →
    IfSome output (λ ends. has_output keys ends.0 ends.1 ≡ true) → output ≡ Some (from, to) →
    from ≡ r → point_eq to p ≡ true → has_output keys r p ≡ true
output_known keys output r p from to latest is first second =
    equal_known keys (record { source = Relay from; target = At to }) (record { source = Relay r; target = At p })
    (subst (λ o. IfSome o (λ ends. has_output keys ends.0 ends.1 ≡ true)) is latest)
    (output_eq r from p to ∙ and_from (from == r) (point_eq to p) (eq-eqb from r first) second)

second_of : (b c : Bool) → b ≡ true → c ≡ (b && c)
second_of true c e = refl
second_of false c e = absurd (false≢true e)

none_of : (b c : Bool) → b ≡ false → false ≡ (b && c)
none_of false c e = refl
none_of true c e = absurd (false≢true (sym e))

pub flow_told : (flow : Option (Point × Point)) (s t from to : Point) (told : Bool) → flow ≡ Some (from, to) →
    point_eq from s ≡ true → told ≡ point_eq to t → told ≡ is_latest_flow flow s t
flow_told flow s t from to told is first second =
    second
    ∙ (ap (λ eq. eq to t) points_same
    ∙ (second_of (is_same from s) (is_same to t) (ap (λ eq. eq from s) (sym points_same) ∙ first)
    ∙ ap (λ latest. is_latest_flow latest s t) (sym is)))

pub flow_apart : (flow : Option (Point × Point)) (s t from to : Point) → flow ≡ Some (from, to) →
    point_eq from s ≡ false → false ≡ is_latest_flow flow s t
flow_apart flow s t from to is first =
    none_of (is_same from s) (is_same to t) (ap (λ eq. eq from s) (sym points_same) ∙ first)
    ∙ ap (λ latest. is_latest_flow latest s t) (sym is)

pub output_told : (output : Option (ℕ × Point)) (r : ℕ) (p : Point) (from : ℕ) (to : Point) (told : Bool) →
    output ≡ Some (from, to) → from ≡ r → told ≡ point_eq to p → told ≡ is_latest_output output r p
output_told output r p from to told is first second =
    second
    ∙ (ap (λ eq. eq to p) points_same
    ∙ (second_of (from == r) (is_same to p) (eq-eqb from r first)
    ∙ ap (λ latest. is_latest_output latest r p) (sym is)))

pub output_apart : (output : Option (ℕ × Point)) (r : ℕ) (p : Point) (from : ℕ) (to : Point) →
    output ≡ Some (from, to) → from ≢ r → false ≡ is_latest_output output r p
output_apart output r p from to is first =
    none_of (from == r) (is_same to p) (ne_eqb from r first) ∙ ap (λ latest. is_latest_output latest r p) (sym is)
