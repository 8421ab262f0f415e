-- The equality of points is that of their order, and what is kept of a point is kept of one that equals it.
use Rattle.std.proofs.Common.{◌≡◌, Bool, true, List, Some, sym, ap, ◌∙◌}
use Rattle.std.specs.Cmp.{IsEquivalence, eq_by_cmp_equiv}
use Rattle.std.specs.Map.{lookup}
use Rattle.flow_base.specs.declared.points.Point.{Point}
use Rattle.flow_base.specs.contracts.points.PointPartialEq.TheImpl as point_eq_impl
use Rattle.flow_base.specs.contracts.points.PointOrd.TheImpl.Laws as point_laws
use Rattle.flow_base.specs.PointOrders.{is_same}

abbrev pub point_eq : Point → Point → Bool
point_eq = (point_eq_impl.ghosts).eq

pub points_same : point_eq ≡ is_same
points_same = λ i p q. point_laws.matches_eq-law p q i

pub points_alike : IsEquivalence is_same
points_alike = eq_by_cmp_equiv point_laws.total-law

-- points that are the same are tested alike
pub same_tests : (p q : Point) → is_same p q ≡ true → is_same p ≡ is_same q
same_tests p q e = λ i x. points_alike.congr p q x e i

-- a point that equals another one is the same
pub same_from_eq : (key p : Point) → point_eq key p ≡ true → is_same p key ≡ true
same_from_eq key p e = points_alike.symm p key ∙ (ap (λ eq. eq key p) (sym points_same) ∙ e)

-- what is kept of a point is kept of one that equals it
pub lookup_alike : {A : Type 0} (entries : List (Point × A)) (key p : Point) (kept : A) → point_eq key p ≡ true →
    lookup (point_eq key) entries ≡ Some kept → lookup (is_same p) entries ≡ Some kept
lookup_alike entries key p kept e found =
    ap (λ test. lookup test entries) (same_tests p key (same_from_eq key p e))
    ∙ (ap (λ eq. lookup (eq key) entries) (sym points_same) ∙ found)
