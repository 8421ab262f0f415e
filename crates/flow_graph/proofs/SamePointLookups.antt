-- Points that are the same are found alike.
use Rattle.std.proofs.Common.{◌≡◌, true, cond, List, [], ◌∷◌, Some, refl, ap, ◌∙◌}
use Rattle.std.specs.BTreeMap as tree
use Rattle.std.specs.BTreeMap.{BTreeMap, is_at}
use Rattle.std.specs.Map.{lookup}
use Rattle.std.specs.Ordering.{is_eq}
use Rattle.std.specs.declared.cmp.Ordering.TheVariants.{Equal}
use Rattle.flow_base.specs.declared.points.Point.{Point}
use Rattle.flow_base.specs.PointOrders.{is_same, point_cmp}
use Rattle.flow_base.proofs.PointOrders.{is_equal, point_total}

lookup_alike : {X : Type 0} (p q : Point) → point_cmp p q ≡ Equal → (es : List (Point × X)) →
    lookup (is_at (point_cmp p)) es ≡ lookup (is_at (point_cmp q)) es
lookup_alike p q e [] = refl
lookup_alike p q e (x ∷ xs) =
    ap (λ o. cond (is_eq o) (Some x.1) (lookup (is_at (point_cmp p)) xs)) (point_total.congr p q x.0 e)
    ∙ ap (λ r. cond (is_eq (point_cmp q x.0)) (Some x.1) r) (lookup_alike p q e xs)

pub get_alike : {X : Type 0} (m : BTreeMap Point X) (p q : Point) → is_same p q ≡ true → tree.get point_cmp m p ≡
    tree.get point_cmp m q
get_alike m p q e = lookup_alike p q (is_equal (point_cmp p q) e) m.entries
