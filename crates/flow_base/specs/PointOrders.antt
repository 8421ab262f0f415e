-- The order of points, and which of them are the same.
use Rattle.std.specs.Prelude.{◌≡◌, Bool, true}
use Rattle.std.specs.Ordering.{eq_by_cmp, is_lt, nat_cmp, ordering_then}
use Rattle.std.specs.declared.cmp.Ordering.{Ordering}
use Rattle.flow_base.specs.declared.points.Point.{Point}
use Rattle.flow_base.specs.contracts.points.PointOrd.TheImpl as point_ord
use Rattle.flow_base.specs.Points.{is_slot, slot_number}

-- the order of points: by region, address and slot
abbrev pub point_cmp : Point → Point → Ordering
point_cmp = (point_ord.ghosts).cmp

abbrev pub is_same : Point → Point → Bool
is_same p q = eq_by_cmp point_cmp p q

abbrev pub is_below : Point → Point → Bool
is_below p q = is_lt (point_cmp p q)

-- points are the same where they are one
abbrev pub AreSameWhereOne : Type 0
AreSameWhereOne = (p q : Point) → (is_same p q ≡ true → p ≡ q) × (p ≡ q → is_same p q ≡ true)

-- points with slots that turns pass are ordered by region, then address, then the number of the slot
abbrev pub AreOrderedByNumber : Type 0
AreOrderedByNumber =
    (p q : Point) → is_slot p.slot ≡ true → is_slot q.slot ≡ true →
    point_cmp p q
    ≡ ordering_then (nat_cmp p.region q.region)
    (ordering_then (nat_cmp p.address q.address) (nat_cmp (slot_number p.slot) (slot_number q.slot)))
