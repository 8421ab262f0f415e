-- The masks of a cut's points.
use Rattle.std.proofs.Common.{◌≡◌, ℕ, nat_le, nat_lt, true, List, [], ◌∷◌, ◌++◌, inl, inr, refl, sym}
use Rattle.std.proofs.Common.{◌∙◌, ap}
use Rattle.std.specs.Prelude.{bit_and}
use Rattle.std.specs.List.{list_all}
use Rattle.std.specs.Int.Bits.{and_self, and_zero_l}
use Rattle.std.proofs.lemmas.Nat.{and_assoc}
use Rattle.std.proofs.lemmas.Bool.{and_parts, cases_Bool, cond-false, cond-true}
use Rattle.flow_base.specs.declared.points.Point.{Point}
use Rattle.flow_base.specs.PointOrders.{is_below, is_same}
use Rattle.flow_base.specs.Points.{is_slot, width_of}
use Rattle.flow_base.proofs.PointOrders.{below_other, below_trans, one_if_same, same_self}
use Rattle.cut_file.specs.declared.points.CutPoint.{CutPoint}
use Rattle.cut_file.specs.Cuts.{are_points, is_cut_point, is_point, neighbours_pass, stands_before}
use Rattle.cut_file.specs.Masks.{MaskAt, listed_mask, mask_of}

-- what stands first stands before all others
pub first_below : (first : CutPoint) (before after : List CutPoint) (cut_point : CutPoint) →
    neighbours_pass stands_before (first ∷ (before ++ (cut_point ∷ after))) ≡ true →
    is_below first.point cut_point.point ≡ true
first_below first [] after cut_point known = (and_parts (is_below first.point cut_point.point) _ known).0
first_below first (second ∷ before) after cut_point known =
    let both = and_parts (is_below first.point second.point) _ known in
    below_trans first.point second.point cut_point.point both.0 (first_below second before after cut_point both.1)

pub neighbours_behind : (first : CutPoint) (others : List CutPoint) →
    neighbours_pass stands_before (first ∷ others) ≡ true →
    neighbours_pass stands_before others ≡ true
neighbours_behind first [] known = refl
neighbours_behind first (second ∷ others) known = (and_parts (is_below first.point second.point) _ known).1

own_mask : (before after : List CutPoint) (cut_point : CutPoint) (visit : ℕ) →
    neighbours_pass stands_before (before ++ (cut_point ∷ after)) ≡ true →
    MaskAt (before ++ (cut_point ∷ after)) cut_point.point visit ≡ mask_of cut_point visit
own_mask [] after cut_point visit known =
    cond-true (is_same cut_point.point cut_point.point) (mask_of cut_point visit)
    (MaskAt after cut_point.point visit) (same_self cut_point.point)
own_mask (first ∷ before) after cut_point visit known =
    cond-false (is_same first.point cut_point.point) (mask_of first visit) (MaskAt (before ++
    (cut_point ∷ after)) cut_point.point visit)
    (below_other first.point cut_point.point (first_below first before after cut_point known))
    ∙ own_mask before after cut_point visit (neighbours_behind first (before ++ (cut_point ∷ after)) known)

pub mask_own : (before after : List CutPoint) (cut_point : CutPoint) (visit : ℕ) →
    are_points (before ++ (cut_point ∷ after)) ≡ true →
    MaskAt (before ++ (cut_point ∷ after)) cut_point.point visit ≡ mask_of cut_point visit
mask_own before after cut_point visit known =
    own_mask before after cut_point visit (and_parts (list_all is_cut_point (before ++
    (cut_point ∷ after))) _ known).1

-- ---- the widths

within : (mask width : ℕ) → bit_and (bit_and mask width) width ≡ bit_and mask width
within mask width = and_assoc width mask width ∙ ap (bit_and mask) (and_self width)

pub slot_known : (cut_point : CutPoint) → is_cut_point cut_point ≡ true → is_slot cut_point.point.slot ≡ true
slot_known cut_point known =
    let place = and_parts (is_point cut_point.point) _ known in
    let address = and_parts (nat_le cut_point.point.region 65535) _ place.0 in
    (and_parts (nat_lt cut_point.point.address 4294967296) (is_slot cut_point.point.slot) address.1).1

mask_within_all : (points : List CutPoint) (point : Point) (visit : ℕ) → list_all is_cut_point points ≡ true →
    is_slot point.slot ≡ true →
    bit_and (MaskAt points point visit) (width_of point.slot) ≡ MaskAt points point visit
mask_within_all [] point visit known slot = and_zero_l (width_of point.slot)
mask_within_all (first ∷ points) point visit known slot =
    let both = and_parts (is_cut_point first) (list_all is_cut_point points) known in
    elim (cases_Bool (is_same first.point point)) [
      | inl same ↦
          let width : width_of first.point.slot ≡ width_of point.slot =
          ap (λ (p : Point). width_of p.slot) (one_if_same first.point point same) in
          let here : MaskAt (first ∷ points) point visit ≡ mask_of first visit =
          cond-true (is_same first.point point) (mask_of first visit) (MaskAt points point visit) same in
          ap (λ (m : ℕ). bit_and m (width_of point.slot)) here
          ∙ ap (λ (w : ℕ). bit_and (mask_of first visit) w) (sym width)
          ∙ within (listed_mask first visit) (width_of first.point.slot)
          ∙ sym here
      | inr other ↦
          let there : MaskAt (first ∷ points) point visit ≡ MaskAt points point visit =
          cond-false (is_same first.point point) (mask_of first visit) (MaskAt points point visit) other in
          ap (λ (m : ℕ). bit_and m (width_of point.slot)) there ∙ mask_within_all points point visit both.1 slot
          ∙ sym there
    ]

pub mask_within : (points : List CutPoint) (point : Point) (visit : ℕ) → are_points points ≡ true →
    is_slot point.slot ≡ true →
    bit_and (MaskAt points point visit) (width_of point.slot) ≡ MaskAt points point visit
mask_within points point visit known slot = mask_within_all points point visit (and_parts
    (list_all is_cut_point points) _ known).0 slot
