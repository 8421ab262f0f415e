-- What the numbers of a valid cut are: its masks are words, and it skips no region of number 0.
use Rattle.std.proofs.Common.{◌≡◌, ℕ, zero, suc, ◌^◌, ◌<◌, Bool, true, false, List, [], ◌∷◌, refl, ap, ◌∙◌, arith}
use Rattle.std.specs.List.{list_all}
use Rattle.std.specs.Prelude.{◌==◌, ◌||◌, nat_le, if◌then◌else◌}
use Rattle.std.proofs.lemmas.Bool.{and_parts, ne_eqb}
use Rattle.std.proofs.lemmas.Nat.{and_le_r}
use Rattle.flow_base.specs.PointOrders.{is_same}
use Rattle.flow_base.specs.Points.{width_of, is_region_number}
use Rattle.cut_file.specs.Cuts.{CutPicture, are_points_of, are_regions as are_cut_regions, is_cut_picture}
use Rattle.cut_file.specs.Cuts.{is_version, is_word}
use Rattle.cut_file.specs.declared.points.CutPoint.{CutPoint}
use Rattle.cut_file.specs.Masks.{MaskAt, listed_mask, mask_of}
use Rattle.acceptance_law.proofs.Passings.{slot_word}
use Rattle.masked_turns.proofs.OutsideMasks.{AreSmall}
use Rattle.flow_base.specs.Listed.{is_listed}

pub small_masks : (points : List CutPoint) → AreSmall (MaskAt points)
small_masks [] point visit = omega arith
small_masks (cut_point ∷ points) point visit =
    pick (is_same cut_point.point point) (small_masks points point visit)
  where
    pick : (t : Bool) → MaskAt points point visit < 2 ^ 32 →
        (if t then mask_of cut_point visit else MaskAt points point visit) < 2 ^ 32
    pick true later =
        slot_word cut_point.point.slot (mask_of cut_point visit)
        (and_le_r (listed_mask cut_point visit) (width_of cut_point.point.slot))
    pick false later = later

never_zero : (skip : List ℕ) → list_all is_region_number skip ≡ true → is_listed skip 0 ≡ false
never_zero [] all = refl
never_zero (number ∷ skip) all =
    let both = and_parts (is_region_number number) (list_all is_region_number skip) all in
    ap (λ t. t || is_listed skip 0) (some number both.0) ∙ never_zero skip both.1
  where
    some : (number : ℕ) → is_region_number number ≡ true → (number == 0) ≡ false
    some zero is = absurd (cc)
    some (suc number) is = ne_eqb (suc number) 0 (λ same. omega (arith, same))

pub valid_skip : (cut : CutPicture) → is_cut_picture cut ≡ true → is_listed cut.skip 0 ≡ false
valid_skip cut valid =
    let a = and_parts (is_version cut.version) _ valid in
    let b = and_parts (nat_le cut.secret_len 65536) _ a.1 in
    let c = and_parts (is_word cut.bits) _ b.1 in
    let d = and_parts (are_cut_regions cut.skip) (are_points_of cut.version cut.points) c.1 in
    never_zero cut.skip (and_parts (list_all is_region_number cut.skip) _ d.0).0
