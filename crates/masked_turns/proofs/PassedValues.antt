-- A value passes beside that of a replay, which agrees with it outside a mask.
use Rattle.std.proofs.Common.{◌≡◌, ℕ, ◌≤◌, None, subst, arith}
use Rattle.flow_base.specs.declared.points.Point.{Point}
use Rattle.flow_base.specs.Points.{width_of, nowhere}
use Rattle.flow_base.specs.Words.{Agree}
use Rattle.rv32im_machine.specs.declared.language.Aim.TheVariants.{Decide}
use Rattle.rv32im_machine.specs.declared.language.Place.{Place}
use Rattle.rv32im_machine.specs.Language.{Held, hold, put}
use Rattle.rv32im_machine.specs.State.{Store}
use Rattle.run_labels.specs.TurnLabels.{TurnLabels, put_label}
use Rattle.shadow_masks.specs.Pages.{label_of}
use Rattle.acceptance_law.specs.Inputs.{FitsPlace, place_limit}
use Rattle.acceptance_law.proofs.AgreeOutsideMask.{agree_zero}
use Rattle.acceptance_law.proofs.Turns.{label_of_limit}
use Rattle.acceptance_law.proofs.WritesKeepRelation.{Beside, put_beside}
use Rattle.masked_turns.specs.Deciding.{left_at}
use Rattle.masked_turns.proofs.OutsideMasks.{close_of, decided_none, everything}

-- what is decided without a reason is equal
pub decided_equal : (point : Point) (mask value other : ℕ) → Agree mask value other → left_at Decide point mask ≡ None →
    value ≡ other
decided_equal point mask value other agree none =
    agree_zero value other (subst (λ m. Agree m value other) (decided_none point mask none) agree)

-- and what goes on stands beside the other
pub put_agreed : (base : ℕ) (labels : TurnLabels) (real : Store) (held : Held) (copy : Store) (taken : Held) →
    Beside everything base labels real held copy taken → (point : Point) (place : Place) → FitsPlace base point place →
    (mask value other : ℕ) → mask ≤ width_of point.slot → value ≤ width_of point.slot → other ≤ width_of point.slot →
    Agree mask value other →
    Beside everything base (put_label place (label_of mask nowhere) labels) (put base place value real)
    (hold place value held) (put base place other copy) (hold place other taken)
put_agreed base labels real held copy taken beside point place fits mask value other mask_fits value_fits other_fits
    agree =
    let width = fits.1 in
    let narrow : mask ≤ place_limit place = omega (arith, mask_fits, width) in
    put_beside everything base place (label_of mask nowhere) value other labels real held copy taken fits.0
    (close_of mask value other agree) (omega (arith, value_fits, width)) (omega (arith, other_fits, width))
    (label_of_limit mask nowhere (place_limit place) narrow) beside
