-- The cut of a run and a side: it is split where the side splits points, with the masks of the run.
use Rattle.std.specs.Prelude.{◌≡◌, ℕ, ◌&&◌, not, Bool, true, false, cond, List, [], ◌∷◌, ◌++◌, bit_or}
use Rattle.std.specs.List.{list_any, AllByRecursion}
use Rattle.flow_base.specs.declared.points.Point.{Point}
use Rattle.flow_base.specs.declared.points.Slot.{Slot}
use Rattle.flow_base.specs.declared.points.Slot.TheVariants.{First, Second, Address, Result, Decision}
use Rattle.cut_file.specs.declared.points.CutPoint.{CutPoint}
use Rattle.cut_file.specs.Cuts.{CutPicture}
use Rattle.cut_file.specs.Masks.{listed_masks}
use Rattle.flow_graph.specs.declared.events.Event.{Event}
use Rattle.flow_graph.specs.declared.events.Event.TheVariants.{Pass}
use Rattle.flow_base.specs.PointOrders.{is_same}
use Rattle.acceptance_law.specs.Sides.{NamedSide, is_split}
use Rattle.flow_base.specs.Listed.{is_listed}

-- ---- the masks of a point

abbrev pub mask_at_event : Point → Event → List ℕ
mask_at_event point (Pass other mask) = cond (is_same point other) (mask ∷ []) []
mask_at_event point event = []

-- the masks of the visits of a point, in order; those of mask 0 too
unfoldable pub visit_masks : Point → List Event → List ℕ
visit_masks point [] = []
visit_masks point (event ∷ events) = mask_at_event point event ++ visit_masks point events

-- the bits that some of the masks have
unfoldable pub united : List ℕ → ℕ
united [] = 0
united (mask ∷ masks) = bit_or mask (united masks)

-- ---- the points

-- the slots of instructions that are no calls: both operands, an address, a result and a decision
abbrev pub is_instruction_slot : Slot → Bool
is_instruction_slot First = true
is_instruction_slot Second = true
is_instruction_slot Address = true
is_instruction_slot Result = true
is_instruction_slot Decision = true
is_instruction_slot slot = false

-- a point that the replay never visits, where these regions are skipped: such a slot inside one of them; a call breaks
-- the region that it is made in
abbrev pub is_inner : List ℕ → Point → Bool
is_inner skip point = is_listed skip point.region && is_instruction_slot point.slot

abbrev pub names_point : List CutPoint → Point → Bool
names_point points point = list_any (λ cut_point. is_same cut_point.point point) points

-- a point of the cut has the masks of its visits in the run, and after them their union
pub record HasVisitMasks (events : List Event) (cut_point : CutPoint) : Type 0 where
  pub masks : listed_masks cut_point.runs ≡ visit_masks cut_point.point events
  pub rest : cut_point.rest ≡ record { count = 1; mask = united (visit_masks cut_point.point events) } ∷ []

-- the cut of a run, whose secret has this length and whose turns add these events, and a side with this capacity
pub record IsCutOf (secret_len : ℕ) (events : List Event) (side : NamedSide) (capacity : ℕ) (cut : CutPicture) :
    Type 0 where
  pub version : cut.version ≡ 1
  pub length : cut.secret_len ≡ secret_len
  pub bits : cut.bits ≡ capacity
  pub skip : (region : ℕ) → is_listed cut.skip region ≡ side.relay region
  pub points : (point : Point) → names_point cut.points point ≡ (is_split side point && not (is_inner cut.skip point))
  pub masks : AllByRecursion (HasVisitMasks events) cut.points
