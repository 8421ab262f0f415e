-- Masks beside a machine, where bits cross at a cut. A mask tells which bits of a value may differ in another run that
-- crosses with the same bits; it is kept as a label at no point. What passes keeps of its mask the bits that do not cross
-- there, and what it goes to gets that mask.
use Rattle.std.specs.Prelude.{ℕ, Bool, true, false, List, ◌∷◌, bit_and}
use Rattle.flow_base.specs.declared.points.Point.{Point}
use Rattle.flow_base.specs.declared.points.Slot.{Slot}
use Rattle.flow_base.specs.Points.{width_of, nowhere}
use Rattle.rv32im_machine.specs.declared.language.Aim.{Aim}
use Rattle.rv32im_machine.specs.declared.language.Aim.TheVariants.{Put, Decide, Give}
use Rattle.rv32im_machine.specs.declared.language.Passing.{Passing}
use Rattle.rv32im_machine.specs.Language.{Walk, Looked, Passed, Moved, Saved, Restored, Ended, first_of}
use Rattle.replay_machine.specs.Runs.{Masks, mask_at}
use Rattle.shadow_masks.specs.Pages.{label_of}
use Rattle.shadow_masks.specs.Writes.{LabelMap}
use Rattle.run_labels.specs.Masks.{masks_of, work_mask, answers_after, moved_label}
use Rattle.run_labels.specs.TurnLabels.{TurnLabels, aim_label, put_label, save_labels, restore_labels}
use Rattle.transfer_rules.specs.Table1.{flipped}

-- ---- one passing

-- of a mask the bits that do not cross
abbrev pub uncrossed : ℕ → ℕ → ℕ
uncrossed mask crossing = bit_and mask (flipped crossing)

-- an output of a region has the mask of its place, and of a region that is skipped every bit of its slot
abbrev pub output_mask : Bool → Slot → ℕ → ℕ
output_mask true slot mask = width_of slot
output_mask false slot mask = mask

abbrev pub aimed_mask : Bool → Aim → Slot → ℕ → ℕ
aimed_mask skipped (Put place) slot mask = mask
aimed_mask skipped Decide slot mask = mask
aimed_mask skipped (Give place) slot mask = output_mask skipped slot mask

-- the mask of a passing before bits cross there, where the rules' next answer is this
abbrev pub passing_mask : Bool → TurnLabels → ℕ → Passing → ℕ
passing_mask skipped labels answer passing =
    aimed_mask skipped passing.aim passing.point.slot
    (work_mask passing.work (masks_of labels passing.sources) answer)

-- and what is left of it where these bits cross
abbrev pub left_mask : Bool → ℕ → TurnLabels → ℕ → Passing → ℕ
left_mask skipped crossing labels answer passing = uncrossed (passing_mask skipped labels answer passing) crossing

-- what the value goes to gets that mask
abbrev pub labels_left : Bool → ℕ → TurnLabels → ℕ → Passing → TurnLabels
labels_left skipped crossing labels answer passing =
    aim_label passing.aim (label_of (left_mask skipped crossing labels answer passing) nowhere) labels

-- ---- a turn in which every value goes on as it is

-- the masks of a cut at the visits of points, and whether the outputs that pass are those of a skipped region
pub record Cutting : Type 0 where
  pub masks : Masks
  pub skipped : Bool

-- the bits that cross at the next visit of a point
abbrev pub crossing_at : Cutting → List Point → Passing → ℕ
crossing_at cutting past passing = mask_at cutting.masks past passing.point

abbrev pub labels_passed : Cutting → List Point → TurnLabels → ℕ → Passing → TurnLabels
labels_passed cutting past labels answer passing =
    labels_left cutting.skipped (crossing_at cutting past passing) labels answer passing

-- the masks after it, where these points have been passed before it, the latest first
unfoldable pub cleared_in : Cutting → List Point → TurnLabels → List ℕ → Walk → LabelMap
cleared_in cutting past labels answers (Looked seen value walk) = cleared_in cutting past labels answers walk
cleared_in cutting past labels answers (Passed passing go) =
    cleared_in cutting (passing.point ∷ past) (labels_passed cutting past labels (first_of answers) passing)
    (answers_after passing.work answers) (go passing.value)
cleared_in cutting past labels answers (Moved place shape source value walk) =
    cleared_in cutting past (put_label place (moved_label labels shape source) labels) answers walk
cleared_in cutting past labels answers (Saved walk) = cleared_in cutting past (save_labels labels) answers walk
cleared_in cutting past labels answers (Restored registers walk replayed) =
    cleared_in cutting past (restore_labels registers labels) answers walk
cleared_in cutting past labels answers (Ended state) = labels.map
