-- A visit of which nothing comes: no bit crosses there, nothing is shown, and no bit of its value may differ.
use Rattle.std.specs.Prelude.{◌≡◌, ◌<◌, ◌^◌, ℕ, Bool, false, List, [], ◌∷◌}
use Rattle.cut_file.specs.declared.points.CutPoint.{CutPoint}
use Rattle.cut_file.specs.Masks.{MaskAt}
use Rattle.rv32im_machine.specs.declared.language.Aim.{Aim}
use Rattle.rv32im_machine.specs.declared.language.Aim.TheVariants.{Put, Decide, Give}
use Rattle.rv32im_machine.specs.declared.language.Passing.{Passing}
use Rattle.rv32im_machine.specs.declared.language.Place.{Place}
use Rattle.rv32im_machine.specs.declared.language.Place.TheVariants.{Register, Byte, First, Second}
use Rattle.rv32im_machine.specs.declared.language.Work.{Work}
use Rattle.rv32im_machine.specs.declared.language.Work.TheVariants.{Shaped, Computed}
use Rattle.shadow_masks.specs.Labels.{clean}
use Rattle.run_labels.specs.Masks.{masks_of}
use Rattle.run_labels.specs.TurnLabels.{TurnLabels}
use Rattle.every_secret.specs.declared.shown.Shown.TheVariants.{Nothing}
use Rattle.every_secret.specs.Shown.{shown_at}

-- the operands of what is computed are words
abbrev pub AreOfWords : Work → Type 0
AreOfWords (Shaped shape) = Unit {0}
AreOfWords (Computed operation first second) = (first < 2 ^ 32) × (second < 2 ^ 32)

-- each of the masks is 0
abbrev pub AreZero : List ℕ → Type 0
AreZero [] = Unit {0}
AreZero (mask ∷ masks) = (mask ≡ 0) × AreZero masks

-- a place has the clean label, or is an operand of the turn
abbrev pub IsSettled : TurnLabels → Place → Type 0
IsSettled labels (Register register) = labels.map.registers register ≡ clean
IsSettled labels (Byte address) = labels.map.bytes address ≡ clean
IsSettled labels First = Unit {0}
IsSettled labels Second = Unit {0}

-- so is what a value goes to, if it goes to a place, and no region is skipped that gives it out
abbrev pub IsSettledAim : Bool → TurnLabels → Aim → Type 0
IsSettledAim skipped labels (Put place) = IsSettled labels place
IsSettledAim skipped labels Decide = Unit {0}
IsSettledAim skipped labels (Give place) = (skipped ≡ false) × IsSettled labels place

pub record IsIdle (ahead : List CutPoint) (skipped : Bool) (labels : TurnLabels) (passing : Passing) : Type 0 where
  pub unseen : shown_at passing.point.slot ≡ Nothing
  pub aim : IsSettledAim skipped labels passing.aim
  pub unmarked : (visit : ℕ) → MaskAt ahead passing.point visit ≡ 0
  pub sources : AreZero (masks_of labels passing.sources)
