-- A turn in which nothing comes of most visits: no bit crosses at its instruction, and no register or operand may differ.
use Rattle.std.specs.Prelude.{◌≡◌, ◌<◌, ◌^◌, ℕ, Bool, false, List, Option, None}
use Rattle.cut_file.specs.declared.points.CutPoint.{CutPoint}
use Rattle.cut_file.specs.Masks.{MaskAt}
use Rattle.flow_base.specs.declared.points.Point.{Point}
use Rattle.rv32im_machine.specs.declared.language.Aim.{Aim}
use Rattle.rv32im_machine.specs.declared.language.Aim.TheVariants.{Put, Decide, Give}
use Rattle.rv32im_machine.specs.declared.language.Passing.{Passing}
use Rattle.rv32im_machine.specs.declared.language.Place.{Place}
use Rattle.rv32im_machine.specs.declared.language.Place.TheVariants.{Register, Byte, First, Second}
use Rattle.rv32im_machine.specs.declared.language.Source.{Source}
use Rattle.rv32im_machine.specs.declared.language.Source.TheVariants.{At, Constant, Secret}
use Rattle.rv32im_machine.specs.declared.language.Sources.{Sources}
use Rattle.rv32im_machine.specs.declared.language.Sources.TheVariants.{One, Two, Byte as BytesOne, Half as BytesTwo, Word as BytesFour}
use Rattle.shadow_masks.specs.Labels.{clean}
use Rattle.run_labels.specs.TurnLabels.{TurnLabels}
use Rattle.every_secret.specs.declared.shown.Shown.TheVariants.{Nothing}
use Rattle.every_secret.specs.declared.whys.UnclearWhy.{UnclearWhy}
use Rattle.every_secret.specs.Shown.{shown_at}

pub record RestsAt (address : ℕ) (skipped : Bool) (ahead : List CutPoint) (labels : TurnLabels)
    (unclear : Option UnclearWhy) : Type 0 where
  pub registers : (register : ℕ) → labels.map.registers register ≡ clean
  pub first : labels.first ≡ clean
  pub second : labels.second ≡ clean
  pub unmarked : (point : Point) (visit : ℕ) → point.address ≡ address → MaskAt ahead point visit ≡ 0
  pub whole : skipped ≡ false
  pub clear : unclear ≡ None

-- so it is if the number is an address; 2^32 is none
abbrev pub Rests : ℕ → Bool → List CutPoint → TurnLabels → Option UnclearWhy → Type 0
Rests rest skipped ahead labels unclear = rest < 2 ^ 32 → RestsAt rest skipped ahead labels unclear

-- a place is a register or an operand of the turn
abbrev pub IsInner : Place → Type 0
IsInner (Register register) = Unit {0}
IsInner (Byte address) = ⊥
IsInner First = Unit {0}
IsInner Second = Unit {0}

abbrev pub IsInnerAim : Aim → Type 0
IsInnerAim (Put place) = IsInner place
IsInnerAim Decide = Unit {0}
IsInnerAim (Give place) = ⊥

abbrev pub IsInnerSource : Source → Type 0
IsInnerSource (At place) = IsInner place
IsInnerSource (Constant value) = Unit {0}
IsInnerSource (Secret index) = ⊥

abbrev pub AreInner : Sources → Type 0
AreInner (One source) = IsInnerSource source
AreInner (Two first second) = IsInnerSource first × IsInnerSource second
AreInner (BytesOne address) = ⊥
AreInner (BytesTwo address) = ⊥
AreInner (BytesFour address) = ⊥

-- a visit of the instruction at this address passes nothing but registers, operands and numbers, and shows nothing
pub record PassesInside (rest : ℕ) (passing : Passing) : Type 0 where
  pub address : passing.point.address ≡ rest
  pub small : rest < 2 ^ 32
  pub unseen : shown_at passing.point.slot ≡ Nothing
  pub aim : IsInnerAim passing.aim
  pub sources : AreInner passing.sources

-- where this moves to a place no register gets another label than the clean one
abbrev pub IsBeside : Place → Source → Type 0
IsBeside place (Constant value) = Unit {0}
IsBeside (Byte address) (At other) = Unit {0}
IsBeside (Byte address) (Secret index) = Unit {0}
IsBeside (Register register) (At other) = ⊥
IsBeside (Register register) (Secret index) = ⊥
IsBeside First (At other) = ⊥
IsBeside First (Secret index) = ⊥
IsBeside Second (At other) = ⊥
IsBeside Second (Secret index) = ⊥
