-- The labels within a turn, of a shadow and the operands of the turn; and the masks of the sources of a passing.
use Rattle.std.specs.Prelude.{◌≡◌, ◌≤◌, ℕ, Bool, true, false, List, [], ◌∷◌}
use Rattle.rv32im_machine.specs.declared.language.Aim.{Aim}
use Rattle.rv32im_machine.specs.declared.language.Aim.TheVariants.{Put, Decide, Give}
use Rattle.rv32im_machine.specs.declared.language.Place.{Place}
use Rattle.rv32im_machine.specs.declared.language.Place.TheVariants.{Register, Byte, First, Second}
use Rattle.rv32im_machine.specs.declared.language.Shape.{Shape}
use Rattle.rv32im_machine.specs.declared.language.Shape.TheVariants.{Copied, Extended, Part}
use Rattle.rv32im_machine.specs.declared.language.Work.{Work}
use Rattle.rv32im_machine.specs.declared.language.Work.TheVariants.{Shaped, Computed}
use Rattle.rv32im_machine.specs.Language.{first_of, second_of}
use Rattle.rv32im_machine.specs.State.{joined}
use Rattle.shadow_masks.specs.Labels.{clean}
use Rattle.shadow_masks.specs.Shades.{Shades, register_label, kept_label, byte_label}
use Rattle.shadow_masks.specs.Writes.{LabelMap}
use Rattle.run_labels.specs.TurnLabels.{TurnLabels}
use Rattle.tracked_run.specs.declared.held.Held.{Held}
use Rattle.tracked_run.specs.declared.source_masks.SourceMasks.{SourceMasks}

-- the map that a shadow is
abbrev pub map_of : Shades → LabelMap
map_of shades = record { registers = register_label shades; kept = kept_label shades; bytes = byte_label shades }

abbrev pub clean_held : Held
clean_held = record { first = clean; second = clean }

abbrev pub labels_of : Shades → Held → TurnLabels
labels_of shades held = record { map = map_of shades; first = held.first; second = held.second }

abbrev pub masks_in_order : SourceMasks → List ℕ
masks_in_order masks = masks.first ∷ masks.second ∷ masks.third ∷ masks.fourth ∷ []

-- these are the masks of the list, and 0 past its end
pub record AreMasks (masks : SourceMasks) (list : List ℕ) : Type 0 where
  pub first : masks.first ≡ first_of list
  pub second : masks.second ≡ second_of list
  pub all : joined (masks_in_order masks) ≡ joined list

-- each is the mask of a byte
pub record AreByteMasks (masks : SourceMasks) : Type 0 where
  pub first : masks.first ≤ 255
  pub second : masks.second ≤ 255
  pub third : masks.third ≤ 255
  pub fourth : masks.fourth ≤ 255

-- the masks that may be shaped so: only those of bytes are joined
abbrev pub MayShape : Shape → SourceMasks → Type 0
MayShape Copied masks = Unit {0}
MayShape (Extended kind) masks = AreByteMasks masks
MayShape (Part part) masks = Unit {0}

abbrev pub MayMake : Work → SourceMasks → Type 0
MayMake (Shaped shape) masks = MayShape shape masks
MayMake (Computed operation first second) masks = Unit {0}

-- whether a place is a byte of memory: labels of bytes stand in pages, and memory is wanted for these alone
abbrev pub is_byte : Place → Bool
is_byte (Register register) = false
is_byte (Byte address) = true
is_byte First = false
is_byte Second = false

abbrev pub goes_to_byte : Aim → Bool
goes_to_byte (Put place) = is_byte place
goes_to_byte Decide = false
goes_to_byte (Give place) = is_byte place

-- a mask that a place may have: that of a byte has at most 8 bits
abbrev pub IsMaskAt : Place → ℕ → Type 0
IsMaskAt (Register register) mask = Unit {0}
IsMaskAt (Byte address) mask = mask ≤ 255
IsMaskAt First mask = Unit {0}
IsMaskAt Second mask = Unit {0}

abbrev pub IsMaskFor : Aim → ℕ → Type 0
IsMaskFor (Put place) mask = IsMaskAt place mask
IsMaskFor Decide mask = Unit {0}
IsMaskFor (Give place) mask = IsMaskAt place mask
