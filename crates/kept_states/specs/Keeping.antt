-- What a kept state says of a machine, a shadow and visits.
use Rattle.std.specs.Prelude.{◌≡◌, ℕ, ◌+◌, ◌-◌, ◌<◌, nat_le, List, length, slice_index, slice_index_or, if◌then◌else◌}
use Rattle.flow_base.specs.Guests.{memory_size}
use Rattle.cut_file.specs.declared.points.CutPoint.{CutPoint}
use Rattle.rv32im_machine.specs.State.{Setting, State}
use Rattle.rv32im_machine.specs.Standing.{FitsSetting, stand_of}
use Rattle.replay_machine.specs.Visits.{SameAhead}
use Rattle.shadow_masks.specs.declared.labels.Label.{Label}
use Rattle.shadow_masks.specs.Shades.{Shades, byte_label, kept_label, register_label}
use Rattle.kept_states.specs.declared.kept_states.KeptState.{KeptState}
use Rattle.kept_states.specs.declared.laids.Laid.{Laid}
use Rattle.kept_states.specs.Laids.{LieWithin, laid_byte}

-- a byte of guest memory, by its distance from the base
abbrev pub memory_byte : State → ℕ → ℕ
memory_byte state index = slice_index state.store.memory index

-- its mask
abbrev pub mask_byte : Shades → ℕ → ℕ
mask_byte shades index = (byte_label shades (shades.base + index)).mask

-- the masks of the labels of the 32 registers
abbrev pub AreMasksOf : (ℕ → Label) → List ℕ → Type 0
AreMasksOf label masks = (register : ℕ) → register < 32 → (label register).mask ≡ slice_index masks register

-- each byte of guest memory is the one that is laid
pub record AreLaid (pieces : List ℕ) (laids : List Laid) (memory : List ℕ) : Type 0 where
  pub size : length memory ≡ memory_size
  pub same : (index : ℕ) → index < memory_size → slice_index memory index ≡ laid_byte pieces laids index

-- the mask of a byte, by its distance from the base; outside memory it is 0
abbrev pub laid_mask : List ℕ → List Laid → ℕ → ℕ → ℕ
laid_mask pieces laids base address = if nat_le base address then laid_byte pieces laids (address - base) else 0

-- the masks of all bytes are those that are laid
abbrev pub AreLaidMasks : List ℕ → List Laid → Shades → Type 0
AreLaidMasks pieces laids shades =
    (address : ℕ) → (byte_label shades address).mask ≡ laid_mask pieces laids shades.base address

-- the state can be put back into a machine with this setting
pub record CanReturn (pieces : List ℕ) (kept : KeptState) (setting : Setting) : Type 0 where
  pub fits : FitsSetting setting kept.standing
  pub zero : slice_index kept.register_masks 0 ≡ 0
  pub kept_zero : slice_index kept.kept_masks 0 ≡ 0
  pub memory : LieWithin pieces kept.memory
  pub masks : LieWithin pieces kept.masks

-- with these pieces it says all of a state, of the masks of a shadow, of visits and of free bits
pub record Keeps (pieces : List ℕ) (kept : KeptState) (state : State) (shades : Shades) (ahead : List CutPoint)
    (free_bits : List ℕ) (free_status : ℕ) : Type 0 where
  pub standing : kept.standing ≡ stand_of state
  pub memory : AreLaid pieces kept.memory state.store.memory
  pub begins : shades.base ≡ state.setting.base
  pub masks : AreLaidMasks pieces kept.masks shades
  pub registers : AreMasksOf (register_label shades) kept.register_masks
  pub kept_registers : AreMasksOf (kept_label shades) kept.kept_masks
  pub visits : SameAhead kept.visits ahead
  pub byte_masks : kept.byte_masks ≡ free_bits
  pub status_mask : kept.status_mask ≡ free_status
  pub returns : CanReturn pieces kept state.setting

-- two walks stand in one state, and the same masks are before them
pub record StandAlike (state other : State) (shades others : Shades) (ahead later : List CutPoint)
    (free_bits other_bits : List ℕ) (free_status other_status : ℕ) : Type 0 where
  pub states : state ≡ other
  pub masks : (address : ℕ) → (byte_label shades address).mask ≡ (byte_label others address).mask
  pub registers : (register : ℕ) → register < 32 →
      (register_label shades register).mask ≡ (register_label others register).mask
  pub kept_registers : (register : ℕ) → register < 32 →
      (kept_label shades register).mask ≡ (kept_label others register).mask
  pub visits : SameAhead ahead later
  pub byte_masks : free_bits ≡ other_bits
  pub status_mask : free_status ≡ other_status

-- the state at an index of a list
pub record StandsAt (states : List KeptState) (index : ℕ) (kept : KeptState) : Type 0 where
  pub below : index < length states
  pub same : slice_index_or states index kept ≡ kept

-- the labels of registers stay, and where memory begins
pub record KeepsLabels (old new : Shades) : Type 0 where
  pub registers : new.registers ≡ old.registers
  pub kept : new.kept ≡ old.kept
  pub begins : new.base ≡ old.base

-- the labels of bytes stay, those of registers that were kept, and where memory begins
pub record KeepsPages (old new : Shades) : Type 0 where
  pub pages : new.pages ≡ old.pages
  pub kept : new.kept ≡ old.kept
  pub begins : new.base ≡ old.base
