-- What a shadow holds, and what the calls that change it do.
use Rattle.std.specs.Prelude.{◌≡◌, ◌≢◌, ℕ, ◌+◌, ◌-◌, ◌/◌, ◌%◌, ◌<◌, ◌==◌, ◌&&◌, nat_lt, nat_le, List}
use Rattle.std.specs.Prelude.{Bool, false, Option, None}
use Rattle.std.specs.Prelude.{if◌then◌else◌, slice_index_or, length}
use Rattle.shadow_masks.specs.declared.labels.Label.{Label}
use Rattle.shadow_masks.specs.Labels.{clean}
use Rattle.shadow_masks.specs.Points.{page_size}
use Rattle.shadow_masks.specs.Pages.{PageShades, label_in, is_in_range, listed_label}
use Rattle.flow_base.specs.Listed.{is_listed}

-- the labels of the 32 registers, those that were kept, where memory begins, and the pages of memory; None is a page in
-- which no label with a mask other than 0 was ever set
pub record Shades : Type 0 where
  pub registers : List Label
  pub kept : List Label
  pub base : ℕ
  pub pages : List (Option PageShades)

-- the label of a register
abbrev pub register_label : Shades → ℕ → Label
register_label shades register = slice_index_or shades.registers register clean

-- the label of a register that was kept
abbrev pub kept_label : Shades → ℕ → Label
kept_label shades register = slice_index_or shades.kept register clean

-- the page of an address
abbrev pub page_at : List (Option PageShades) → ℕ → Option PageShades
page_at pages number = slice_index_or pages number None

-- a page in which no label was set was not made
abbrev pub AreUnmade : List Bool → List (Option PageShades) → Type 0
AreUnmade set pages = (number : ℕ) → slice_index_or set number false ≡ false → page_at pages number ≡ None

-- the label of the byte at an address: the one in its page, and clean outside memory
abbrev pub label_at : ℕ → List (Option PageShades) → ℕ → Label
label_at base pages address =
    if nat_le base address
    then label_in (page_at pages ((address - base) / page_size)) ((address - base) % page_size)
    else clean

abbrev pub byte_label : Shades → ℕ → Label
byte_label shades address = label_at shades.base shades.pages address

-- all labels are clean
pub record IsNew (base : ℕ) (shades : Shades) : Type 0 where
  pub registers : (register : ℕ) → register_label shades register ≡ clean
  pub kept : (register : ℕ) → kept_label shades register ≡ clean
  pub begins : shades.base ≡ base
  pub bytes : (address : ℕ) → byte_label shades address ≡ clean

-- new has the label at a register, but for x0, whose label stays clean; all else is as in old
pub record SetsRegister (register : ℕ) (label : Label) (old new : Shades) : Type 0 where
  pub registers : (r : ℕ) → register_label new r ≡ (if nat_lt 0 r && r == register then label else register_label old r)
  pub kept : new.kept ≡ old.kept
  pub base : new.base ≡ old.base
  pub pages : new.pages ≡ old.pages

-- new has the label at an address; all else is as in old
pub record SetsByte (address : ℕ) (label : Label) (old new : Shades) : Type 0 where
  pub bytes : (a : ℕ) → byte_label new a ≡ (if a == address then label else byte_label old a)
  pub base : new.base ≡ old.base
  pub registers : new.registers ≡ old.registers
  pub kept : new.kept ≡ old.kept

-- new has labels at so many addresses from the first on, each by its distance from the first; all else is as in old
pub record SetsBytes (first length : ℕ) (label : ℕ → Label) (old new : Shades) : Type 0 where
  pub bytes : (a : ℕ) →
      byte_label new a ≡ (if is_in_range first length a then label (a - first) else byte_label old a)
  pub base : new.base ≡ old.base
  pub registers : new.registers ≡ old.registers
  pub kept : new.kept ≡ old.kept

-- new has the label at so many addresses from the first on; all else is as in old
abbrev pub SetsRange : ℕ → ℕ → Label → Shades → Shades → Type 0
SetsRange first length label old new = SetsBytes first length (λ offset. label) old new

-- new has the listed labels from an address on; all else is as in old
abbrev pub SetsLabels : ℕ → List Label → Shades → Shades → Type 0
SetsLabels first labels old new = SetsBytes first (length labels) (listed_label labels) old new

-- new has labels at a first part of the addresses; the address after them is to have another than in old; all else is
-- as in old
pub record SetsFirstPart (first length : ℕ) (label : ℕ → Label) (old new : Shades) : Type 0 where
  pub part : ℕ
  pub shorter : part < length
  pub other : byte_label old (first + part) ≢ label part
  pub sets : SetsBytes first part label old new

-- new has only a first part of the listed labels from an address on; all else is as in old
abbrev pub SetsFirstLabels : ℕ → List Label → Shades → Shades → Type 0
SetsFirstLabels first labels old new = SetsFirstPart first (length labels) (listed_label labels) old new

-- new keeps the register labels of old; all else is as in old
pub record Saves (old new : Shades) : Type 0 where
  pub kept : new.kept ≡ old.registers
  pub registers : new.registers ≡ old.registers
  pub base : new.base ≡ old.base
  pub pages : new.pages ≡ old.pages

-- new has the kept labels at the listed registers; all else is as in old
pub record Restores (listed : List ℕ) (old new : Shades) : Type 0 where
  pub registers : (r : ℕ) →
      register_label new r ≡ (if is_listed listed r then kept_label old r else register_label old r)
  pub kept : new.kept ≡ old.kept
  pub base : new.base ≡ old.base
  pub pages : new.pages ≡ old.pages
