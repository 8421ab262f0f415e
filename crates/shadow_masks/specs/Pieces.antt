-- The masks of guest memory in pieces.
use Rattle.std.specs.Prelude.{◌≡◌, ℕ, ◌+◌, ◌-◌, ◌*◌, ◌/◌, ◌%◌, ◌<◌, ◌==◌, ◌&&◌, nat_le, List, slice_index, if◌then◌else◌}
use Rattle.flow_base.specs.Points.{nowhere}
use Rattle.shadow_masks.specs.declared.labels.Label.{Label}
use Rattle.shadow_masks.specs.Points.{page_size}
use Rattle.shadow_masks.specs.Pages.{is_in_range}
use Rattle.shadow_masks.specs.Shades.{Shades, byte_label}

-- the bytes of a piece of guest memory, of which there are 65,536
abbrev pub piece_size : ℕ
piece_size = 256

-- the label of a mask and of no point of the program
abbrev pub mask_label : ℕ → Label
mask_label mask = record { mask = mask; point = nowhere }

-- the same of a list of masks, by the distance from the first
abbrev pub listed_mask : List ℕ → ℕ → Label
listed_mask masks offset = mask_label (slice_index masks offset)

-- the mask of a byte of a piece
abbrev pub piece_mask : Shades → ℕ → ℕ → ℕ
piece_mask shades number offset = (byte_label shades (shades.base + number * piece_size + offset)).mask

-- the listed masks are those of a piece
abbrev pub AreMasks : Shades → ℕ → List ℕ → Type 0
AreMasks shades number masks =
    (offset : ℕ) → offset < piece_size → slice_index masks offset ≡ piece_mask shades number offset

-- the bytes of a page from the first on have the listed masks; every other mask of the page is the one that it was
abbrev pub LaysMasks : ℕ → List ℕ → (ℕ → Label) → (ℕ → Label) → Type 0
LaysMasks first masks old new =
    (place : ℕ) → place < page_size →
    (new place).mask
    ≡ (if is_in_range first piece_size place then slice_index masks (place - first) else (old place).mask)

-- new has the listed masks in a piece; every other mask is as in old
abbrev pub SetsMasks : ℕ → List ℕ → Shades → Shades → Type 0
SetsMasks number masks old new =
    (address : ℕ) →
    (byte_label new address).mask
    ≡ (if nat_le old.base address && ((address - old.base) / piece_size == number)
    then slice_index masks ((address - old.base) % piece_size) else (byte_label old address).mask)
