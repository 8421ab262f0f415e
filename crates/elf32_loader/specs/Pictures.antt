-- What an image shows: its fields without the proofs of what it keeps.
use Rattle.std.specs.Prelude.{ℕ, ◌-◌, ◌&&◌, Bool, List, [], ◌∷◌, slice_index, if◌then◌else◌}
use Rattle.elf32_loader.specs.declared.segments.Segment.{Segment}
use Rattle.elf32_loader.specs.Segments.{are_inside, holds, is_ascending, is_base_of, is_entry}

pub record Picture : Type 0 where
  pub base : ℕ
  pub entry : ℕ
  pub segments : List Segment

-- the picture is that of an image
abbrev pub is_image_picture : Picture → Bool
is_image_picture picture =
    is_ascending picture.segments && (is_base_of picture.segments picture.base
    && (are_inside picture.base picture.segments && is_entry picture.segments picture.entry))

-- the byte that segments have at an address, 0 where none stands
abbrev pub byte_in : List Segment → ℕ → ℕ
byte_in [] address = 0
byte_in (segment ∷ segments) address =
    if holds segment address then slice_index segment.bytes (address - segment.address) else byte_in segments address

-- guest memory: the byte at each address from the base to the base plus `memory_size`
abbrev pub mem : Picture → ℕ → ℕ
mem picture address = byte_in picture.segments address
