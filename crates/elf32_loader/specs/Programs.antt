-- The image that a program file gives.
use Rattle.std.specs.Prelude.{◌≡◌, ℕ, ◌+◌, ◌-◌, ◌≤◌, nat_lt, IsTrue, List, length, slice_index, All, Contains, if◌then◌else◌}
use Rattle.elf32_loader.specs.declared.fault.ElfFault.{ElfFault}
use Rattle.elf32_loader.specs.declared.headers.Header.{Header}
use Rattle.elf32_loader.specs.declared.segments.Segment.{Segment}
use Rattle.elf32_loader.specs.FaultTable.{HasNoFault, IsFileBase}
use Rattle.elf32_loader.specs.FirstFault.{IsFirstFault}
use Rattle.elf32_loader.specs.Headers.{HoldsAddress, IsLoad, entry_of, header_at}
use Rattle.elf32_loader.specs.Pictures.{Picture, is_image_picture, mem}
use Rattle.elf32_loader.specs.Segments.{is_ascending}
use Rattle.elf32_loader.specs.Writing.{written}

-- the byte that a load puts at an address: one of the file, or 0 past those
abbrev pub loaded_byte : List ℕ → Header → ℕ → ℕ
loaded_byte file header address =
    if nat_lt (address - header.address) header.file_size
    then slice_index file (header.offset + (address - header.address))
    else 0

-- a segment is what a load puts into memory
pub record IsLoaded (file : List ℕ) (header : Header) (segment : Segment) : Type 0 where
  pub address : segment.address ≡ header.address
  pub size : length segment.bytes ≡ header.memory_size
  pub bytes : (place : ℕ) → HoldsAddress header place
      → slice_index segment.bytes (place - header.address) ≡ loaded_byte file header place

-- the file has no fault, and the image has its base and entry and its loads in ascending order
pub record IsImage (file : List ℕ) (picture : Picture) : Type 0 where
  pub no_fault : HasNoFault file
  pub base : IsFileBase file picture.base
  pub entry : picture.entry ≡ entry_of file
  pub ascends : IsTrue (is_ascending picture.segments)
  pub each_is_load : All (λ segment. (index : ℕ) × IsLoad file index × IsLoaded file (header_at file index) segment)
      picture.segments
  pub each_load_stands : (index : ℕ) → IsLoad file index
      → (segment : Segment) × Contains picture.segments segment × IsLoaded file (header_at file index) segment

-- the file that is written for an image of at most 64 segments gives that image
abbrev pub WrittenAreImages : Type 0
WrittenAreImages =
    (picture : Picture) → IsTrue (is_image_picture picture) → length picture.segments ≤ 64 → IsImage (written picture) picture

-- a file with a fault gives none
abbrev pub FaultsHaveNoImage : Type 0
FaultsHaveNoImage =
    (file : List ℕ) (fault : ElfFault) → IsFirstFault file fault → (picture : Picture) → ¬ IsImage file picture

-- a file gives at most one image
abbrev pub ImagesAreUnique : Type 0
ImagesAreUnique = (file : List ℕ) (one other : Picture) → IsImage file one → IsImage file other → one ≡ other

-- the memory of a file's image has what the file's loads put there
abbrev pub MemoryIsLoaded : Type 0
MemoryIsLoaded =
    (file : List ℕ) (picture : Picture) → IsImage file picture
    → (index : ℕ) → IsLoad file index → (place : ℕ) → HoldsAddress (header_at file index) place
    → mem picture place ≡ loaded_byte file (header_at file index) place

-- and 0 where no load stands
abbrev pub RestIsZero : Type 0
RestIsZero =
    (file : List ℕ) (picture : Picture) → IsImage file picture
    → (place : ℕ) → ((index : ℕ) → IsLoad file index → ¬ HoldsAddress (header_at file index) place)
    → mem picture place ≡ 0
