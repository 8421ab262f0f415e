-- What may be wrong with a program file, each fault as a fact of its bytes.
use Rattle.std.specs.Prelude.{◌≡◌, ◌≢◌, ◌⊎◌, ℕ, ◌+◌, ◌*◌, ◌%◌, ◌<◌, ◌≤◌, List, length, slice_index}
use Rattle.elf32_loader.specs.declared.headers.Header.{Header}
use Rattle.elf32_loader.specs.Headers.{HoldsAddress, IsLoad, entry_of, file_type, flags_of, header_at, header_count, header_size, identification, machine_type, table_offset}
use Rattle.elf32_loader.specs.Segments.{highest_base, highest_end, rounded_down}
use Rattle.flow_base.specs.Guests.{memory_size}

-- a load has the lowest address
abbrev pub IsLowestLoad : List ℕ → ℕ → Type 0
IsLowestLoad file index =
    IsLoad file index
    × ((other : ℕ) → IsLoad file other → (header_at file index).address ≤ (header_at file other).address)

-- the base of a file: the lowest address of a load, rounded down
abbrev pub IsFileBase : List ℕ → ℕ → Type 0
IsFileBase file base =
    (lowest : ℕ) × IsLowestLoad file lowest × (base ≡ rounded_down (header_at file lowest).address)

-- the file is shorter than an ELF header
abbrev pub HasNoHeader : List ℕ → Type 0
HasNoHeader file = length file < 52

-- one of its first bytes is not that of a 32-bit little-endian ELF file of version 1
abbrev pub IsOtherByte : List ℕ → ℕ → Type 0
IsOtherByte file place = (place < length identification) × (slice_index file place ≢ slice_index identification place)

abbrev pub IsOtherFormat : List ℕ → Type 0
IsOtherFormat file = (place : ℕ) × IsOtherByte file place

-- it is no executable (ET_EXEC), or not for RISC-V (EM_RISCV)
abbrev pub IsOtherKind : List ℕ → Type 0
IsOtherKind file = (file_type file ≢ 2) ⊎ (machine_type file ≢ 243)

-- it has compressed instructions (EF_RISCV_RVC)
abbrev pub IsCompressed : List ℕ → Type 0
IsCompressed file = flags_of file % 2 ≡ 1

-- its program headers are of another size, or none, or above 64 in number
abbrev pub HasOtherTable : List ℕ → Type 0
HasOtherTable file = (header_size file ≢ 32) ⊎ (header_count file ≡ 0) ⊎ (64 < header_count file)

-- it ends before its program headers do
abbrev pub HasCutTable : List ℕ → Type 0
HasCutTable file = length file < table_offset file + 32 * header_count file

-- a header wants a dynamic linker: it is PT_DYNAMIC or PT_INTERP
abbrev pub IsDynamicAt : List ℕ → ℕ → Type 0
IsDynamicAt file index =
    (index < header_count file) × (((header_at file index).kind ≡ 2) ⊎ ((header_at file index).kind ≡ 3))

abbrev pub IsDynamic : List ℕ → Type 0
IsDynamic file = (index : ℕ) × IsDynamicAt file index

-- it has no load
abbrev pub HasNoLoad : List ℕ → Type 0
HasNoLoad file = (index : ℕ) → ¬ IsLoad file index

-- a header has more bytes than memory, or bytes beyond the file, or memory beyond the guest's
abbrev pub IsOutOfRange : List ℕ → ℕ → Header → Type 0
IsOutOfRange file base header =
    (header.memory_size < header.file_size) ⊎ (length file < header.offset + header.file_size)
    ⊎ (base + memory_size < header.address + header.memory_size) ⊎ (highest_end < header.address + header.memory_size)

-- a load is out of range
abbrev pub IsRangeFaultAt : List ℕ → ℕ → ℕ → Type 0
IsRangeFaultAt file base index = IsLoad file index × IsOutOfRange file base (header_at file index)

abbrev pub HasRangeFault : List ℕ → Type 0
HasRangeFault file = (base : ℕ) × (index : ℕ) × IsFileBase file base × IsRangeFaultAt file base index

-- the base is too high
abbrev pub HasHighBase : List ℕ → Type 0
HasHighBase file = (base : ℕ) × IsFileBase file base × (highest_base < base)

-- two loads share an address
abbrev pub Overlaps : List ℕ → ℕ → ℕ → Type 0
Overlaps file a b =
    (a < b) × IsLoad file a × IsLoad file b
    × ((address : ℕ) × HoldsAddress (header_at file a) address × HoldsAddress (header_at file b) address)

abbrev pub HasOverlap : List ℕ → Type 0
HasOverlap file = (a : ℕ) × (b : ℕ) × Overlaps file a b

-- the entry lies in a load
abbrev pub IsEntryIn : List ℕ → ℕ → Type 0
IsEntryIn file index = IsLoad file index × HoldsAddress (header_at file index) (entry_of file)

-- the entry is no multiple of 4, or lies in no load
abbrev pub HasEntryOutside : List ℕ → Type 0
HasEntryOutside file = (entry_of file % 4 ≢ 0) ⊎ ((index : ℕ) → ¬ IsEntryIn file index)

-- none of these faults: of the ELF header
pub record HasCleanHeader (file : List ℕ) : Type 0 where
  pub has_header : ¬ HasNoHeader file
  pub has_format : ¬ IsOtherFormat file
  pub has_kind : ¬ IsOtherKind file
  pub is_not_compressed : ¬ IsCompressed file
  pub has_table : ¬ HasOtherTable file
  pub has_whole_table : ¬ HasCutTable file

-- of the program headers
pub record HasCleanLoads (file : List ℕ) : Type 0 where
  pub is_not_dynamic : ¬ IsDynamic file
  pub has_load : ¬ HasNoLoad file
  pub is_in_range : ¬ HasRangeFault file
  pub has_low_base : ¬ HasHighBase file
  pub has_no_overlap : ¬ HasOverlap file
  pub has_entry : ¬ HasEntryOutside file

-- of both
pub record HasNoFault (file : List ℕ) : Type 0 where
  pub header : HasCleanHeader file
  pub loads : HasCleanLoads file
