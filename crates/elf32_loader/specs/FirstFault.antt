-- The fault that is answered for a program file that gives no image: that of the first row of a table that holds.
use Rattle.std.specs.Prelude.{◌≡◌, ◌⊎◌, ℕ, ◌+◌, ◌*◌, ◌<◌, List, length, slice_index}
use Rattle.elf32_loader.specs.declared.fault.ElfFault.{ElfFault}
use Rattle.elf32_loader.specs.declared.fault.ElfFault.TheVariants.{Truncated, NotElf32, WrongKind, Compressed, Headers, Dynamic, SegmentRange, Overlap, EntryOutside}
use Rattle.elf32_loader.specs.FaultTable.{HasCutTable, HasEntryOutside, HasHighBase, HasNoHeader, HasNoLoad, HasOtherTable, HasOverlap, HasRangeFault, IsCompressed, IsDynamic, IsDynamicAt, IsFileBase, IsLowestLoad, IsOtherByte, IsOtherFormat, IsOtherKind, IsRangeFaultAt, Overlaps}
use Rattle.elf32_loader.specs.Headers.{entry_of, file_type, header_count, header_size, machine_type, table_offset}

-- a number is the least of which a fact holds
abbrev pub IsLeast : (ℕ → Type 0) → ℕ → Type 0
IsLeast P n = P n × ((m : ℕ) → m < n → ¬ P m)

-- a row of the table: where its fact holds its answer counts, and else the rows after it
abbrev pub Row : Type 0 → Type 0 → Type 0 → Type 0
Row fact answer rest = (fact × answer) ⊎ ((¬ fact) × rest)

-- the first byte that differs, and what stands there
abbrev pub AnswersFormat : List ℕ → ElfFault → Type 0
AnswersFormat file fault =
    (place : ℕ) × IsLeast (IsOtherByte file) place × (fault ≡ NotElf32 place (slice_index file place))

-- the first header that is PT_DYNAMIC or PT_INTERP
abbrev pub AnswersDynamic : List ℕ → ElfFault → Type 0
AnswersDynamic file fault = (index : ℕ) × IsLeast (IsDynamicAt file) index × (fault ≡ Dynamic index)

-- the first load that is out of range
abbrev pub AnswersRange : List ℕ → ElfFault → Type 0
AnswersRange file fault =
    (base : ℕ) × (index : ℕ) × IsFileBase file base × IsLeast (IsRangeFaultAt file base) index
    × (fault ≡ SegmentRange index)

-- the first load of those with the lowest address
abbrev pub AnswersBase : List ℕ → ElfFault → Type 0
AnswersBase file fault = (index : ℕ) × IsLeast (IsLowestLoad file) index × (fault ≡ SegmentRange index)

-- the lowest first of two loads that share an address, and with it the lowest second
abbrev pub AnswersOverlap : List ℕ → ElfFault → Type 0
AnswersOverlap file fault =
    (first : ℕ) × (second : ℕ) × IsLeast (λ a. (b : ℕ) × Overlaps file a b) first × IsLeast (Overlaps file first) second
    × (fault ≡ Overlap first second)

-- the rows of the ELF header, and then others
abbrev pub HeaderRows : List ℕ → ElfFault → Type 0 → Type 0
HeaderRows file fault rest =
    Row (HasNoHeader file) (fault ≡ Truncated 52 (length file))
    (Row (IsOtherFormat file) (AnswersFormat file fault)
    (Row (IsOtherKind file) (fault ≡ WrongKind (file_type file) (machine_type file))
    (Row (IsCompressed file) (fault ≡ Compressed)
    (Row (HasOtherTable file) (fault ≡ Headers (header_count file) (header_size file) 0)
    (Row (HasCutTable file) (fault ≡ Truncated (table_offset file + 32 * header_count file) (length file))
    rest)))))

-- the rows of the program headers
abbrev pub LoadRows : List ℕ → ElfFault → Type 0
LoadRows file fault =
    Row (IsDynamic file) (AnswersDynamic file fault)
    (Row (HasNoLoad file) (fault ≡ Headers (header_count file) (header_size file) 0)
    (Row (HasRangeFault file) (AnswersRange file fault)
    (Row (HasHighBase file) (AnswersBase file fault)
    (Row (HasOverlap file) (AnswersOverlap file fault)
    (Row (HasEntryOutside file) (fault ≡ EntryOutside (entry_of file))
    ⊥)))))

-- the fault is that of the first row that holds, with its fields
abbrev pub IsFirstFault : List ℕ → ElfFault → Type 0
IsFirstFault file fault = HeaderRows file fault (LoadRows file fault)
