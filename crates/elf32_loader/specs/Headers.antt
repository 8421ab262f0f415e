-- The fields of an ELF32 file as functions of its bytes (System V ABI, Object Files: ELF Header, Program Header). All
-- are little-endian.
use Rattle.std.specs.Prelude.{◌≡◌, ◌≢◌, ℕ, ◌+◌, ◌*◌, ◌<◌, ◌≤◌, List, [], ◌∷◌, length}
use Rattle.byteorder.specs.Endian.{little_from}
use Rattle.elf32_loader.specs.declared.headers.Header.{Header}

-- the field of two or four bytes at an offset
abbrev pub file_half : List ℕ → ℕ → ℕ
file_half file offset = little_from offset 2 file

abbrev pub file_word : List ℕ → ℕ → ℕ
file_word file offset = little_from offset 4 file

-- the first bytes of e_ident: the magic number, 32 bits, little-endian, version 1
abbrev pub identification : List ℕ
identification = 0x7f ∷ 0x45 ∷ 0x4c ∷ 0x46 ∷ 1 ∷ 1 ∷ 1 ∷ []

-- e_type, e_machine, e_entry, e_phoff, e_flags, e_phentsize and e_phnum
abbrev pub file_type : List ℕ → ℕ
file_type file = file_half file 16

abbrev pub machine_type : List ℕ → ℕ
machine_type file = file_half file 18

abbrev pub entry_of : List ℕ → ℕ
entry_of file = file_word file 24

abbrev pub table_offset : List ℕ → ℕ
table_offset file = file_word file 28

abbrev pub flags_of : List ℕ → ℕ
flags_of file = file_word file 36

abbrev pub header_size : List ℕ → ℕ
header_size file = file_half file 42

abbrev pub header_count : List ℕ → ℕ
header_count file = file_half file 44

-- a program header: p_type, p_offset, p_vaddr, p_filesz and p_memsz
abbrev pub header_from : List ℕ → ℕ → Header
header_from file start = record {
  kind = file_word file start;
  offset = file_word file (start + 4);
  address = file_word file (start + 8);
  file_size = file_word file (start + 16);
  memory_size = file_word file (start + 20);
}

-- the program header of an index, counted from 0
abbrev pub header_at : List ℕ → ℕ → Header
header_at file index = header_from file (table_offset file + 32 * index)

-- the file has an ELF header and as many program headers as it says
pub record HasTable (file : List ℕ) : Type 0 where
  pub header : 52 ≤ length file
  pub table : table_offset file + 32 * header_count file ≤ length file

-- a header is a load: it is PT_LOAD and takes memory
abbrev pub IsLoad : List ℕ → ℕ → Type 0
IsLoad file index =
    (index < header_count file) × ((header_at file index).kind ≡ 1) × ((header_at file index).memory_size ≢ 0)

-- an address lies in the memory of a header
abbrev pub HoldsAddress : Header → ℕ → Type 0
HoldsAddress header address = (header.address ≤ address) × (address < header.address + header.memory_size)
