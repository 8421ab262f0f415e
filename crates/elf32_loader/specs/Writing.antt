-- The program file that is written for an image (System V ABI, Object Files: ELF Header, Program Header).
use Rattle.std.specs.Prelude.{ℕ, ◌+◌, ◌*◌, List, [], ◌∷◌, ◌++◌, length, replicate}
use Rattle.byteorder.specs.Endian.{little_bytes}
use Rattle.elf32_loader.specs.declared.segments.Segment.{Segment}
use Rattle.elf32_loader.specs.Headers.{identification}
use Rattle.elf32_loader.specs.Pictures.{Picture}

-- fields of two bytes, and of four
abbrev pub halves : List ℕ → List ℕ
halves [] = []
halves (field ∷ fields) = little_bytes 2 field ++ halves fields

abbrev pub words : List ℕ → List ℕ
words [] = []
words (field ∷ fields) = little_bytes 4 field ++ words fields

-- the ELF header of an entry and a number of program headers: e_ident, e_type and e_machine, e_version to e_flags,
-- e_ehsize to e_shstrndx
abbrev pub elf_header : ℕ → ℕ → List ℕ
elf_header entry count =
    identification ++ (replicate 9 0 ++ (halves (2 ∷ 243 ∷ []) ++ (words (1 ∷ entry ∷ 52 ∷ 0 ∷ 0 ∷ [])
    ++ halves (52 ∷ 32 ∷ count ∷ 0 ∷ 0 ∷ 0 ∷ []))))

-- the program header of bytes that stand in the file at an offset and in memory at an address: p_type, p_offset,
-- p_vaddr, p_paddr, p_filesz, p_memsz, p_flags and p_align
abbrev pub program_header : ℕ → ℕ → ℕ → List ℕ
program_header offset address size = words (1 ∷ offset ∷ address ∷ address ∷ size ∷ size ∷ 7 ∷ 1 ∷ [])

-- the program headers of segments whose bytes stand in the file one after the other, from an offset on
abbrev pub program_headers : ℕ → List Segment → List ℕ
program_headers offset [] = []
program_headers offset (segment ∷ segments) =
    program_header offset segment.address (length segment.bytes)
    ++ program_headers (offset + length segment.bytes) segments

-- the bytes of segments, one after the other
abbrev pub contents : List Segment → List ℕ
contents [] = []
contents (segment ∷ segments) = segment.bytes ++ contents segments

-- all headers: the program headers follow the ELF header, and the bytes follow them
abbrev pub headers : Picture → List ℕ
headers picture =
    elf_header picture.entry (length picture.segments)
    ++ program_headers (52 + 32 * length picture.segments) picture.segments

-- the program file that is written for an image
abbrev pub written : Picture → List ℕ
written picture = headers picture ++ contents picture.segments
