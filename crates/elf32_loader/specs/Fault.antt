-- The texts of what is wrong with a program file. Numbers are decimal; an address is 0x and eight digits in lower
-- case, a byte 0x and two. Lack of memory is never told.
use Rattle.std.specs.Prelude.{ℕ, ◌/◌, ◌%◌, List, [], ◌∷◌, ◌++◌, codes}
use Rattle.std.specs.Fmt.{decimal}
use Rattle.flow_base.specs.HexWords.{hex_digit, hex_word}
use Rattle.elf32_loader.specs.declared.fault.ElfFault.{ElfFault}
use Rattle.elf32_loader.specs.declared.fault.ElfFault.TheVariants.{Truncated, NotElf32, WrongKind, Compressed, Headers}
use Rattle.elf32_loader.specs.declared.fault.ElfFault.TheVariants.{Dynamic, SegmentRange, Overlap, EntryOutside, Memory}

-- 0x and the two digits of a byte
abbrev pub hex_byte : ℕ → List ℕ
hex_byte byte = 48 ∷ 120 ∷ hex_digit (byte / 16 % 16) ∷ hex_digit (byte % 16) ∷ []

abbrev pub program_fault_text : ElfFault → List ℕ
program_fault_text (Truncated need have) =
    codes "truncated need " ++ (decimal need ++ (codes " have " ++ decimal have))
program_fault_text (NotElf32 offset byte) =
    codes "not-elf32 offset " ++ (decimal offset ++ (codes " byte " ++ hex_byte byte))
program_fault_text (WrongKind kind machine) =
    codes "wrong-kind type " ++ (decimal kind ++ (codes " machine " ++ decimal machine))
program_fault_text Compressed = codes "compressed"
program_fault_text (Headers count size loads) =
    codes "headers " ++ (decimal count ++ (codes " size " ++ (decimal size ++ (codes " loads " ++ decimal loads))))
program_fault_text (Dynamic index) = codes "dynamic " ++ decimal index
program_fault_text (SegmentRange index) = codes "segment " ++ decimal index
program_fault_text (Overlap a b) = codes "overlap " ++ (decimal a ++ (codes " " ++ decimal b))
program_fault_text (EntryOutside entry) = codes "entry " ++ hex_word entry
program_fault_text Memory = codes "memory"
