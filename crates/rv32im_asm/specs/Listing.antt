-- The listing of an image: for each segment in order, a line for each word at a multiple of 4 that lies in the segment.
use Rattle.std.specs.Prelude.{ℕ, ◌+◌, ◌-◌, ◌*◌, ◌%◌, List, [], ◌∷◌, ◌++◌, drop, codes}
use Rattle.std.specs.Option.{option_map_or}
use Rattle.flow_base.specs.HexWords.{hex_digits, hex_word}
use Rattle.rv32im_decode.specs.Decoding.{decoded}
use Rattle.elf32_loader.specs.declared.segments.Segment.{Segment}
use Rattle.rv32im_asm.specs.Texts.{instruction_text}

-- the instruction of a word, or a dash where there is none
abbrev pub word_text : ℕ → List ℕ
word_text word = option_map_or instruction_text (decoded word) (codes "-")

-- the address, the word in eight digits, and what it is
abbrev pub line : ℕ → ℕ → List ℕ
line address word =
    hex_word address ++ (codes " " ++ (hex_digits word ++ (codes " " ++ (word_text word ++ codes "\n"))))

-- the lines of bytes that stand from an address on, a word of four bytes each, the lowest byte first
unfoldable pub lines_from : ℕ → List ℕ → List ℕ
lines_from address (a ∷ (b ∷ (c ∷ (d ∷ bytes)))) =
    line address (a + 256 * b + 65536 * c + 16777216 * d) ++ lines_from (address + 4) bytes
lines_from address bytes = []

-- how many bytes stand before the first multiple of 4 from an address on
abbrev pub padding : ℕ → ℕ
padding address = (4 - address % 4) % 4

-- the lines of a segment
abbrev pub segment_lines : Segment → List ℕ
segment_lines segment =
    let skipped = padding segment.address in lines_from (segment.address + skipped) (drop skipped segment.bytes)

-- the lines of all segments
abbrev pub listing : List Segment → List ℕ
listing [] = []
listing (segment ∷ segments) = segment_lines segment ++ listing segments
