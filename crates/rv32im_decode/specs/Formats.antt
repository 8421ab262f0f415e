-- The formats of instruction words: a word below 2^32 is split into fields, and fields are joined to a word. The
-- sections named are those of the RISC-V Unprivileged ISA manual, chapter "RV32I Base Integer Instruction Set".
use Rattle.std.specs.Prelude.{ℕ, ℤ, pos, ◌+◌, ◌-ℤ◌, ◌*◌, ◌/◌, ◌%◌, ◌^◌, nat_lt, if◌then◌else◌}
use Rattle.rv32im_decode.specs.Operations.{word_of}

-- section "Immediate Encoding Variants": bits as a number in two's complement, whose highest bit weighs `sign`
abbrev pub sign_extended : ℕ → ℕ → ℤ
sign_extended sign bits = if nat_lt bits sign then pos bits else (pos bits -ℤ pos (2 * sign))

-- the bits of a number in two's complement, whose highest bit weighs `sign`
abbrev pub bits_of : ℕ → ℤ → ℕ
bits_of sign number = word_of number % (2 * sign)

-- section "Base Instruction Formats", R-type
abbrev pub r_word : ℕ → ℕ → ℕ → ℕ → ℕ → ℕ → ℕ
r_word funct7 rs2 rs1 funct3 rd opcode =
    funct7 * 2 ^ 25 + rs2 * 2 ^ 20 + rs1 * 2 ^ 15 + funct3 * 2 ^ 12 + rd * 2 ^ 7 + opcode

-- section "Base Instruction Formats", I-type: the immediate stands in bits 31 to 20
abbrev pub i_word : ℕ → ℕ → ℕ → ℕ → ℕ → ℕ
i_word bits rs1 funct3 rd opcode = bits * 2 ^ 20 + rs1 * 2 ^ 15 + funct3 * 2 ^ 12 + rd * 2 ^ 7 + opcode

-- section "Base Instruction Formats", S-type: the immediate stands in the places of funct7 and rd
abbrev pub s_word : ℕ → ℕ → ℕ → ℕ → ℕ → ℕ
s_word bits rs2 rs1 funct3 opcode = r_word (bits / 2 ^ 5) rs2 rs1 funct3 (bits % 2 ^ 5) opcode

-- section "Immediate Encoding Variants", B-type: bits 12 and 10 to 5 in the place of funct7, bits 4 to 1 and 11 in that
-- of rd
abbrev pub b_word : ℕ → ℕ → ℕ → ℕ → ℕ → ℕ
b_word bits rs2 rs1 funct3 opcode =
    r_word (bits / 2 ^ 12 * 2 ^ 6 + bits / 2 ^ 5 % 2 ^ 6) rs2 rs1 funct3
    (bits / 2 % 2 ^ 4 * 2 + bits / 2 ^ 11 % 2) opcode

-- section "Base Instruction Formats", U-type: the immediate stands in bits 31 to 12
abbrev pub u_word : ℕ → ℕ → ℕ → ℕ
u_word bits rd opcode = bits * 2 ^ 12 + rd * 2 ^ 7 + opcode

-- section "Immediate Encoding Variants", J-type: bits 20, 10 to 1, 11 and 19 to 12 in bits 31 to 12
abbrev pub j_word : ℕ → ℕ → ℕ → ℕ
j_word bits rd opcode =
    u_word
    (bits / 2 ^ 20 * 2 ^ 19 + bits / 2 % 2 ^ 10 * 2 ^ 9 + bits / 2 ^ 11 % 2 * 2 ^ 8 + bits / 2 ^ 12 % 2 ^ 8)
    rd opcode
