-- The fields of a word below 2^32. The sections named are those of the RISC-V Unprivileged ISA manual, chapter "RV32I Base
-- Integer Instruction Set".
use Rattle.std.specs.Prelude.{ℕ, ◌+◌, ◌*◌, ◌/◌, ◌%◌, ◌^◌}

-- section "Base Instruction Formats": bits 6 to 0
abbrev pub opcode_of : ℕ → ℕ
opcode_of word = word % 2 ^ 7

-- section "Base Instruction Formats": bits 11 to 7
abbrev pub rd_of : ℕ → ℕ
rd_of word = word / 2 ^ 7 % 2 ^ 5

-- section "Base Instruction Formats": bits 14 to 12
abbrev pub funct3_of : ℕ → ℕ
funct3_of word = word / 2 ^ 12 % 2 ^ 3

-- section "Base Instruction Formats": bits 19 to 15
abbrev pub rs1_of : ℕ → ℕ
rs1_of word = word / 2 ^ 15 % 2 ^ 5

-- section "Base Instruction Formats": bits 24 to 20
abbrev pub rs2_of : ℕ → ℕ
rs2_of word = word / 2 ^ 20 % 2 ^ 5

-- section "Base Instruction Formats": bits 31 to 25
abbrev pub funct7_of : ℕ → ℕ
funct7_of word = word / 2 ^ 25

-- section "Immediate Encoding Variants": bits 31 to 20
abbrev pub i_bits : ℕ → ℕ
i_bits word = word / 2 ^ 20

-- section "Immediate Encoding Variants": bits 31 to 25, then 11 to 7
abbrev pub s_bits : ℕ → ℕ
s_bits word = funct7_of word * 2 ^ 5 + rd_of word

-- section "Immediate Encoding Variants": bit 31, bit 7, bits 30 to 25, bits 11 to 8, then a zero
abbrev pub b_bits : ℕ → ℕ
b_bits word =
    word / 2 ^ 31 * 2 ^ 12 + word / 2 ^ 7 % 2 * 2 ^ 11 + word / 2 ^ 25 % 2 ^ 6 * 2 ^ 5 + word / 2 ^ 8 % 2 ^ 4 * 2

-- section "Immediate Encoding Variants": bits 31 to 12
abbrev pub u_bits : ℕ → ℕ
u_bits word = word / 2 ^ 12

-- section "Immediate Encoding Variants": bit 31, bits 19 to 12, bit 20, bits 30 to 21, then a zero
abbrev pub j_bits : ℕ → ℕ
j_bits word =
    word / 2 ^ 31 * 2 ^ 20 + word / 2 ^ 12 % 2 ^ 8 * 2 ^ 12 + word / 2 ^ 20 % 2 * 2 ^ 11 + word / 2 ^ 21 % 2 ^ 10 * 2
