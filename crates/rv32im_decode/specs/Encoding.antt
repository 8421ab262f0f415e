-- The word of an instruction, and what the instruction of a word is: RISC-V Unprivileged ISA manual, chapters "RV32I Base
-- Integer Instruction Set" and "RV32/64G Instruction Set Listings".
use Rattle.std.specs.Prelude.{ℕ, ℤ, pos, neg_ℤ, ◌+◌, ◌*◌, ◌%◌, ◌^◌, ◌<◌, ◌≤ℤ◌, ◌<ℤ◌, ◌≡◌, ◌↔◌, MatchBool, ⊤, Option}
use Rattle.std.specs.Prelude.{Some, if◌then◌else◌}
use Rattle.rv32im_decode.specs.declared.instructions.Instr.{Instr}
use Rattle.rv32im_decode.specs.declared.instructions.Instr.TheVariants.{Lui, Auipc, Jal, Jalr, Branch, Load, Store}
use Rattle.rv32im_decode.specs.declared.instructions.Instr.TheVariants.{OpImm, Op, Fence, Ecall, Ebreak}
use Rattle.rv32im_decode.specs.declared.instructions.ImmKind.{ImmKind}
use Rattle.rv32im_decode.specs.Operations.{word_of}
use Rattle.rv32im_decode.specs.Formats.{bits_of, r_word, i_word, s_word, b_word, u_word, j_word}
use Rattle.rv32im_decode.specs.Listings.{lui_opcode, auipc_opcode, jal_opcode, jalr_opcode, branch_opcode}
use Rattle.rv32im_decode.specs.Listings.{load_opcode, store_opcode, op_imm_opcode, op_opcode, misc_mem_opcode}
use Rattle.rv32im_decode.specs.Listings.{ecall_word, ebreak_word, branch_funct3, load_funct3, store_funct3, is_shift}
use Rattle.rv32im_decode.specs.Listings.{imm_funct3, shift_funct7, op_funct3, op_funct7}

-- the number is at least -bound and below bound
abbrev pub IsWithin : ℕ → ℤ → Type 0
IsWithin bound number = (neg_ℤ (pos bound) ≤ℤ number) × (number <ℤ pos bound)

-- section "Immediate Encoding Variants": an offset of B-type or J-type is an even number of bytes
abbrev pub IsEven : ℤ → Type 0
IsEven number = word_of number % 2 ≡ 0

-- section "Integer Register-Immediate Instructions": a shift goes by 0 to 31 places; other immediates have 12 bits
abbrev pub IsImmediate : ImmKind → ℤ → Type 0
IsImmediate kind imm = MatchBool (is_shift kind) ((pos 0 ≤ℤ imm) × (imm <ℤ pos 32)) (IsWithin (2 ^ 11) imm)

-- section "Base Instruction Formats": each field of the instruction fits its format
abbrev pub InRange : Instr → Type 0
InRange (Lui rd imm) = (rd < 32) × (imm < 2 ^ 20)
InRange (Auipc rd imm) = (rd < 32) × (imm < 2 ^ 20)
InRange (Jal rd offset) = (rd < 32) × IsWithin (2 ^ 20) offset × IsEven offset
InRange (Jalr rd rs1 imm) = (rd < 32) × (rs1 < 32) × IsWithin (2 ^ 11) imm
InRange (Branch kind rs1 rs2 offset) = (rs1 < 32) × (rs2 < 32) × IsWithin (2 ^ 12) offset × IsEven offset
InRange (Load kind rd rs1 imm) = (rd < 32) × (rs1 < 32) × IsWithin (2 ^ 11) imm
InRange (Store kind rs1 rs2 imm) = (rs1 < 32) × (rs2 < 32) × IsWithin (2 ^ 11) imm
InRange (OpImm kind rd rs1 imm) = (rd < 32) × (rs1 < 32) × IsImmediate kind imm
InRange (Op kind rd rs1 rs2) = (rd < 32) × (rs1 < 32) × (rs2 < 32)
InRange (Fence rd rs1 imm) = (rd < 32) × (rs1 < 32) × (imm < 2 ^ 12)
InRange Ecall = ⊤
InRange Ebreak = ⊤

-- the upper 12 bits of a register-immediate operation: a shift has its funct7 before the places
abbrev pub immediate_bits : ImmKind → ℤ → ℕ
immediate_bits kind imm = if is_shift kind then shift_funct7 kind * 2 ^ 5 + word_of imm else bits_of (2 ^ 11) imm

-- chapter "RV32/64G Instruction Set Listings": the word of an instruction
unfoldable pub encoded : Instr → ℕ
encoded (Lui rd imm) = u_word imm rd lui_opcode
encoded (Auipc rd imm) = u_word imm rd auipc_opcode
encoded (Jal rd offset) = j_word (bits_of (2 ^ 20) offset) rd jal_opcode
encoded (Jalr rd rs1 imm) = i_word (bits_of (2 ^ 11) imm) rs1 0 rd jalr_opcode
encoded (Branch kind rs1 rs2 offset) = b_word (bits_of (2 ^ 12) offset) rs2 rs1 (branch_funct3 kind) branch_opcode
encoded (Load kind rd rs1 imm) = i_word (bits_of (2 ^ 11) imm) rs1 (load_funct3 kind) rd load_opcode
encoded (Store kind rs1 rs2 imm) = s_word (bits_of (2 ^ 11) imm) rs2 rs1 (store_funct3 kind) store_opcode
encoded (OpImm kind rd rs1 imm) = i_word (immediate_bits kind imm) rs1 (imm_funct3 kind) rd op_imm_opcode
encoded (Op kind rd rs1 rs2) = r_word (op_funct7 kind) rs2 rs1 (op_funct3 kind) rd op_opcode
encoded (Fence rd rs1 imm) = i_word imm rs1 0 rd misc_mem_opcode
encoded Ecall = ecall_word
encoded Ebreak = ebreak_word

-- what is found of a word is an instruction if and only if it is in range and has this word
abbrev pub IsDecoded : ℕ → Option Instr → Type 0
IsDecoded word found = (instr : Instr) → (found ≡ Some instr) ↔ (InRange instr × (encoded instr ≡ word))
