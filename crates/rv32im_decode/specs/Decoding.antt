-- The instruction of a word, found by its opcode, funct3 and funct7. What it is, `IsDecoded` says, without these tables:
-- the clause `told` of `decode`.
use Rattle.std.specs.Prelude.{ℕ, ℤ, pos, ◌^◌, ◌==◌, Option, Some, None, option_map, if◌then◌else◌}
use Rattle.rv32im_decode.specs.declared.instructions.Instr.{Instr}
use Rattle.rv32im_decode.specs.declared.instructions.Instr.TheVariants.{Lui, Auipc, Jal, Jalr, Branch, Load, Store}
use Rattle.rv32im_decode.specs.declared.instructions.Instr.TheVariants.{OpImm, Op, Fence, Ecall, Ebreak}
use Rattle.rv32im_decode.specs.declared.instructions.ImmKind.{ImmKind}
use Rattle.rv32im_decode.specs.Formats.{sign_extended}
use Rattle.rv32im_decode.specs.Listings.{lui_opcode, auipc_opcode, jal_opcode, jalr_opcode, branch_opcode}
use Rattle.rv32im_decode.specs.Listings.{load_opcode, store_opcode, op_imm_opcode, op_opcode, misc_mem_opcode}
use Rattle.rv32im_decode.specs.Listings.{ecall_word, ebreak_word, is_shift}
use Rattle.rv32im_decode.specs.Fields.{opcode_of, rd_of, funct3_of, rs1_of, rs2_of, funct7_of, i_bits, s_bits}
use Rattle.rv32im_decode.specs.Fields.{b_bits, u_bits, j_bits}
use Rattle.rv32im_decode.specs.Kinds.{branch_kind, load_kind, store_kind, imm_kind, op_kind}

-- the immediate of a register-immediate operation: the places of a shift stand in the place of rs2
abbrev pub immediate_of : ImmKind → ℕ → ℤ
immediate_of kind word = if is_shift kind then pos (rs2_of word) else sign_extended (2 ^ 11) (i_bits word)

-- opcode JALR: funct3 is 0
abbrev pub decoded_jalr : ℕ → Option Instr
decoded_jalr word =
    if funct3_of word == 0 then Some (Jalr (rd_of word) (rs1_of word) (sign_extended (2 ^ 11) (i_bits word))) else None

-- opcode BRANCH: funct3 tells the kind
abbrev pub decoded_branch : ℕ → Option Instr
decoded_branch word =
    option_map (λ kind. Branch kind (rs1_of word) (rs2_of word) (sign_extended (2 ^ 12) (b_bits word)))
    (branch_kind (funct3_of word))

-- opcode LOAD: funct3 tells the kind
abbrev pub decoded_load : ℕ → Option Instr
decoded_load word =
    option_map (λ kind. Load kind (rd_of word) (rs1_of word) (sign_extended (2 ^ 11) (i_bits word)))
    (load_kind (funct3_of word))

-- opcode STORE: funct3 tells the kind
abbrev pub decoded_store : ℕ → Option Instr
decoded_store word =
    option_map (λ kind. Store kind (rs1_of word) (rs2_of word) (sign_extended (2 ^ 11) (s_bits word)))
    (store_kind (funct3_of word))

-- opcode OP-IMM: funct3 tells the kind, with funct7 for a shift
abbrev pub decoded_op_imm : ℕ → Option Instr
decoded_op_imm word =
    option_map (λ kind. OpImm kind (rd_of word) (rs1_of word) (immediate_of kind word))
    (imm_kind (funct7_of word) (funct3_of word))

-- opcode OP: funct7 and funct3 tell the kind
abbrev pub decoded_op : ℕ → Option Instr
decoded_op word =
    option_map (λ kind. Op kind (rd_of word) (rs1_of word) (rs2_of word)) (op_kind (funct7_of word) (funct3_of word))

-- opcode MISC-MEM, section "Memory Ordering Instructions": FENCE whatever its other fields
abbrev pub decoded_fence : ℕ → Option Instr
decoded_fence word = if funct3_of word == 0 then Some (Fence (rd_of word) (rs1_of word) (i_bits word)) else None

-- opcode SYSTEM, section "Environment Call and Breakpoints": these two words alone
abbrev pub decoded_system : ℕ → Option Instr
decoded_system word = if word == ecall_word then Some Ecall else if word == ebreak_word then Some Ebreak else None

-- chapter "RV32/64G Instruction Set Listings": the instruction of a word, or none; the opcode tells the row
-- read in its place: rv32im_decode.specs.Encoding.IsDecoded
unfoldable pub decoded : ℕ → Option Instr
decoded word =
    let opcode = opcode_of word in
    if opcode == lui_opcode then Some (Lui (rd_of word) (u_bits word)) else
    if opcode == auipc_opcode then Some (Auipc (rd_of word) (u_bits word)) else
    if opcode == jal_opcode then Some (Jal (rd_of word) (sign_extended (2 ^ 20) (j_bits word))) else
    if opcode == jalr_opcode then decoded_jalr word else
    if opcode == branch_opcode then decoded_branch word else
    if opcode == load_opcode then decoded_load word else
    if opcode == store_opcode then decoded_store word else
    if opcode == op_imm_opcode then decoded_op_imm word else
    if opcode == op_opcode then decoded_op word else
    if opcode == misc_mem_opcode then decoded_fence word else decoded_system word
