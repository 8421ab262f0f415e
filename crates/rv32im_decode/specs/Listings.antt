-- The numbers by which words tell the instructions apart: RISC-V Unprivileged ISA manual, chapter "RV32/64G Instruction
-- Set Listings".
use Rattle.std.specs.Prelude.{ℕ, ◌==◌, Bool, true, false, Option, Some, None, if◌then◌else◌}
use Rattle.rv32im_decode.specs.declared.instructions.BranchKind.{BranchKind}
use Rattle.rv32im_decode.specs.declared.instructions.BranchKind.TheVariants.{Beq, Bne, Blt, Bge, Bltu, Bgeu}
use Rattle.rv32im_decode.specs.declared.instructions.ImmKind.{ImmKind}
use Rattle.rv32im_decode.specs.declared.instructions.ImmKind.TheVariants.{Addi, Slti, Sltiu, Xori, Ori, Andi, Slli}
use Rattle.rv32im_decode.specs.declared.instructions.ImmKind.TheVariants.{Srli, Srai}
use Rattle.rv32im_decode.specs.declared.instructions.LoadKind.{LoadKind}
use Rattle.rv32im_decode.specs.declared.instructions.LoadKind.TheVariants.{Lb, Lh, Lw, Lbu, Lhu}
use Rattle.rv32im_decode.specs.declared.instructions.OpKind.{OpKind}
use Rattle.rv32im_decode.specs.declared.instructions.OpKind.TheVariants.{Add, Sub, Sll, Slt, Sltu, Xor, Srl, Sra, Or}
use Rattle.rv32im_decode.specs.declared.instructions.OpKind.TheVariants.{And, Mul, Mulh, Mulhsu, Mulhu, Div, Divu}
use Rattle.rv32im_decode.specs.declared.instructions.OpKind.TheVariants.{Rem, Remu}
use Rattle.rv32im_decode.specs.declared.instructions.StoreKind.{StoreKind}
use Rattle.rv32im_decode.specs.declared.instructions.StoreKind.TheVariants.{Sb, Sh, Sw}

-- opcode LUI of the base opcode map
abbrev pub lui_opcode : ℕ
lui_opcode = 0b0110111

-- opcode AUIPC
abbrev pub auipc_opcode : ℕ
auipc_opcode = 0b0010111

-- opcode JAL
abbrev pub jal_opcode : ℕ
jal_opcode = 0b1101111

-- opcode JALR
abbrev pub jalr_opcode : ℕ
jalr_opcode = 0b1100111

-- opcode BRANCH
abbrev pub branch_opcode : ℕ
branch_opcode = 0b1100011

-- opcode LOAD
abbrev pub load_opcode : ℕ
load_opcode = 0b0000011

-- opcode STORE
abbrev pub store_opcode : ℕ
store_opcode = 0b0100011

-- opcode OP-IMM
abbrev pub op_imm_opcode : ℕ
op_imm_opcode = 0b0010011

-- opcode OP
abbrev pub op_opcode : ℕ
op_opcode = 0b0110011

-- opcode MISC-MEM
abbrev pub misc_mem_opcode : ℕ
misc_mem_opcode = 0b0001111

-- the whole word of ECALL
abbrev pub ecall_word : ℕ
ecall_word = 0x00000073

-- the whole word of EBREAK
abbrev pub ebreak_word : ℕ
ebreak_word = 0x00100073

-- funct3 of a branch
abbrev pub branch_funct3 : BranchKind → ℕ
branch_funct3 Beq = 0b000
branch_funct3 Bne = 0b001
branch_funct3 Blt = 0b100
branch_funct3 Bge = 0b101
branch_funct3 Bltu = 0b110
branch_funct3 Bgeu = 0b111

-- funct3 of a load
abbrev pub load_funct3 : LoadKind → ℕ
load_funct3 Lb = 0b000
load_funct3 Lh = 0b001
load_funct3 Lw = 0b010
load_funct3 Lbu = 0b100
load_funct3 Lhu = 0b101

-- funct3 of a store
abbrev pub store_funct3 : StoreKind → ℕ
store_funct3 Sb = 0b000
store_funct3 Sh = 0b001
store_funct3 Sw = 0b010

-- whether the immediate is a number of places to shift by
abbrev pub is_shift : ImmKind → Bool
is_shift Slli = true
is_shift Srli = true
is_shift Srai = true
is_shift kind = false

-- funct3 of a register-immediate operation
abbrev pub imm_funct3 : ImmKind → ℕ
imm_funct3 Addi = 0b000
imm_funct3 Slti = 0b010
imm_funct3 Sltiu = 0b011
imm_funct3 Xori = 0b100
imm_funct3 Ori = 0b110
imm_funct3 Andi = 0b111
imm_funct3 Slli = 0b001
imm_funct3 Srli = 0b101
imm_funct3 Srai = 0b101

-- funct7 of a shift by an immediate, which only shifts have
abbrev pub shift_funct7 : ImmKind → ℕ
shift_funct7 Srai = 0b0100000
shift_funct7 kind = 0b0000000

-- funct3 of a register-register operation
abbrev pub op_funct3 : OpKind → ℕ
op_funct3 Add = 0b000
op_funct3 Sub = 0b000
op_funct3 Sll = 0b001
op_funct3 Slt = 0b010
op_funct3 Sltu = 0b011
op_funct3 Xor = 0b100
op_funct3 Srl = 0b101
op_funct3 Sra = 0b101
op_funct3 Or = 0b110
op_funct3 And = 0b111
op_funct3 Mul = 0b000
op_funct3 Mulh = 0b001
op_funct3 Mulhsu = 0b010
op_funct3 Mulhu = 0b011
op_funct3 Div = 0b100
op_funct3 Divu = 0b101
op_funct3 Rem = 0b110
op_funct3 Remu = 0b111

-- funct7 of a register-register operation
abbrev pub op_funct7 : OpKind → ℕ
op_funct7 Add = 0b0000000
op_funct7 Sub = 0b0100000
op_funct7 Sll = 0b0000000
op_funct7 Slt = 0b0000000
op_funct7 Sltu = 0b0000000
op_funct7 Xor = 0b0000000
op_funct7 Srl = 0b0000000
op_funct7 Sra = 0b0100000
op_funct7 Or = 0b0000000
op_funct7 And = 0b0000000
op_funct7 Mul = 0b0000001
op_funct7 Mulh = 0b0000001
op_funct7 Mulhsu = 0b0000001
op_funct7 Mulhu = 0b0000001
op_funct7 Div = 0b0000001
op_funct7 Divu = 0b0000001
op_funct7 Rem = 0b0000001
op_funct7 Remu = 0b0000001
