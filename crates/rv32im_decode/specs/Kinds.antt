-- The kinds of instructions by their funct3 and funct7: RISC-V Unprivileged ISA manual, chapter "RV32/64G Instruction Set
-- Listings".
use Rattle.std.specs.Prelude.{ℕ, ◌==◌, Option, Some, None, if◌then◌else◌}
use Rattle.rv32im_decode.specs.declared.instructions.BranchKind.{BranchKind}
use Rattle.rv32im_decode.specs.declared.instructions.BranchKind.TheVariants.{Beq, Bne, Blt, Bge, Bltu, Bgeu}
use Rattle.rv32im_decode.specs.declared.instructions.ImmKind.{ImmKind}
use Rattle.rv32im_decode.specs.declared.instructions.ImmKind.TheVariants.{Addi, Slti, Sltiu, Xori, Ori, Andi, Slli}
use Rattle.rv32im_decode.specs.declared.instructions.ImmKind.TheVariants.{Srli, Srai}
use Rattle.rv32im_decode.specs.declared.instructions.LoadKind.{LoadKind}
use Rattle.rv32im_decode.specs.declared.instructions.LoadKind.TheVariants.{Lb, Lh, Lw, Lbu, Lhu}
use Rattle.rv32im_decode.specs.declared.instructions.OpKind.{OpKind}
use Rattle.rv32im_decode.specs.declared.instructions.OpKind.TheVariants.{Add, Sub, Sll, Slt, Sltu, Xor, Srl, Sra, Or}
use Rattle.rv32im_decode.specs.declared.instructions.OpKind.TheVariants.{And, Mul, Mulh, Mulhsu, Mulhu, Div, Divu}
use Rattle.rv32im_decode.specs.declared.instructions.OpKind.TheVariants.{Rem, Remu}
use Rattle.rv32im_decode.specs.declared.instructions.StoreKind.{StoreKind}
use Rattle.rv32im_decode.specs.declared.instructions.StoreKind.TheVariants.{Sb, Sh, Sw}

-- the branch with this funct3
abbrev pub branch_kind : ℕ → Option BranchKind
branch_kind funct3 =
    if funct3 == 0b000 then Some Beq else if funct3 == 0b001 then Some Bne else
    if funct3 == 0b100 then Some Blt else if funct3 == 0b101 then Some Bge else
    if funct3 == 0b110 then Some Bltu else if funct3 == 0b111 then Some Bgeu else
    None

-- the load with this funct3
abbrev pub load_kind : ℕ → Option LoadKind
load_kind funct3 =
    if funct3 == 0b000 then Some Lb else if funct3 == 0b001 then Some Lh else
    if funct3 == 0b010 then Some Lw else if funct3 == 0b100 then Some Lbu else
    if funct3 == 0b101 then Some Lhu else None

-- the store with this funct3
abbrev pub store_kind : ℕ → Option StoreKind
store_kind funct3 =
    if funct3 == 0b000 then Some Sb else if funct3 == 0b001 then Some Sh else
    if funct3 == 0b010 then Some Sw else None

-- the shift to the left with this funct7
abbrev pub left_shift : ℕ → Option ImmKind
left_shift funct7 = if funct7 == 0b0000000 then Some Slli else None

-- the shift to the right with this funct7
abbrev pub right_shift : ℕ → Option ImmKind
right_shift funct7 = if funct7 == 0b0000000 then Some Srli else if funct7 == 0b0100000 then Some Srai else None

-- the register-immediate operation with this funct3, and if it is a shift with this funct7
abbrev pub imm_kind : ℕ → ℕ → Option ImmKind
imm_kind funct7 funct3 =
    if funct3 == 0b000 then Some Addi else if funct3 == 0b010 then Some Slti else
    if funct3 == 0b011 then Some Sltiu else if funct3 == 0b100 then Some Xori else
    if funct3 == 0b110 then Some Ori else if funct3 == 0b111 then Some Andi else
    if funct3 == 0b001 then left_shift funct7 else if funct3 == 0b101 then right_shift funct7 else
    None

-- the operation with funct7 0000000 and this funct3
abbrev pub plain_op : ℕ → Option OpKind
plain_op funct3 =
    if funct3 == 0b000 then Some Add else if funct3 == 0b001 then Some Sll else
    if funct3 == 0b010 then Some Slt else if funct3 == 0b011 then Some Sltu else
    if funct3 == 0b100 then Some Xor else if funct3 == 0b101 then Some Srl else
    if funct3 == 0b110 then Some Or else if funct3 == 0b111 then Some And else
    None

-- the operation with funct7 0100000 and this funct3
abbrev pub other_op : ℕ → Option OpKind
other_op funct3 = if funct3 == 0b000 then Some Sub else if funct3 == 0b101 then Some Sra else None

-- the operation of the "M" extension, funct7 0000001, with this funct3
abbrev pub multiply_op : ℕ → Option OpKind
multiply_op funct3 =
    if funct3 == 0b000 then Some Mul else if funct3 == 0b001 then Some Mulh else
    if funct3 == 0b010 then Some Mulhsu else if funct3 == 0b011 then Some Mulhu else
    if funct3 == 0b100 then Some Div else if funct3 == 0b101 then Some Divu else
    if funct3 == 0b110 then Some Rem else if funct3 == 0b111 then Some Remu else
    None

-- the register-register operation with this funct7 and funct3
abbrev pub op_kind : ℕ → ℕ → Option OpKind
op_kind funct7 funct3 =
    if funct7 == 0b0000000 then plain_op funct3 else if funct7 == 0b0100000 then other_op funct3 else
    if funct7 == 0b0000001 then multiply_op funct3 else None
