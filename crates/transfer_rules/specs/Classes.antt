-- The class of each operation, branch and instruction of RV32IM.
use Rattle.std.specs.Prelude.{Bool, true, false, Option, Some, None}
use Rattle.rv32im_decode.specs.declared.instructions.BranchKind.{BranchKind}
use Rattle.rv32im_decode.specs.declared.instructions.Instr.{Instr}
use Rattle.rv32im_decode.specs.declared.instructions.Instr.TheVariants.{Jalr, Branch, Load, Store}
use Rattle.rv32im_decode.specs.declared.instructions.Instr.TheVariants.{OpImm, Op}
use Rattle.rv32im_decode.specs.declared.instructions.OpKind.{OpKind}
use Rattle.rv32im_decode.specs.declared.instructions.OpKind.TheVariants.{Add, Sub, Sll, Slt, Sltu, Xor, Srl, Sra, Or}
use Rattle.rv32im_decode.specs.declared.instructions.OpKind.TheVariants.{And, Mul, Mulh, Mulhsu, Mulhu, Div, Divu}
use Rattle.rv32im_decode.specs.declared.instructions.OpKind.TheVariants.{Rem, Remu}
use Rattle.rv32im_decode.specs.declared.instructions.BranchKind.TheVariants.{Beq, Bne, Blt, Bge, Bltu, Bgeu}
use Rattle.rv32im_decode.specs.Operations.{operation_of}
use Rattle.transfer_rules.specs.declared.classes.Class.{Class}
use Rattle.transfer_rules.specs.declared.classes.Class.TheVariants as class

-- the class of an operation on two registers
abbrev pub operation_class : OpKind → Class
operation_class Add = class.Add
operation_class Sub = class.Sub
operation_class And = class.And
operation_class Or = class.Or
operation_class Xor = class.Xor
operation_class Sll = class.Sll
operation_class Srl = class.Srl
operation_class Sra = class.Sra
operation_class Slt = class.Slt
operation_class Sltu = class.Sltu
operation_class Mul = class.Mul
operation_class Mulh = class.Mulh
operation_class Mulhsu = class.Mulhsu
operation_class Mulhu = class.Mulhu
operation_class Div = class.Div
operation_class Divu = class.Divu
operation_class Rem = class.Rem
operation_class Remu = class.Remu

-- the class of a branch
abbrev pub branch_class : BranchKind → Class
branch_class Blt = class.Slt
branch_class Bge = class.Slt
branch_class Bltu = class.Sltu
branch_class Bgeu = class.Sltu
branch_class Beq = class.Equal
branch_class Bne = class.Equal

-- the class of an instruction; an operation with an immediate has that of the operation on registers
abbrev pub instruction_class : Instr → Option Class
instruction_class (Op kind rd rs1 rs2) = Some (operation_class kind)
instruction_class (OpImm kind rd rs1 imm) = Some (operation_class (operation_of kind))
instruction_class (Branch kind rs1 rs2 offset) = Some (branch_class kind)
instruction_class other = None

-- loads, stores and JALR add their immediate to a register and take the sum as an address
abbrev pub takes_address : Instr → Bool
takes_address (Load kind rd rs1 imm) = true
takes_address (Store kind rs1 rs2 imm) = true
takes_address (Jalr rd rs1 imm) = true
takes_address other = false
