-- The operations whose results have a mask, and what an instruction computes.
use Rattle.std.specs.Prelude.{ℕ}
use Rattle.rv32im_decode.specs.declared.instructions.BranchKind.{BranchKind}
use Rattle.rv32im_decode.specs.declared.instructions.Instr.{Instr}
use Rattle.rv32im_decode.specs.declared.instructions.Instr.TheVariants.{Branch, OpImm, Op}
use Rattle.rv32im_decode.specs.declared.instructions.OpKind.{OpKind}
use Rattle.rv32im_decode.specs.Operations.{address_of, decision, op_result, operation_of}
use Rattle.transfer_rules.specs.declared.classes.Class.{Class}
use Rattle.transfer_rules.specs.declared.classes.Class.TheVariants as class
use Rattle.transfer_rules.specs.Classes.{branch_class, operation_class}

-- what gives a word from two words: an operation on registers (one with an immediate is the same, with the immediate as
-- second word), the decision of a branch as a word, and the address of a load, a store or JALR
pub data Operation : Type 0 where
  OfWords : OpKind → Operation
  OfBranch : BranchKind → Operation
  OfAddress : Operation

-- the class of an operation
abbrev pub class_of : Operation → Class
class_of (OfWords kind) = operation_class kind
class_of (OfBranch kind) = branch_class kind
class_of OfAddress = class.Add

-- its result
abbrev pub result_of : Operation → ℕ → ℕ → ℕ
result_of (OfWords kind) = op_result kind
result_of (OfBranch kind) = decision kind
result_of OfAddress = address_of

-- what an instruction of a class computes from its operands; of a branch it is the decision, as a word
abbrev pub computed : Instr → ℕ → ℕ → ℕ
computed (Op kind rd rs1 rs2) = op_result kind
computed (OpImm kind rd rs1 imm) = op_result (operation_of kind)
computed (Branch kind rs1 rs2 offset) = decision kind
computed other = λ first second. 0
