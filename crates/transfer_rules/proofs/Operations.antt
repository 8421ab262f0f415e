-- From lists of the operations of a class to every operation of the class, and to instructions.
use Rattle.std.proofs.Common.{ℕ, List, [], ◌∷◌, sym, subst}
use Rattle.std.specs.Prelude.{⊤}
use Rattle.rv32im_decode.specs.declared.instructions.BranchKind.{BranchKind}
use Rattle.rv32im_decode.specs.declared.instructions.BranchKind.TheVariants as branch
use Rattle.rv32im_decode.specs.declared.instructions.OpKind.{OpKind}
use Rattle.rv32im_decode.specs.declared.instructions.OpKind.TheVariants as op
use Rattle.rv32im_decode.specs.Operations.{address_of, decision, op_result}
use Rattle.transfer_rules.specs.declared.classes.Class.{Class}
use Rattle.transfer_rules.specs.declared.classes.Class.TheVariants.{Add, Sub, And, Or, Xor, Sll, Srl, Sra, Slt, Sltu}
use Rattle.transfer_rules.specs.declared.classes.Class.TheVariants.{Equal, Mul, Mulh, Mulhsu, Mulhu, Div, Divu, Rem, Remu}
use Rattle.transfer_rules.specs.declared.operands.Operands.{Operands}
use Rattle.transfer_rules.specs.Classes.{branch_class, operation_class}
use Rattle.transfer_rules.specs.Rules.{Operation, OfWords, OfBranch, OfAddress, class_of, result_of}
use Rattle.transfer_rules.specs.Soundness.{IsSound, KeepsMask}

abbrev pub operations : Class → List (ℕ → ℕ → ℕ)
operations Add = op_result op.Add ∷ address_of ∷ []
operations Sub = op_result op.Sub ∷ []
operations And = op_result op.And ∷ []
operations Or = op_result op.Or ∷ []
operations Xor = op_result op.Xor ∷ []
operations Sll = op_result op.Sll ∷ []
operations Srl = op_result op.Srl ∷ []
operations Sra = op_result op.Sra ∷ []
operations Slt = op_result op.Slt ∷ decision branch.Blt ∷ decision branch.Bge ∷ []
operations Sltu = op_result op.Sltu ∷ decision branch.Bltu ∷ decision branch.Bgeu ∷ []
operations Equal = decision branch.Beq ∷ decision branch.Bne ∷ []
operations Mul = op_result op.Mul ∷ []
operations Mulh = op_result op.Mulh ∷ []
operations Mulhsu = op_result op.Mulhsu ∷ []
operations Mulhu = op_result op.Mulhu ∷ []
operations Div = op_result op.Div ∷ []
operations Divu = op_result op.Divu ∷ []
operations Rem = op_result op.Rem ∷ []
operations Remu = op_result op.Remu ∷ []

-- each operation of the list has the property
abbrev pub Each : List (ℕ → ℕ → ℕ) → ((ℕ → ℕ → ℕ) → Type 0) → Type 0
Each [] Has = ⊤
Each (operation ∷ others) Has = Has operation × Each others Has

of_words :
    (kind : OpKind) (Has : (ℕ → ℕ → ℕ) → Type 0) → Each (operations (operation_class kind)) Has → Has (op_result kind)
of_words op.Add Has each = each.0
of_words op.Sub Has each = each.0
of_words op.And Has each = each.0
of_words op.Or Has each = each.0
of_words op.Xor Has each = each.0
of_words op.Sll Has each = each.0
of_words op.Srl Has each = each.0
of_words op.Sra Has each = each.0
of_words op.Slt Has each = each.0
of_words op.Sltu Has each = each.0
of_words op.Mul Has each = each.0
of_words op.Mulh Has each = each.0
of_words op.Mulhsu Has each = each.0
of_words op.Mulhu Has each = each.0
of_words op.Div Has each = each.0
of_words op.Divu Has each = each.0
of_words op.Rem Has each = each.0
of_words op.Remu Has each = each.0

of_branch :
    (kind : BranchKind) (Has : (ℕ → ℕ → ℕ) → Type 0) → Each (operations (branch_class kind)) Has → Has (decision kind)
of_branch branch.Blt Has each = each.1.0
of_branch branch.Bge Has each = each.1.1.0
of_branch branch.Bltu Has each = each.1.0
of_branch branch.Bgeu Has each = each.1.1.0
of_branch branch.Beq Has each = each.0
of_branch branch.Bne Has each = each.1.0

of_class :
    (operation : Operation) (Has : (ℕ → ℕ → ℕ) → Type 0) → Each (operations (class_of operation)) Has →
    Has (result_of operation)
of_class (OfWords kind) Has each = of_words kind Has each
of_class (OfBranch kind) Has each = of_branch kind Has each
of_class OfAddress Has each = each.1.0

-- a mask that each operation on the list of the class keeps is sound for the class
pub by_each :
    (class : Class) (o : Operands) (mask : ℕ) → Each (operations class) (KeepsMask o mask) → IsSound class o mask
by_each class o mask each operation e =
    of_class operation (KeepsMask o mask) (subst (λ c. Each (operations c) (KeepsMask o mask)) (sym e) each)
