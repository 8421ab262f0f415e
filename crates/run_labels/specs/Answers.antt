-- What is known of the answers of mask rules: that they are sound, and that they are those of a table.
use Rattle.std.specs.Prelude.{ℕ, ◌<◌, ◌^◌, List}
use Rattle.rv32im_machine.specs.declared.language.Operation.{Operation}
use Rattle.rv32im_machine.specs.declared.language.Operation.TheVariants.{Result, Decision, Target}
use Rattle.rv32im_machine.specs.declared.language.Work.{Work}
use Rattle.rv32im_machine.specs.declared.language.Work.TheVariants.{Shaped, Computed}
use Rattle.rv32im_machine.specs.Language.{first_of, second_of}
use Rattle.transfer_rules.specs.declared.operands.Operands.{Operands}
use Rattle.transfer_rules.specs.Classes.{branch_class, operation_class}
use Rattle.transfer_rules.specs.Soundness.{IsSound, IsSoundTarget}
use Rattle.transfer_rules.specs.Tables.{IsByTable, Table, mask_of_target}

-- whatever the operands may be instead, the operation gives a result that agrees outside the mask
abbrev pub KeepsAgreement : Operation → Operands → ℕ → Type 0
KeepsAgreement (Result kind) operands mask = IsSound (operation_class kind) operands mask
KeepsAgreement (Decision kind) operands mask = IsSound (branch_class kind) operands mask
KeepsAgreement Target operands mask = IsSoundTarget operands.v2 operands.v1 operands.m1 mask

-- an answer is a word for which that holds
abbrev pub IsSoundAnswer : Operation → Operands → ℕ → Type 0
IsSoundAnswer operation operands answer = (answer < 2 ^ 32) × KeepsAgreement operation operands answer

abbrev pub mask_by : Operation → Operands → Table → ℕ
mask_by (Result kind) operands table = table (operation_class kind) operands
mask_by (Decision kind) operands table = table (branch_class kind) operands
mask_by Target operands table = mask_of_target operands table

-- the answer is that of the table with this number; of table 0 nothing is said
abbrev pub IsTableAnswer : ℕ → Operation → Operands → ℕ → Type 0
IsTableAnswer table operation operands answer = IsByTable table (mask_by operation operands) answer

-- the operands of a computation with the masks of its sources
abbrev pub operands_of : ℕ → ℕ → List ℕ → Operands
operands_of first second masks = record { v1 = first; m1 = first_of masks; v2 = second; m2 = second_of masks }

-- the fact holds of the answer that a passing takes, if it takes one
abbrev pub HoldsOfAnswer : (Operation → Operands → ℕ → Type 0) → Work → List ℕ → ℕ → Type 0
HoldsOfAnswer Fact (Shaped shape) masks answer = Unit {0}
HoldsOfAnswer Fact (Computed operation first second) masks answer = Fact operation (operands_of first second masks) answer
