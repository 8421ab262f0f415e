-- That a mask is the one of a table, and the mask of an address by a table.
use Rattle.std.specs.Prelude.{◌≡◌, ◌⊎◌, ℕ, ℤ, ◌-◌, ◌%◌, List, [], ◌∷◌}
use Rattle.rv32im_decode.specs.declared.instructions.Instr.{Instr}
use Rattle.rv32im_decode.specs.declared.instructions.Instr.TheVariants.{Jalr, Load, Store}
use Rattle.rv32im_decode.specs.Operations.{word_of}
use Rattle.transfer_rules.specs.declared.classes.Class.{Class}
use Rattle.transfer_rules.specs.declared.classes.Class.TheVariants.{Add, Sub, And, Or, Xor, Sll, Srl, Sra, Slt, Sltu}
use Rattle.transfer_rules.specs.declared.classes.Class.TheVariants.{Equal, Mul, Mulh, Mulhsu, Mulhu, Div, Divu, Rem, Remu}
use Rattle.transfer_rules.specs.declared.operands.Operands.{Operands}
use Rattle.transfer_rules.specs.Table1.{mask_by_table_1}
use Rattle.transfer_rules.specs.Table2.{mask_by_table_2}
use Rattle.transfer_rules.specs.Table3.{mask_by_table_3}

-- a table gives a mask for each class
abbrev pub Table : Type 0
Table = Class → Operands → ℕ

-- of tables 1, 2 and 3 a mask, or what is made of masks, is what the table wants; of any other table, as table 0,
-- nothing is said
abbrev pub IsByTable : {X : Type 0} → ℕ → (Table → X) → X → Type 0
IsByTable table wanted found =
    (table ≡ 1 → found ≡ wanted mask_by_table_1) × (table ≡ 2 → found ≡ wanted mask_by_table_2)
    × (table ≡ 3 → found ≡ wanted mask_by_table_3)

-- a word and an immediate, as the operands of a sum
abbrev pub sum_operands : ℕ → ℕ → ℤ → Operands
sum_operands first mask immediate = record { v1 = first; m1 = mask; v2 = word_of immediate; m2 = 0 }

-- the mask of the target of JALR by a table: that of the sum, with the lowest bit cleared
abbrev pub mask_of_target : Operands → Table → ℕ
mask_of_target operands table = table Add operands - table Add operands % 2

-- the mask of an address by a table: that of the sum, or of the target
abbrev pub mask_of_address : Instr → ℕ → ℕ → Table → ℕ
mask_of_address (Load kind rd rs1 imm) first mask table = table Add (sum_operands first mask imm)
mask_of_address (Store kind rs1 rs2 imm) first mask table = table Add (sum_operands first mask imm)
mask_of_address (Jalr rd rs1 imm) first mask table = mask_of_target (sum_operands first mask imm) table
mask_of_address other first mask table = 0

-- the nineteen classes, in their order
abbrev pub classes_in_order : List Class
classes_in_order =
    Add ∷ Sub ∷ And ∷ Or ∷ Xor ∷ Sll ∷ Srl ∷ Sra ∷ Slt ∷ Sltu ∷ Equal ∷ Mul ∷ Mulh ∷ Mulhsu ∷ Mulhu ∷ Div ∷ Divu ∷ Rem
    ∷ Remu ∷ []

-- tables 1, 2 and 3 say what each answer of a mask rule is; of the answers of other books nothing but their soundness
-- is known
abbrev pub IsDeciding : ℕ → Type 0
IsDeciding table = (table ≡ 1) ⊎ ((table ≡ 2) ⊎ (table ≡ 3))
