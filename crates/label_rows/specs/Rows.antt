-- What is counted: the rows whose mask is that of their table and has each bit of the result that was seen to change.
use Rattle.std.specs.Prelude.{ℕ, ◌==◌, ◌&&◌, Bool, Option, Some, None, option_map, bit_and, if◌then◌else◌}
use Rattle.rv32im_decode.specs.declared.instructions.Instr.{Instr}
use Rattle.transfer_rules.specs.declared.classes.Class.{Class}
use Rattle.transfer_rules.specs.declared.operands.Operands.{Operands}
use Rattle.transfer_rules.specs.Classes.{instruction_class, takes_address}
use Rattle.transfer_rules.specs.Tables.{Table, mask_of_address}

-- of a class, or of no class
abbrev pub class_mask : Option Class → Instr → Operands → Table → Option ℕ
class_mask (Some class) instr operands table = Some (table class operands)
class_mask None instr operands table =
    if takes_address instr then Some (mask_of_address instr operands.v1 operands.m1 table) else None

-- the mask that a table gives for what an instruction computes from its operands
abbrev pub table_mask : Instr → Operands → Table → Option ℕ
table_mask instr operands table = class_mask (instruction_class instr) instr operands table

-- a mask is the wanted one, and has these bits
abbrev pub is_wanted : ℕ → ℕ → ℕ → Bool
is_wanted changed wanted mask = (mask == wanted) && (bit_and changed mask == changed)

-- whether a row agrees, where its instruction has a mask
abbrev pub agreement : Instr → Operands → ℕ → ℕ → Table → Option Bool
agreement instr operands changed wanted table =
    option_map (λ mask. is_wanted changed wanted mask) (table_mask instr operands table)
