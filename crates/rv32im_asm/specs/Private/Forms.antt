-- The operands of all forms in one, and what a mnemonic makes of them.
use Rattle.std.specs.Prelude.{ℕ, ℤ, pos, List, Option, Some, None, option_map, if◌then◌else◌}
use Rattle.rv32im_asm.specs.Operands.{Value, plain}
use Rattle.rv32im_asm.specs.Statements.{Meaning, has_no_operand, one_value, register_and, register_and_place}
use Rattle.rv32im_asm.specs.Statements.{registers_and, three_registers, two_registers, value_of, with_value}
use Rattle.rv32im_asm.specs.declared.statements.Form.{Form}
use Rattle.rv32im_asm.specs.declared.statements.Form.TheVariants as form
use Rattle.rv32im_asm.specs.declared.statements.Mnemonic.{Mnemonic}
use Rattle.rv32im_asm.specs.declared.statements.Mnemonic.TheVariants as the
use Rattle.rv32im_asm.specs.declared.statements.Operands.{Operands}
use Rattle.rv32im_asm.specs.declared.statements.Operation.{Operation}
use Rattle.rv32im_asm.specs.declared.statements.Operation.TheVariants as operation
use Rattle.rv32im_asm.specs.declared.statements.Wanted.TheVariants.{Number, Target, Label}
use Rattle.rv32im_decode.specs.declared.instructions.ImmKind.TheVariants.{Addi}

-- operands of any form: the registers in their order, 0 where there are fewer, and the value
pub record Found : Type 0 where
  pub first : ℕ
  pub second : ℕ
  pub third : ℕ
  pub value : Value

abbrev pub found : ℕ → ℕ → ℕ → Value → Found
found first second third value = record { first = first; second = second; third = third; value = value }

-- what operands of the code mean
abbrev pub found_of : Operands → Found
found_of operands = found operands.first operands.second operands.third (value_of operands.value)

-- ---- the operands of each form

abbrev pub of_none : Found
of_none = found 0 0 0 (plain (pos 0))

abbrev pub of_three : ℕ × ℕ × ℕ → Found
of_three parts = found parts.0 parts.1 parts.2 (plain (pos 0))

abbrev pub of_two : ℕ × ℕ → Found
of_two parts = found parts.0 parts.1 0 (plain (pos 0))

abbrev pub of_registers : ℕ × ℕ × Value → Found
of_registers parts = found parts.0 parts.1 0 parts.2

abbrev pub of_register : ℕ × Value → Found
of_register parts = found parts.0 0 0 parts.1

abbrev pub of_place : ℕ × ℤ × ℕ → Found
of_place parts = found parts.0 parts.2 0 (plain parts.1)

abbrev pub of_value : Value → Found
of_value value = found 0 0 0 value

abbrev pub found_in : Form → List (List ℕ) → Option Found
found_in form.Nothing operands = if has_no_operand operands then Some of_none else None
found_in form.ThreeRegisters operands = option_map of_three (three_registers operands)
found_in form.TwoRegisters operands = option_map of_two (two_registers operands)
found_in (form.Registers wanted) operands = option_map of_registers (registers_and wanted operands)
found_in (form.Register wanted) operands = option_map of_register (register_and wanted operands)
found_in form.Place operands = option_map of_place (register_and_place operands)
found_in (form.Value wanted) operands = option_map of_value (one_value wanted operands)

-- ---- what a mnemonic makes of them

abbrev pub form_of : Mnemonic → Form
form_of (the.Op kind) = form.ThreeRegisters
form_of (the.Immediate kind) = form.Registers Number
form_of (the.Load kind) = form.Place
form_of (the.Store kind) = form.Place
form_of (the.Branch kind) = form.Registers Target
form_of the.Lui = form.Register Number
form_of the.Auipc = form.Register Number
form_of the.Jal = form.Register Target
form_of the.Jalr = form.Place
form_of the.Fence = form.Registers Number
form_of the.Ecall = form.Nothing
form_of the.Ebreak = form.Nothing
form_of the.Nop = form.Nothing
form_of the.Ret = form.Nothing
form_of the.Mv = form.TwoRegisters
form_of the.J = form.Value Target
form_of the.Li = form.Register Number
form_of the.La = form.Register Label
form_of the.Word = form.Value Number
form_of the.Byte = form.Value Number
form_of the.Zero = form.Value Number

abbrev pub operation_of : Mnemonic → ℕ → ℕ → ℕ → Operation
operation_of (the.Op kind) first second third = operation.Op kind first second third
operation_of (the.Immediate kind) first second third = operation.Immediate kind first second
operation_of (the.Load kind) first second third = operation.Load kind first second
operation_of (the.Store kind) first second third = operation.Store kind second first
operation_of (the.Branch kind) first second third = operation.Branch kind first second
operation_of the.Lui first second third = operation.Lui first
operation_of the.Auipc first second third = operation.Auipc first
operation_of the.Jal first second third = operation.Jal first
operation_of the.Jalr first second third = operation.Jalr first second
operation_of the.Fence first second third = operation.Fence first second
operation_of the.Ecall first second third = operation.Ecall
operation_of the.Ebreak first second third = operation.Ebreak
operation_of the.Nop first second third = operation.Immediate Addi 0 0
operation_of the.Ret first second third = operation.Jalr 0 1
operation_of the.Mv first second third = operation.Immediate Addi first second
operation_of the.J first second third = operation.Jal 0
operation_of the.Li first second third = operation.Constant first
operation_of the.La first second third = operation.Constant first
operation_of the.Word first second third = operation.Word
operation_of the.Byte first second third = operation.Byte
operation_of the.Zero first second third = operation.Zero

-- the statement of a mnemonic with operands
abbrev pub said : Mnemonic → Found → Meaning
said mnemonic operands =
    with_value (operation_of mnemonic operands.first operands.second operands.third) operands.value
