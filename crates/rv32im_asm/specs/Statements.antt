-- What a statement says, each by itself.
use Rattle.std.specs.Prelude.{ℕ, ℤ, pos, ◌<◌, ⊤, Bool, true, false, List, [], ◌∷◌, Option, Some, None, option_map}
use Rattle.std.specs.Prelude.{if◌then◌else◌}
use Rattle.std.specs.Option.{option_and_then, option_copied}
use Rattle.flow_base.specs.RegisterNames.{register_named}
use Rattle.rv32im_asm.specs.Lines.{body_of, first_word, one_of, operands_of, three_of, two_of}
use Rattle.rv32im_asm.specs.FirstWords.{mnemonic_of}
use Rattle.rv32im_asm.specs.Operands.{Value, all_three, both, place_of, plain, value_in}
use Rattle.rv32im_asm.specs.declared.statements.Mnemonic.{Mnemonic}
use Rattle.rv32im_asm.specs.declared.statements.Mnemonic.TheVariants as the
use Rattle.rv32im_asm.specs.declared.statements.Operation.{Operation}
use Rattle.rv32im_asm.specs.declared.statements.Operation.TheVariants as operation
use Rattle.rv32im_asm.specs.declared.statements.Statement.{Statement}
use Rattle.rv32im_asm.specs.declared.statements.Value.{Value as TheValue}
use Rattle.rv32im_asm.specs.declared.statements.Wanted.{Wanted}
use Rattle.rv32im_asm.specs.declared.statements.Wanted.TheVariants.{Number, Target, Label}
use Rattle.rv32im_decode.specs.declared.instructions.ImmKind.TheVariants.{Addi}

-- an operation and its number
pub record Meaning : Type 0 where
  pub operation : Operation
  pub value : Value

-- what a value and a statement of the code mean
abbrev pub value_of : TheValue → Value
value_of value = record { number = value.number; label = option_copied value.label }

abbrev pub meaning_of : Statement → Meaning
meaning_of statement = record { operation = statement.operation; value = value_of statement.value }

abbrev pub with_value : Operation → Value → Meaning
with_value operation value = record { operation = operation; value = value }

-- an operation whose number is 0 or none
abbrev pub without_value : Operation → Meaning
without_value operation = with_value operation (plain (pos 0))

-- ---- the operands of the forms

-- no operand
abbrev pub has_no_operand : List (List ℕ) → Bool
has_no_operand [] = true
has_no_operand (a ∷ operands) = false

-- rd, rs1, rs2
abbrev pub three_registers : List (List ℕ) → Option (ℕ × ℕ × ℕ)
three_registers operands =
    option_and_then (λ texts. all_three (λ first second third. (first, second, third))
    (register_named texts.0) (register_named texts.1) (register_named texts.2)) (three_of operands)

-- rd, rs
abbrev pub two_registers : List (List ℕ) → Option (ℕ × ℕ)
two_registers operands =
    option_and_then (λ texts. both (λ first second. (first, second)) (register_named texts.0) (register_named texts.1))
    (two_of operands)

-- two registers and a value
abbrev pub registers_and : Wanted → List (List ℕ) → Option (ℕ × ℕ × Value)
registers_and wanted operands =
    option_and_then (λ texts. all_three (λ first second value. (first, second, value))
    (register_named texts.0) (register_named texts.1) (value_in wanted texts.2)) (three_of operands)

-- a register and a value
abbrev pub register_and : Wanted → List (List ℕ) → Option (ℕ × Value)
register_and wanted operands =
    option_and_then (λ texts. both (λ first value. (first, value)) (register_named texts.0) (value_in wanted texts.1))
    (two_of operands)

-- a register, and a number with a register in parentheses
abbrev pub register_and_place : List (List ℕ) → Option (ℕ × ℤ × ℕ)
register_and_place operands =
    option_and_then (λ texts. both (λ first place. (first, place.0, place.1))
    (register_named texts.0) (place_of texts.1)) (two_of operands)

-- a value
abbrev pub one_value : Wanted → List (List ℕ) → Option Value
one_value wanted operands = option_and_then (value_in wanted) (one_of operands)

-- ---- the forms

abbrev pub form_none : Operation → List (List ℕ) → Option Meaning
form_none operation operands = if has_no_operand operands then Some (without_value operation) else None

abbrev pub form_place : (ℕ → ℕ → Operation) → List (List ℕ) → Option Meaning
form_place make operands =
    option_map (λ found. with_value (make found.0 found.2) (plain found.1)) (register_and_place operands)

abbrev pub form_registers : Wanted → (ℕ → ℕ → Operation) → List (List ℕ) → Option Meaning
form_registers wanted make operands =
    option_map (λ found. with_value (make found.0 found.1) found.2) (registers_and wanted operands)

abbrev pub form_register : Wanted → (ℕ → Operation) → List (List ℕ) → Option Meaning
form_register wanted make operands =
    option_map (λ found. with_value (make found.0) found.1) (register_and wanted operands)

abbrev pub form_value : Wanted → Operation → List (List ℕ) → Option Meaning
form_value wanted operation operands = option_map (with_value operation) (one_value wanted operands)

-- ---- the statements

-- what a mnemonic or directive says of its operands; none where they are not of its form
abbrev pub statement_of : Mnemonic → List (List ℕ) → Option Meaning
statement_of (the.Op kind) operands =
    option_map (λ found. without_value (operation.Op kind found.0 found.1 found.2)) (three_registers operands)
statement_of (the.Immediate kind) operands = form_registers Number (operation.Immediate kind) operands
statement_of (the.Load kind) operands = form_place (operation.Load kind) operands
statement_of (the.Store kind) operands = form_place (λ rs2 rs1. operation.Store kind rs1 rs2) operands
statement_of (the.Branch kind) operands = form_registers Target (operation.Branch kind) operands
statement_of the.Lui operands = form_register Number operation.Lui operands
statement_of the.Auipc operands = form_register Number operation.Auipc operands
statement_of the.Jal operands = form_register Target operation.Jal operands
statement_of the.Jalr operands = form_place operation.Jalr operands
statement_of the.Fence operands = form_registers Number operation.Fence operands
statement_of the.Ecall operands = form_none operation.Ecall operands
statement_of the.Ebreak operands = form_none operation.Ebreak operands
statement_of the.Nop operands = form_none (operation.Immediate Addi 0 0) operands
statement_of the.Ret operands = form_none (operation.Jalr 0 1) operands
statement_of the.Mv operands =
    option_map (λ found. without_value (operation.Immediate Addi found.0 found.1)) (two_registers operands)
statement_of the.J operands = form_value Target (operation.Jal 0) operands
statement_of the.Li operands = form_register Number operation.Constant operands
statement_of the.La operands = form_register Label operation.Constant operands
statement_of the.Word operands = form_value Number operation.Word operands
statement_of the.Byte operands = form_value Number operation.Byte operands
statement_of the.Zero operands = form_value Number operation.Zero operands

-- what a statement says; the empty one says nothing
abbrev pub meaning_in : List ℕ → Option Meaning
meaning_in [] = Some (without_value operation.Nothing)
meaning_in (byte ∷ rest) =
    option_and_then (λ mnemonic. statement_of mnemonic (operands_of (byte ∷ rest)))
    (mnemonic_of (first_word (byte ∷ rest)))

-- what a line says; none where it is not of a form
abbrev pub said_by : List ℕ → Option Meaning
said_by line = option_and_then meaning_in (body_of line)

-- ---- registers

-- the registers of an operation are below 32
abbrev pub HasRegisters : Operation → Type 0
HasRegisters (operation.Op kind rd rs1 rs2) = (rd < 32) × (rs1 < 32) × (rs2 < 32)
HasRegisters (operation.Immediate kind rd rs1) = (rd < 32) × (rs1 < 32)
HasRegisters (operation.Load kind rd rs1) = (rd < 32) × (rs1 < 32)
HasRegisters (operation.Store kind rs1 rs2) = (rs1 < 32) × (rs2 < 32)
HasRegisters (operation.Jalr rd rs1) = (rd < 32) × (rs1 < 32)
HasRegisters (operation.Lui rd) = rd < 32
HasRegisters (operation.Auipc rd) = rd < 32
HasRegisters (operation.Fence rd rs1) = (rd < 32) × (rs1 < 32)
HasRegisters (operation.Branch kind rs1 rs2) = (rs1 < 32) × (rs2 < 32)
HasRegisters (operation.Jal rd) = rd < 32
HasRegisters (operation.Constant rd) = rd < 32
HasRegisters _ = ⊤
