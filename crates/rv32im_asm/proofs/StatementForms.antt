-- What a mnemonic says of its operands, by their form.
use Rattle.std.proofs.Common.{◌≡◌, ℕ, Bool, true, false, List, Option, Some, None, option_map, if◌then◌else◌, refl, sym, ap, ◌∙◌}
use Rattle.rv32im_asm.specs.Private.Forms.{Found, form_of, found_in, found_of, of_none, of_place, of_register, of_registers}
use Rattle.rv32im_asm.specs.Private.Forms.{of_three, of_two, of_value, said}
use Rattle.rv32im_asm.specs.Statements.{Meaning, has_no_operand, one_value, register_and, register_and_place}
use Rattle.rv32im_asm.specs.Statements.{registers_and, statement_of, three_registers, two_registers}
use Rattle.rv32im_asm.specs.declared.statements.Form.{Form}
use Rattle.rv32im_asm.specs.declared.statements.Mnemonic.{Mnemonic}
use Rattle.rv32im_asm.specs.declared.statements.Mnemonic.TheVariants as the
use Rattle.rv32im_asm.specs.declared.statements.Operands.{Operands}
use Rattle.rv32im_asm.specs.declared.statements.Wanted.TheVariants.{Number, Target, Label}

mapped_once : {A : Type 0} (first : A → Found) (second : Found → Meaning) (parts : Option A) →
    option_map (λ found. second (first found)) parts ≡ option_map second (option_map first parts)
mapped_once first second None = refl
mapped_once first second (Some found) = refl

chosen_once : (second : Found → Meaning) (found : Found) (test : Bool) →
    (if test then Some (second found) else None) ≡ option_map second (if test then Some found else None)
chosen_once second found true = refl
chosen_once second found false = refl

pub statement_found : (mnemonic : Mnemonic) (operands : List (List ℕ)) →
    statement_of mnemonic operands ≡ option_map (said mnemonic) (found_in (form_of mnemonic) operands)
statement_found (the.Op kind) operands = mapped_once of_three (said (the.Op kind)) (three_registers operands)
statement_found (the.Immediate kind) operands = mapped_once of_registers (said (the.Immediate kind)) (registers_and Number operands)
statement_found (the.Load kind) operands = mapped_once of_place (said (the.Load kind)) (register_and_place operands)
statement_found (the.Store kind) operands = mapped_once of_place (said (the.Store kind)) (register_and_place operands)
statement_found (the.Branch kind) operands = mapped_once of_registers (said (the.Branch kind)) (registers_and Target operands)
statement_found the.Lui operands = mapped_once of_register (said the.Lui) (register_and Number operands)
statement_found the.Auipc operands = mapped_once of_register (said the.Auipc) (register_and Number operands)
statement_found the.Jal operands = mapped_once of_register (said the.Jal) (register_and Target operands)
statement_found the.Jalr operands = mapped_once of_place (said the.Jalr) (register_and_place operands)
statement_found the.Fence operands = mapped_once of_registers (said the.Fence) (registers_and Number operands)
statement_found the.Ecall operands = chosen_once (said the.Ecall) of_none (has_no_operand operands)
statement_found the.Ebreak operands = chosen_once (said the.Ebreak) of_none (has_no_operand operands)
statement_found the.Nop operands = chosen_once (said the.Nop) of_none (has_no_operand operands)
statement_found the.Ret operands = chosen_once (said the.Ret) of_none (has_no_operand operands)
statement_found the.Mv operands = mapped_once of_two (said the.Mv) (two_registers operands)
statement_found the.J operands = mapped_once of_value (said the.J) (one_value Target operands)
statement_found the.Li operands = mapped_once of_register (said the.Li) (register_and Number operands)
statement_found the.La operands = mapped_once of_register (said the.La) (register_and Label operands)
statement_found the.Word operands = mapped_once of_value (said the.Word) (one_value Number operands)
statement_found the.Byte operands = mapped_once of_value (said the.Byte) (one_value Number operands)
statement_found the.Zero operands = mapped_once of_value (said the.Zero) (one_value Number operands)

-- what a mnemonic makes of operands of the code
pub statement_given : (mnemonic : Mnemonic) (operands : List (List ℕ)) (form : Form) (given : Option Operands) →
    form ≡ form_of mnemonic → option_map found_of given ≡ found_in form operands →
    option_map (λ parts. said mnemonic (found_of parts)) given ≡ statement_of mnemonic operands
statement_given mnemonic operands form None same found =
    ap (option_map (said mnemonic)) (found ∙ ap (λ f. found_in f operands) same) ∙ sym (statement_found mnemonic operands)
statement_given mnemonic operands form (Some parts) same found =
    ap (option_map (said mnemonic)) (found ∙ ap (λ f. found_in f operands) same) ∙ sym (statement_found mnemonic operands)
