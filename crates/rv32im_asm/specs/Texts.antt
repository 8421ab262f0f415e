-- The text of an instruction: the mnemonic, a space, and the operands with a comma and a space between them. Registers
-- are x0 to x31; numbers, and the offsets of jumps and branches in bytes, are decimal.
use Rattle.std.specs.Prelude.{ℕ, ℤ, List, ◌++◌, codes}
use Rattle.std.specs.Fmt.{decimal, signed_decimal}
use Rattle.rv32im_decode.specs.declared.instructions.Instr.{Instr}
use Rattle.rv32im_decode.specs.declared.instructions.Instr.TheVariants.{Lui, Auipc, Jal, Jalr, Branch, Load, Store}
use Rattle.rv32im_decode.specs.declared.instructions.Instr.TheVariants.{OpImm, Op, Fence, Ecall, Ebreak}
use Rattle.rv32im_asm.specs.Mnemonics.{branch_name, load_name, store_name, immediate_name, operation_name}

-- three registers
abbrev pub registers_text : List ℕ → ℕ → ℕ → ℕ → List ℕ
registers_text name first second third =
    name ++ (codes " x" ++ (decimal first ++ (codes ", x" ++ (decimal second ++ (codes ", x" ++ decimal third)))))

-- two registers and a number
abbrev pub immediate_text : List ℕ → ℕ → ℕ → ℤ → List ℕ
immediate_text name first second number =
    name ++ (codes " x" ++ (decimal first ++ (codes ", x" ++ (decimal second
    ++ (codes ", " ++ signed_decimal number)))))

-- a register, and the place of memory at an offset from another
abbrev pub memory_text : List ℕ → ℕ → ℤ → ℕ → List ℕ
memory_text name register offset base =
    name ++ (codes " x" ++ (decimal register ++ (codes ", " ++ (signed_decimal offset
    ++ (codes "(x" ++ (decimal base ++ codes ")"))))))

-- a register and the upper bits of a word
abbrev pub upper_text : List ℕ → ℕ → ℕ → List ℕ
upper_text name register number = name ++ (codes " x" ++ (decimal register ++ (codes ", " ++ decimal number)))

abbrev pub instruction_text : Instr → List ℕ
instruction_text (Lui rd imm) = upper_text (codes "lui") rd imm
instruction_text (Auipc rd imm) = upper_text (codes "auipc") rd imm
instruction_text (Jal rd offset) = codes "jal x" ++ (decimal rd ++ (codes ", " ++ signed_decimal offset))
instruction_text (Jalr rd rs1 imm) = memory_text (codes "jalr") rd imm rs1
instruction_text (Branch kind rs1 rs2 offset) = immediate_text (branch_name kind) rs1 rs2 offset
instruction_text (Load kind rd rs1 imm) = memory_text (load_name kind) rd imm rs1
instruction_text (Store kind rs1 rs2 imm) = memory_text (store_name kind) rs2 imm rs1
instruction_text (OpImm kind rd rs1 imm) = immediate_text (immediate_name kind) rd rs1 imm
instruction_text (Op kind rd rs1 rs2) = registers_text (operation_name kind) rd rs1 rs2
instruction_text (Fence rd rs1 imm) =
    codes "fence x" ++ (decimal rd ++ (codes ", x" ++ (decimal rs1 ++ (codes ", " ++ decimal imm))))
instruction_text Ecall = codes "ecall"
instruction_text Ebreak = codes "ebreak"
