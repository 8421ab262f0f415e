-- The bytes of operations with their numbers.
use Rattle.std.specs.Prelude.{ℕ, ℤ, pos, neg_ℤ, nat_abs, ◌+◌, ◌/◌, ◌%◌, ◌==◌, ◌&&◌, Bool, List, [], ◌∷◌, ◌++◌}
use Rattle.std.specs.Prelude.{replicate, Option, Some, None, if◌then◌else◌}
use Rattle.std.specs.Int.{to_le_bytes, w32}
use Rattle.rv32im_asm.specs.Sizes.{is_between}
use Rattle.rv32im_asm.specs.declared.statements.Operation.{Operation}
use Rattle.rv32im_asm.specs.declared.statements.Operation.TheVariants as the
use Rattle.rv32im_decode.specs.Encoding.{encoded}
use Rattle.rv32im_decode.specs.Formats.{sign_extended}
use Rattle.rv32im_decode.specs.Operations.{word_of}
use Rattle.rv32im_decode.specs.Listings.{is_shift}
use Rattle.rv32im_decode.specs.declared.instructions.ImmKind.{ImmKind}
use Rattle.rv32im_decode.specs.declared.instructions.ImmKind.TheVariants.{Addi}
use Rattle.rv32im_decode.specs.declared.instructions.Instr.{Instr}
use Rattle.rv32im_decode.specs.declared.instructions.Instr.TheVariants as instr

-- a word in four bytes, the lowest first
abbrev pub word_bytes : ℕ → List ℕ
word_bytes word = to_le_bytes w32 word

abbrev pub instruction_bytes : Instr → List ℕ
instruction_bytes instruction = word_bytes (encoded instruction)

-- the instruction, where its number fits
abbrev pub if_fits : Bool → Instr → Option (List ℕ)
if_fits fits instruction = if fits then Some (instruction_bytes instruction) else None

-- an immediate of 12 bits
abbrev pub is_immediate : ℤ → Bool
is_immediate number = is_between (neg_ℤ (pos 2048)) (pos 2047) number

-- the immediate of a register-immediate instruction: a shift goes by 0 to 31 places
abbrev pub is_operand : ImmKind → ℤ → Bool
is_operand kind number = if is_shift kind then is_between (pos 0) (pos 31) number else is_immediate number

-- an even number
abbrev pub is_even : ℤ → Bool
is_even number = nat_abs number % 2 == 0

-- offsets of branches and of jumps
abbrev pub is_branch_offset : ℤ → Bool
is_branch_offset number = is_between (neg_ℤ (pos 4096)) (pos 4095) number && is_even number

abbrev pub is_jump_offset : ℤ → Bool
is_jump_offset number = is_between (neg_ℤ (pos 1048576)) (pos 1048575) number && is_even number

-- the upper 20 bits of LUI whose sum with the sign-extended lower 12 bits is the word
abbrev pub high_part : ℕ → ℕ
high_part word = (word + 2048) % 4294967296 / 4096

abbrev pub low_part : ℕ → ℤ
low_part word = sign_extended 2048 (word % 4096)

-- LUI and ADDI that put a word into a register
abbrev pub constant_bytes : ℕ → ℕ → List ℕ
constant_bytes rd word =
    instruction_bytes (instr.Lui rd (high_part word)) ++ instruction_bytes (instr.OpImm Addi rd rd (low_part word))

-- the bytes of an operation; none where its number does not fit
abbrev pub bytes_with : Operation → ℤ → Option (List ℕ)
bytes_with the.Nothing number = Some []
bytes_with (the.Op kind rd rs1 rs2) number = Some (instruction_bytes (instr.Op kind rd rs1 rs2))
bytes_with the.Ecall number = Some (instruction_bytes instr.Ecall)
bytes_with the.Ebreak number = Some (instruction_bytes instr.Ebreak)
bytes_with (the.Immediate kind rd rs1) number = if_fits (is_operand kind number) (instr.OpImm kind rd rs1 number)
bytes_with (the.Load kind rd rs1) number = if_fits (is_immediate number) (instr.Load kind rd rs1 number)
bytes_with (the.Store kind rs1 rs2) number = if_fits (is_immediate number) (instr.Store kind rs1 rs2 number)
bytes_with (the.Jalr rd rs1) number = if_fits (is_immediate number) (instr.Jalr rd rs1 number)
bytes_with (the.Lui rd) number =
    if_fits (is_between (pos 0) (pos 1048575) number) (instr.Lui rd (nat_abs number))
bytes_with (the.Auipc rd) number =
    if_fits (is_between (pos 0) (pos 1048575) number) (instr.Auipc rd (nat_abs number))
bytes_with (the.Fence rd rs1) number =
    if_fits (is_between (pos 0) (pos 4095) number) (instr.Fence rd rs1 (nat_abs number))
bytes_with (the.Branch kind rs1 rs2) number = if_fits (is_branch_offset number) (instr.Branch kind rs1 rs2 number)
bytes_with (the.Jal rd) number = if_fits (is_jump_offset number) (instr.Jal rd number)
bytes_with (the.Constant rd) number = Some (constant_bytes rd (word_of number))
bytes_with the.Word number = Some (word_bytes (word_of number % 4294967296))
bytes_with the.Byte number =
    if is_between (neg_ℤ (pos 128)) (pos 255) number then Some (word_of number % 256 ∷ []) else None
bytes_with the.Zero number =
    if is_between (pos 0) (pos 1048576) number then Some (replicate (nat_abs number) 0) else None
