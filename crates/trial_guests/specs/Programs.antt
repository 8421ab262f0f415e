-- The program of a number: it reads its secret to 0x80000, keeps the lowest bits of each byte, writes the bytes and exits.
use Rattle.std.specs.Prelude.{ℕ, zero, suc, pos, ◌+◌, ◌-◌, ◌%◌, ◌^◌, List, [], ◌∷◌, ◌++◌}
use Rattle.std.specs.Int.{to_le_bytes, w32}
use Rattle.elf32_loader.specs.Pictures.{Picture}
use Rattle.rv32im_decode.specs.declared.instructions.ImmKind.TheVariants.{Addi, Andi}
use Rattle.rv32im_decode.specs.declared.instructions.Instr.{Instr}
use Rattle.rv32im_decode.specs.declared.instructions.Instr.TheVariants.{Lui, Load, Store, OpImm, Ecall}
use Rattle.rv32im_decode.specs.declared.instructions.LoadKind.TheVariants.{Lbu}
use Rattle.rv32im_decode.specs.declared.instructions.StoreKind.TheVariants.{Sb}
use Rattle.rv32im_decode.specs.Encoding.{encoded}
use Rattle.trial_guests.specs.Secrets.{length_of}

-- reads at most 2000 bytes of the secret to 0x80000
abbrev pub opening : List Instr
opening = OpImm Addi 10 0 (pos 3) ∷ Lui 11 128 ∷ OpImm Addi 12 0 (pos 2000) ∷ OpImm Addi 17 0 (pos 63) ∷ Ecall ∷ []

-- how many bits are kept of the byte at an index, 1 to 7
abbrev pub width_of : ℕ → ℕ → ℕ
width_of number index = 1 + (number + index) % 7

-- keeps the lowest bits of the byte at an index
abbrev pub masking : ℕ → ℕ → List Instr
masking index width =
    Load Lbu 6 11 (pos index) ∷ OpImm Andi 6 6 (pos (2 ^ width - 1)) ∷ Store Sb 11 6 (pos index) ∷ []

-- the same for so many bytes from an index on
abbrev pub maskings : ℕ → ℕ → ℕ → List Instr
maskings zero number index = []
maskings (suc count) number index = masking index (width_of number index) ++ maskings count number (index + 1)

-- writes as many bytes as were read, and exits with status 0
abbrev pub closing : List Instr
closing =
    OpImm Addi 12 10 (pos 0) ∷ OpImm Addi 10 0 (pos 1) ∷ OpImm Addi 17 0 (pos 64) ∷ Ecall
    ∷ OpImm Addi 10 0 (pos 0) ∷ OpImm Addi 17 0 (pos 93) ∷ Ecall ∷ []

abbrev pub program_of : ℕ → List Instr
program_of number = opening ++ (maskings (length_of number) number 0 ++ closing)

-- the words of instructions, the lowest byte of each first
abbrev pub code_of : List Instr → List ℕ
code_of [] = []
code_of (instr ∷ instrs) = to_le_bytes w32 (encoded instr) ++ code_of instrs

-- one segment at 0x10000, which is the base and the entry
abbrev pub one_segment : List ℕ → Picture
one_segment code =
    record { base = 65536; entry = 65536; segments = record { address = 65536; bytes = code } ∷ [] }

abbrev pub picture_of_number : ℕ → Picture
picture_of_number number = one_segment (code_of (program_of number))
