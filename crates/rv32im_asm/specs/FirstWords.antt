-- The first words of statements: mnemonics and directives.
use Rattle.std.specs.Prelude.{ℕ, List, [], ◌∷◌, ◌++◌, map, codes, Option}
use Rattle.std.specs.Map.{lookup}
use Rattle.std.specs.Str.{bytes_eq}
use Rattle.rv32im_asm.specs.declared.statements.Mnemonic.{Mnemonic}
use Rattle.rv32im_asm.specs.declared.statements.Mnemonic.TheVariants as the
use Rattle.rv32im_decode.specs.declared.instructions.BranchKind.TheVariants.{Beq, Bne, Blt, Bge, Bltu, Bgeu}
use Rattle.rv32im_decode.specs.declared.instructions.ImmKind.TheVariants.{Addi, Slti, Sltiu, Xori, Ori, Andi, Slli}
use Rattle.rv32im_decode.specs.declared.instructions.ImmKind.TheVariants.{Srli, Srai}
use Rattle.rv32im_decode.specs.declared.instructions.LoadKind.TheVariants.{Lb, Lh, Lw, Lbu, Lhu}
use Rattle.rv32im_decode.specs.declared.instructions.OpKind.TheVariants.{Add, Sub, Sll, Slt, Sltu, Xor, Srl, Sra, Or}
use Rattle.rv32im_decode.specs.declared.instructions.OpKind.TheVariants.{And, Mul, Mulh, Mulhsu, Mulhu, Div, Divu}
use Rattle.rv32im_decode.specs.declared.instructions.OpKind.TheVariants.{Rem, Remu}
use Rattle.rv32im_decode.specs.declared.instructions.StoreKind.TheVariants.{Sb, Sh, Sw}
use Rattle.rv32im_asm.specs.Mnemonics.{branch_name, immediate_name, load_name, operation_name, store_name}

-- what the names of these kinds stand for
abbrev pub named : {Kind : Type 0} → (Kind → List ℕ) → (Kind → Mnemonic) → List Kind → List (List ℕ × Mnemonic)
named name make kinds = map (λ kind. (name kind, make kind)) kinds

-- what each word stands for
unfoldable pub first_words : List (List ℕ × Mnemonic)
first_words =
    named operation_name the.Op (Add ∷ Sub ∷ Sll ∷ Slt ∷ Sltu ∷ Xor ∷ Srl ∷ Sra ∷ Or ∷ And ∷ Mul ∷ Mulh ∷ Mulhsu
    ∷ Mulhu ∷ Div ∷ Divu ∷ Rem ∷ Remu ∷ [])
    ++ named immediate_name the.Immediate (Addi ∷ Slti ∷ Sltiu ∷ Xori ∷ Ori ∷ Andi ∷ Slli ∷ Srli ∷ Srai ∷ [])
    ++ named load_name the.Load (Lb ∷ Lh ∷ Lw ∷ Lbu ∷ Lhu ∷ []) ++ named store_name the.Store (Sb ∷ Sh ∷ Sw ∷ [])
    ++ named branch_name the.Branch (Beq ∷ Bne ∷ Blt ∷ Bge ∷ Bltu ∷ Bgeu ∷ [])
    ++ (codes "lui", the.Lui) ∷ (codes "auipc", the.Auipc) ∷ (codes "jal", the.Jal) ∷ (codes "jalr", the.Jalr)
    ∷ (codes "fence", the.Fence) ∷ (codes "ecall", the.Ecall) ∷ (codes "ebreak", the.Ebreak)
    ∷ (codes "nop", the.Nop) ∷ (codes "ret", the.Ret) ∷ (codes "mv", the.Mv) ∷ (codes "j", the.J)
    ∷ (codes "li", the.Li) ∷ (codes "la", the.La) ∷ (codes ".word", the.Word) ∷ (codes ".byte", the.Byte)
    ∷ (codes ".zero", the.Zero) ∷ []

-- what a word stands for
abbrev pub mnemonic_of : List ℕ → Option Mnemonic
mnemonic_of word = lookup (λ name. bytes_eq name word) first_words
