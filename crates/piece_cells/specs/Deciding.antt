-- What is computed and decided from two cells.
use Rattle.std.specs.Prelude.{◌≡◌, ℕ, ◌<◌, ◌^◌, List, true, false, Option, Some, None}
use Rattle.rv32im_decode.specs.declared.instructions.BranchKind.{BranchKind}
use Rattle.rv32im_decode.specs.Operations.{is_taken}
use Rattle.rv32im_machine.specs.declared.language.Operation.{Operation}
use Rattle.rv32im_machine.specs.Language.{computed}
use Rattle.piece_cells.specs.Cells.{Bytes, HasBits, Has, Holds, Knows}
use Rattle.piece_cells.specs.declared.cells.Bits.{Bits}
use Rattle.piece_cells.specs.declared.cells.Cell.{Cell}
use Rattle.piece_cells.specs.declared.deciding.Decided.{Decided}
use Rattle.piece_cells.specs.declared.deciding.Decided.TheVariants.{Known as IsKnown, ByTable, Open}
use Rattle.piece_cells.specs.declared.unknowns.Known.{Known}

-- the fact holds of every two words that the two cells may be
abbrev pub Each : List Known → Cell → Cell → (Bytes → ℕ → ℕ → Type 0) → Type 0
Each unknowns first second Fact =
    (bytes : Bytes) (one other : ℕ) → one < 2 ^ 32 → other < 2 ^ 32 → Knows unknowns bytes →
    Has bytes first one → Has bytes second other → Fact bytes one other

-- the cell has what the operation gives of the words of two cells
abbrev pub Computes : Operation → List Known → Cell → Cell → Cell → Type 0
Computes operation unknowns first second cell =
    Each unknowns first second (λ bytes one other. Has bytes cell (computed operation one other))

-- what is decided is so for two words
abbrev pub IsDecided : BranchKind → Decided → Bytes → ℕ → ℕ → Type 0
IsDecided kind (IsKnown taken) bytes one other = is_taken kind one other ≡ taken
IsDecided kind (ByTable unknown taken left) bytes one other =
    (is_taken kind one other ≡ true → Holds taken (bytes unknown))
    × (is_taken kind one other ≡ false → Holds left (bytes unknown))
IsDecided kind Open bytes one other = Unit {0}

-- there are bits that both words have
abbrev pub HaveBits : Option (Bits × Bits) → ℕ → ℕ → Type 0
HaveBits (Some both) one other = HasBits both.0 one × HasBits both.1 other
HaveBits None one other = ⊥
